-- Which part of a pool has no text, the first in file order.
use Rattle.std.specs.Prelude.{◌≡◌, ℕ, ◌+◌, ◌^◌, Bool, true, false, not, ◌&&◌, ◌==◌, nat_lt, nat_le, List, [], ◌∷◌, length, Option, Some, None, if◌then◌else◌}
use Rattle.std.specs.Option.{option_or}
use Rattle.class_model.specs.declared.constant_pool.Constant.{Constant}
use Rattle.class_model.specs.declared.constant_pool.Constant.TheVariants.{Utf8, Ref}
use Rattle.class_model.specs.declared.constant_pool.Pool.{Pool}
use Rattle.class_model.specs.Units.{is_text}
use Rattle.class_model.specs.Constants.{field_tag, interface_method_tag, has_targets, takes_two, is_second}
use Rattle.const_pool.specs.declared.write_fault.Part.TheVariants as parts
use Rattle.const_pool.specs.declared.write_fault.WriteFault.{WriteFault}
use Rattle.const_pool.specs.declared.write_fault.WriteFault.TheVariants.{TooLarge, BadShape, Memory}

-- the length of a text fits its field
abbrev pub is_short : Constant → Bool
is_short (Utf8 bytes) = nat_lt (length bytes) (2 ^ 16)
is_short _ = true

-- a text, and a tag of a reference
abbrev pub is_formed : Constant → Bool
is_formed (Utf8 bytes) = is_text bytes
is_formed (Ref tag class name_type) = nat_le field_tag tag && nat_le tag interface_method_tag
is_formed _ = true

-- A Second stands where one is due and nowhere else, and a Long or Double isn't the last.
abbrev pub is_placed : Bool → Bool → Constant → Bool
is_placed due last constant = (if due then is_second constant else not (is_second constant)) && not (takes_two constant && last)

abbrev pub may_stand : Pool → Bool → Bool → Constant → Bool
may_stand pool due last constant = is_formed constant && is_placed due last constant && has_targets pool constant

-- why the constant of a number has no text there
unfoldable pub misfit_of : Pool → ℕ → Bool → Bool → Constant → Option WriteFault
misfit_of pool number due last constant =
    if not (is_short constant) then Some (TooLarge (parts.Constant number))
    else if not (may_stand pool due last constant) then Some (BadShape (parts.Constant number))
    else None

-- the first misfit of the constants from a number on; `due` says that a Second is to come
unfoldable pub misfit_from : Pool → ℕ → Bool → List Constant → Option WriteFault
misfit_from pool number due [] = None
misfit_from pool number due (constant ∷ constants) =
    option_or (misfit_of pool number due (length constants == 0) constant) (misfit_from pool (number + 1) (takes_two constant) constants)

-- the count is looked at first
unfoldable pub misfit : Pool → Option WriteFault
misfit pool =
    if nat_lt (length pool.constants + 1) (2 ^ 16) then misfit_from pool 1 false pool.constants else Some (TooLarge parts.Pool)

-- A refusal names this misfit; of a want of memory nothing is said.
abbrev pub Names : WriteFault → Option WriteFault → Type 0
Names Memory found = Unit {0}
Names (TooLarge part) found = found ≡ Some (TooLarge part)
Names (BadShape part) found = found ≡ Some (BadShape part)
