-- The kinds of slots (JVMS 4.10.1.2).
use Rattle.std.specs.Prelude.{Bool, true, false, ◌&&◌, ◌||◌, List, [], ◌∷◌}
use Rattle.jvm_tables.specs.declared.instruction.ValueKind.{ValueKind}
use Rattle.jvm_tables.specs.declared.instruction.ValueKind.TheVariants as values
use Rattle.class_verify.specs.declared.kinds.Kind.{Kind}
use Rattle.class_verify.specs.declared.kinds.Kind.TheVariants as kinds

abbrev pub is_top : Kind → Bool
is_top kinds.Top = true
is_top _ = false

abbrev pub is_int : Kind → Bool
is_int kinds.Int = true
is_int _ = false

abbrev pub is_long : Kind → Bool
is_long kinds.Long = true
is_long _ = false

abbrev pub is_reference : Kind → Bool
is_reference kinds.Reference = true
is_reference _ = false

-- a slot is of a kind
abbrev pub is_kind : Kind → Kind → Bool
is_kind kinds.Top = is_top
is_kind kinds.Int = is_int
is_kind kinds.Long = is_long
is_kind kinds.Reference = is_reference

-- the kind of a whole value in one slot
abbrev pub is_single : Kind → Bool
is_single kinds.Int = true
is_single kinds.Reference = true
is_single _ = false

-- two values of one slot each, or a long
abbrev pub is_pair : Kind → Kind → Bool
is_pair top next = is_single top && is_single next || is_top top && is_long next

-- a kind fits itself and Top
abbrev pub fits : Kind → Kind → Bool
fits kind wanted = is_kind kinds.Top wanted || is_kind wanted kind

-- as many kinds fit, each the one at its place
abbrev pub all_fit : List Kind → List Kind → Bool
all_fit [] [] = true
all_fit (kind ∷ kinds) (wanted ∷ others) = fits kind wanted && all_fit kinds others
all_fit _ _ = false

-- the slots of a value, in order
abbrev pub slots : ValueKind → List Kind
slots values.Int = kinds.Int ∷ []
slots values.Long = kinds.Long ∷ kinds.Top ∷ []
slots values.Reference = kinds.Reference ∷ []
