-- What descriptors say of the kinds of values (JVMS 2.11.1, 4.3.2, 4.3.3).
use Rattle.std.specs.Prelude.{ℕ, Bool, true, false, not, ◌||◌, ◌==◌, List, [], ◌∷◌, ◌++◌, filter_map, Option, Some, None, option_map, option_and_then, unwrap_or, if◌then◌else◌}
use Rattle.std.specs.Str.{byte}
use Rattle.jvm_tables.specs.declared.instruction.ValueKind.{ValueKind}
use Rattle.jvm_tables.specs.declared.instruction.ValueKind.TheVariants.{Int, Long, Reference}
use Rattle.class_model.specs.TypeForms.{type_of}
use Rattle.class_code.specs.declared.types.Returned.{Returned}
use Rattle.class_model.specs.Descriptors.{FieldType, primitive, object, array, field_type, MethodType, method_type}

abbrev pub is_float_letter : ℕ → Bool
is_float_letter letter = letter == byte "F" || letter == byte "D"

-- boolean, byte, char, short and int are ints; a float and a double have no kind here
abbrev pub kind : FieldType → Option ValueKind
kind (primitive letter) =
    if letter == byte "J" then Some Long
    else if is_float_letter letter then None
    else Some Int
kind (object name) = Some Reference
kind (array component) = Some Reference

-- the kind of the type that a field descriptor spells
abbrev pub kind_of : List ℕ → Option ValueKind
kind_of descriptor = option_and_then kind (field_type descriptor)

-- the name of a class that is no array
abbrev pub object_name : FieldType → Option (List ℕ)
object_name (object name) = Some name
object_name _ = None

-- the result of the method type that a descriptor spells, which is None for void
abbrev pub result_type : List ℕ → Option (Option FieldType)
result_type descriptor = option_map (λ m. m.returned) (method_type descriptor)

-- a method's type by the kinds that it takes, in order, and the type of its result, which is None for void
pub record Signature : Type 0 where
  pub takes : List ValueKind
  pub returned : Option FieldType

abbrev pub signature : MethodType → Signature
signature m = record { takes = filter_map kind m.parameters; returned = m.returned }

-- that of the method type that a descriptor spells
abbrev pub signature_of : List ℕ → Option Signature
signature_of descriptor = option_map signature (method_type descriptor)

-- the kind of the result, which is None for void
abbrev pub gives : Signature → Option ValueKind
gives s = option_and_then kind s.returned

-- the kinds of a method's parameters, and that of its result, by its descriptor
abbrev pub parameter_kinds : List ℕ → List ValueKind
parameter_kinds descriptor = unwrap_or (option_map (λ s. s.takes) (signature_of descriptor)) []

abbrev pub result_kind : List ℕ → Option ValueKind
result_kind descriptor = option_and_then gives (signature_of descriptor)

-- kinds that were there, with a method's behind them
abbrev pub after : List ValueKind → Signature → Signature
after before s = record { takes = before ++ s.takes; returned = s.returned }

-- what the code holds of a signature
abbrev pub result_of : Returned → Option FieldType
result_of r = option_map type_of r.form

abbrev pub read : List ValueKind → Returned → Signature
read kinds r = record { takes = kinds; returned = result_of r }

-- F or D stands outside of the names of classes, which go from an L up to a semicolon
abbrev pub float_after : Bool → List ℕ → Bool
float_after in_name [] = false
float_after true (b ∷ bytes) = float_after (not (b == byte ";")) bytes
float_after false (b ∷ bytes) = is_float_letter b || float_after (b == byte "L") bytes

-- a descriptor, of a field or of a method, has a float or a double, or an array of them
abbrev pub has_float : List ℕ → Bool
has_float descriptor = float_after false descriptor
