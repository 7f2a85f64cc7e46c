-- The bytes of descriptors (JVMS 4.3).
use Rattle.std.specs.Prelude.{◌≡◌, ◌<◌, ◌++◌, ◌∷◌, [], ℕ, true, List, Option, Some, None, flat_map}
use Rattle.std.specs.List.{AllByRecursion}
use Rattle.std.specs.Str.{byte}
use Rattle.class_model.specs.ClassNames.{is_class_name}
use Rattle.class_model.specs.Descriptors.{FieldType, primitive, object, array, dimensions, is_primitive, MethodType}

-- JVMS 4.3.2
abbrev pub type_text : FieldType → List ℕ
type_text (primitive letter) = letter ∷ []
type_text (object name) = byte "L" ∷ name ++ byte ";" ∷ []
type_text (array component) = byte "[" ∷ type_text component

-- a letter of a type, the name of a class, or an array of at most 255 dimensions
abbrev pub IsFieldType : FieldType → Type 0
IsFieldType (primitive letter) = is_primitive letter ≡ true
IsFieldType (object name) = is_class_name name ≡ true
IsFieldType (array component) = (dimensions component < 255) × IsFieldType component

-- a result that is none is void (JVMS 4.3.3)
abbrev pub result_text : Option FieldType → List ℕ
result_text None = byte "V" ∷ []
result_text (Some type) = type_text type

abbrev pub IsResult : Option FieldType → Type 0
IsResult None = Unit {0}
IsResult (Some type) = IsFieldType type

abbrev pub method_text : MethodType → List ℕ
method_text m = byte "(" ∷ flat_map type_text m.parameters ++ byte ")" ∷ result_text m.returned

abbrev pub IsMethodType : MethodType → Type 0
IsMethodType m = AllByRecursion IsFieldType m.parameters × IsResult m.returned
