-- Types as they are stored.
use Rattle.std.specs.Prelude.{◌≡◌, ◌⊎◌, ℕ, zero, suc, List, refl}
use Rattle.std.specs.Coded.{Coded, code_by, coded×, coded⊎, coded_list, coded_ℕ}
use Rattle.class_model.specs.Descriptors.{FieldType, primitive, object, array}
use mathlib.Core.Logic.{inl, inr}
use mathlib.Core.Path.{ap}

-- a primitive type by its letter or a class by its name, under so many arrays
abbrev parts : FieldType → ℕ × (ℕ ⊎ List ℕ)
parts (primitive letter) = (0, inl letter)
parts (object name) = (0, inr name)
parts (array t) = (suc (parts t).0, (parts t).1)

abbrev component : ℕ ⊎ List ℕ → FieldType
component (inl letter) = primitive letter
component (inr name) = object name

abbrev arrays : ℕ → FieldType → FieldType
arrays zero t = t
arrays (suc n) t = array (arrays n t)

pub whole : (t : FieldType) → arrays (parts t).0 (component (parts t).1) ≡ t
whole (primitive letter) = refl
whole (object name) = refl
whole (array t) = ap array (whole t)

abbrev pub field_type_code : Coded FieldType
field_type_code = code_by (ℕ × (ℕ ⊎ List ℕ)) (coded× coded_ℕ (coded⊎ coded_ℕ (coded_list coded_ℕ))) parts (λ p. arrays p.0 (component p.1)) whole
