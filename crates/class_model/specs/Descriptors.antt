-- Descriptors (JVMS 4.3), read from the left.
use Rattle.std.specs.Prelude.{ℕ, zero, suc, ◌+◌, Bool, false, ◌||◌, ◌==◌, nat_lt, nat_le, List, [], ◌∷◌, length, take, drop, codes, sum_by, position, Option, Some, None, is_some, option_map, option_and_then, if◌then◌else◌}
use Rattle.std.specs.List.{list_any}
use Rattle.std.specs.Str.{byte}
use Rattle.class_model.specs.ClassNames.{is_class_name}

-- a type: one of the letters B C D F I J S Z, a class, or an array of a component type
pub data FieldType : Type 0 where
  primitive : ℕ → FieldType
  object : List ℕ → FieldType
  array : FieldType → FieldType

abbrev pub dimensions : FieldType → ℕ
dimensions (primitive letter) = 0
dimensions (object name) = 0
dimensions (array component) = dimensions component + 1

-- a long and a double take two slots, all else one (JVMS 4.3.3)
abbrev pub slots : FieldType → ℕ
slots (primitive letter) = if letter == byte "J" || letter == byte "D" then 2 else 1
slots (object name) = 1
slots (array component) = 1

abbrev pub is_primitive : ℕ → Bool
is_primitive letter = list_any (λ b. b == letter) (codes "BCDFIJSZ")

-- the class that is named up to the first semicolon, and what stands behind that
abbrev pub class_up_to : List ℕ → ℕ → Option (FieldType × List ℕ)
class_up_to bytes n = if is_class_name (take n bytes) then Some (object (take n bytes), drop (n + 1) bytes) else None

abbrev pub is_semicolon : ℕ → Bool
is_semicolon b = b == byte ";"

-- a type that is no array
unfoldable pub component_at : List ℕ → Option (FieldType × List ℕ)
component_at [] = None
component_at (b ∷ bytes) =
    if is_primitive b then Some (primitive b, bytes)
    else if b == byte "L" then option_and_then (class_up_to bytes) (position is_semicolon bytes)
    else None

-- one more dimension, of at most 255
abbrev pub deeper : FieldType × List ℕ → Option (FieldType × List ℕ)
deeper found = if nat_lt (dimensions found.0) 255 then Some (array found.0, found.1) else None

-- the type at the front, and what stands behind it
unfoldable pub field_type_at : List ℕ → Option (FieldType × List ℕ)
field_type_at [] = None
field_type_at (b ∷ bytes) =
    if b == byte "[" then option_and_then deeper (field_type_at bytes) else component_at (b ∷ bytes)

abbrev pub alone : FieldType × List ℕ → Option FieldType
alone (found, []) = Some found
alone (found, b ∷ bytes) = None

-- the type that a field descriptor spells
unfoldable pub field_type : List ℕ → Option FieldType
field_type bytes = option_and_then alone (field_type_at bytes)

abbrev pub is_field_descriptor : List ℕ → Bool
is_field_descriptor bytes = is_some (field_type bytes)

-- the types up to a closing parenthesis, of which there are at most `most`, and what stands behind it
abbrev pub with_first : FieldType → List FieldType × List ℕ → List FieldType × List ℕ
with_first first others = (first ∷ others.0, others.1)

unfoldable pub field_types_at : ℕ → List ℕ → Option (List FieldType × List ℕ)
field_types_at most [] = None
field_types_at zero (b ∷ bytes) = if b == byte ")" then Some ([], bytes) else None
field_types_at (suc most) (b ∷ bytes) =
    if b == byte ")" then Some ([], bytes)
    else option_and_then (λ found. option_map (with_first found.0) (field_types_at most found.1)) (field_type_at (b ∷ bytes))

-- a method's parameters and its result, which is None for void (JVMS 4.3.3)
pub record MethodType : Type 0 where
  pub parameters : List FieldType
  pub returned : Option FieldType

abbrev pub is_void : List ℕ → Bool
is_void [] = false
is_void (b ∷ []) = b == byte "V"
is_void (b ∷ c ∷ bytes) = false

abbrev pub return_type : List ℕ → Option (Option FieldType)
return_type bytes = if is_void bytes then Some None else option_map Some (field_type bytes)

abbrev pub is_return_descriptor : List ℕ → Bool
is_return_descriptor bytes = is_some (return_type bytes)

abbrev pub behind : List FieldType × List ℕ → Option MethodType
behind found = option_map (λ r. record { parameters = found.0; returned = r }) (return_type found.1)

-- the type that a method descriptor spells
unfoldable pub method_type : List ℕ → Option MethodType
method_type [] = None
method_type (b ∷ bytes) =
    if b == byte "(" then option_and_then behind (field_types_at (length bytes) bytes) else None

-- the slots of the parameters, without `this`
abbrev pub argument_slots : MethodType → ℕ
argument_slots m = sum_by slots m.parameters

-- a method descriptor whose parameters take at most so many slots
abbrev pub takes_at_most : ℕ → Option MethodType → Bool
takes_at_most most None = false
takes_at_most most (Some m) = nat_le (argument_slots m) most

unfoldable pub is_method_descriptor : ℕ → List ℕ → Bool
is_method_descriptor most bytes = takes_at_most most (method_type bytes)
