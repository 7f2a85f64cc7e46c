-- The constant pool (JVMS 4.4).
use Rattle.std.specs.Prelude.{ℕ, zero, suc, ◌+◌, ◌^◌, ◌<◌, ◌≤◌, Bool, true, false, not, ◌&&◌, ◌||◌, ◌==◌, nat_le, List, [], ◌∷◌, length, Option, Some, None, is_some, option_and_then, IsTrue, slice_get, if◌then◌else◌}
use Rattle.std.specs.List.{list_any, AllByRecursion}
use Rattle.std.specs.Str.{byte}
use Rattle.class_model.specs.declared.constant_pool.Constant.{Constant}
use Rattle.class_model.specs.declared.constant_pool.Constant.TheVariants.{Utf8, Integer, Float, Long, Double, Class, Text, Ref, NameType, Handle, MethodType, InvokeDynamic, Second}
use Rattle.class_model.specs.declared.constant_pool.Pool.{Pool}
use Rattle.class_model.specs.ModifiedUtf8.{IsModifiedUtf8}
use Rattle.class_model.specs.ClassNames.{is_class_name, is_unqualified, is_method_name}
use Rattle.class_model.specs.Descriptors.{is_field_descriptor, is_method_descriptor}

abbrev pub field_tag : ℕ
field_tag = 9

abbrev pub method_tag : ℕ
method_tag = 10

abbrev pub interface_method_tag : ℕ
interface_method_tag = 11

-- the constant of a number; they are numbered from 1
abbrev pub constant_at : Pool → ℕ → Option Constant
constant_at pool zero = None
constant_at pool (suc n) = slice_get pool.constants n

abbrev pub is_some_that : {A : Type 0} → (A → Bool) → Option A → Bool
is_some_that test None = false
is_some_that test (Some x) = test x

abbrev pub text_of : Constant → Option (List ℕ)
text_of (Utf8 bytes) = Some bytes
text_of _ = None

abbrev pub class_name_of : Constant → Option ℕ
class_name_of (Class name) = Some name
class_name_of _ = None

-- the text of the Utf8 constant of a number
unfoldable pub text_at : Pool → ℕ → Option (List ℕ)
text_at pool n = option_and_then text_of (constant_at pool n)

-- the name of the Class constant of a number
unfoldable pub class_at : Pool → ℕ → Option (List ℕ)
class_at pool n = option_and_then (text_at pool) (option_and_then class_name_of (constant_at pool n))

-- an array's class has its descriptor as name
abbrev pub is_array_descriptor : List ℕ → Bool
is_array_descriptor [] = false
is_array_descriptor (b ∷ bytes) = b == byte "[" && is_field_descriptor (b ∷ bytes)

abbrev pub is_class_constant : Constant → Bool
is_class_constant (Class name) = true
is_class_constant _ = false

-- a reference to a field or method by one of these tags
abbrev pub is_reference : List ℕ → Constant → Bool
is_reference tags (Ref tag class name_type) = list_any (λ t. t == tag) tags
is_reference tags _ = false

-- a name and type whose descriptor isn't that of a method, or not that of a field
abbrev pub is_for_field : Pool → Constant → Bool
is_for_field pool (NameType name descriptor) = not (is_some_that (is_method_descriptor 255) (text_at pool descriptor))
is_for_field pool _ = false

abbrev pub is_for_method : Pool → Constant → Bool
is_for_method pool (NameType name descriptor) = not (is_some_that is_field_descriptor (text_at pool descriptor))
is_for_method pool _ = false

-- the tags of references that a method handle of a kind may lead to (JVMS 4.4.8)
abbrev pub handle_tags : ℕ → List ℕ
handle_tags kind =
    if nat_le 1 kind && nat_le kind 4 then field_tag ∷ []
    else if kind == 5 || kind == 8 then method_tag ∷ []
    else if kind == 6 || kind == 7 then method_tag ∷ interface_method_tag ∷ []
    else if kind == 9 then interface_method_tag ∷ []
    else []

-- a field's name with its descriptor, or a method's with its own
abbrev pub is_name_with : List ℕ → List ℕ → Bool
is_name_with name descriptor =
    is_unqualified name && is_field_descriptor descriptor || is_method_name name && is_method_descriptor 255 descriptor

-- Each index of the constant leads to a constant that may stand there. Where that one's own index is wrong, it is
-- not judged here, but at that one.
unfoldable pub has_targets : Pool → Constant → Bool
has_targets pool (Class name) = is_some_that (λ n. is_class_name n || is_array_descriptor n) (text_at pool name)
has_targets pool (Text text) = is_some (text_at pool text)
has_targets pool (Ref tag class name_type) =
    is_some_that is_class_constant (constant_at pool class)
    && is_some_that (if tag == field_tag then is_for_field pool else is_for_method pool) (constant_at pool name_type)
has_targets pool (NameType name descriptor) =
    is_some_that (λ n. is_some_that (is_name_with n) (text_at pool descriptor)) (text_at pool name)
has_targets pool (Handle kind reference) = is_some_that (is_reference (handle_tags kind)) (constant_at pool reference)
has_targets pool (MethodType descriptor) = is_some_that (is_method_descriptor 255) (text_at pool descriptor)
has_targets pool (InvokeDynamic bootstrap name_type) = is_some_that (is_for_method pool) (constant_at pool name_type)
has_targets pool _ = true

-- what a constant has of its own: numbers that fit their fields, a tag of a reference, a text
abbrev pub IsConstant : Constant → Type 0
IsConstant (Utf8 bytes) = (length bytes < 2 ^ 16) × IsModifiedUtf8 bytes
IsConstant (Integer n) = n < 2 ^ 32
IsConstant (Float n) = n < 2 ^ 32
IsConstant (Long n) = n < 2 ^ 64
IsConstant (Double n) = n < 2 ^ 64
IsConstant (Class name) = name < 2 ^ 16
IsConstant (Text text) = text < 2 ^ 16
IsConstant (Ref tag class name_type) =
    (field_tag ≤ tag) × (tag ≤ interface_method_tag) × (class < 2 ^ 16) × (name_type < 2 ^ 16)
IsConstant (NameType name descriptor) = (name < 2 ^ 16) × (descriptor < 2 ^ 16)
IsConstant (Handle kind reference) = (kind < 2 ^ 8) × (reference < 2 ^ 16)
IsConstant (MethodType descriptor) = descriptor < 2 ^ 16
IsConstant (InvokeDynamic bootstrap name_type) = (bootstrap < 2 ^ 16) × (name_type < 2 ^ 16)
IsConstant Second = Unit {0}

-- a Long or a Double takes two numbers: behind it, and nowhere else, stands a Second
abbrev pub takes_two : Constant → Bool
takes_two (Long n) = true
takes_two (Double n) = true
takes_two _ = false

abbrev pub is_second : Constant → Bool
is_second Second = true
is_second _ = false

-- `due` says that a Second is to come
unfoldable pub has_seconds : Bool → List Constant → Bool
has_seconds due [] = not due
has_seconds due (constant ∷ constants) =
    (if due then is_second constant else not (is_second constant)) && has_seconds (takes_two constant) constants

pub record IsPool (pool : Pool) : Type 0 where
  pub counted : length pool.constants + 1 < 2 ^ 16
  pub constants : AllByRecursion IsConstant pool.constants
  pub seconds : IsTrue (has_seconds false pool.constants)
  pub targets : AllByRecursion (λ constant. IsTrue (has_targets pool constant)) pool.constants
