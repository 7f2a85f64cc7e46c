-- Which classes have a text (JVMS chapter 4), said of the class alone.
use Rattle.std.specs.Prelude.{◌≡◌, ℕ, ◌^◌, ◌<◌, ◌≤◌, Bool, true, false, not, ◌&&◌, ◌||◌, ◌==◌, bit_and, List, [], codes, bytes_eq, unwrap_or, IsTrue, if◌then◌else◌}
use Rattle.std.specs.List.{list_any}
use Rattle.class_model.specs.declared.constant_pool.Pool.{Pool}
use Rattle.class_model.specs.declared.attribute_forms.Attribute.{Attribute, out-Attribute}
use Rattle.class_model.specs.declared.attribute_forms.Attribute.TheOpen.{Attribute-F}
use Rattle.class_model.specs.declared.class_file.Class.{Class}
use Rattle.class_model.specs.declared.class_file.Member.{Member}
use Rattle.class_model.specs.Layers.{AttributeLayer}
use Rattle.class_model.specs.ClassNames.{is_class_name, is_unqualified, is_method_name}
use Rattle.class_model.specs.Descriptors.{is_field_descriptor, is_method_descriptor}
use Rattle.class_model.specs.Constants.{text_at, class_at, is_some_that, IsPool}
use Rattle.class_model.specs.Annotations.{IsCounted}
use Rattle.class_model.specs.Attributes.{in_class, in_field, in_method, once_each, IsAttributes}

-- access flags (JVMS tables 4.1-B, 4.5-A and 4.6-A)
abbrev pub has_flag : ℕ → ℕ → Bool
has_flag flag flags = not (bit_and flags flag == 0)

abbrev pub is_private : ℕ → Bool
is_private = has_flag 0x0002

abbrev pub is_static : ℕ → Bool
is_static = has_flag 0x0008

abbrev pub is_native : ℕ → Bool
is_native = has_flag 0x0100

abbrev pub is_interface : ℕ → Bool
is_interface = has_flag 0x0200

abbrev pub is_abstract : ℕ → Bool
is_abstract = has_flag 0x0400

-- A method that is abstract or native has no code (JVMS 4.7.3).
abbrev pub is_bare : ℕ → Bool
is_bare flags = is_abstract flags || is_native flags

-- a class or interface, which is no array class
unfoldable pub is_plain_class : Pool → ℕ → Bool
is_plain_class pool n = is_some_that is_class_name (class_at pool n)

abbrev pub name_text : Pool → Member → List ℕ
name_text pool m = unwrap_or (text_at pool m.name) []

abbrev pub descriptor_text : Pool → Member → List ℕ
descriptor_text pool m = unwrap_or (text_at pool m.descriptor) []

-- two members have one name and one descriptor
abbrev pub are_same : Pool → Member → Member → Bool
are_same pool m n =
    bytes_eq (name_text pool m) (name_text pool n) && bytes_eq (descriptor_text pool m) (descriptor_text pool n)

-- JVMS 4.5
pub record IsField (pool : Pool) (m : Member) : Type 0 where
  pub flags : m.flags < 2 ^ 16
  pub name : IsTrue (is_some_that is_unqualified (text_at pool m.name))
  pub descriptor : IsTrue (is_some_that is_field_descriptor (text_at pool m.descriptor))
  pub attributes : IsAttributes pool (in_field (descriptor_text pool m)) m.attributes

-- the slots that a method's parameters may take beside `this`, which an instance method has (JVMS 4.3.3)
abbrev pub most_slots : ℕ → ℕ
most_slots flags = if is_static flags then 255 else 254

abbrev pub is_code_layer : AttributeLayer → Bool
is_code_layer (Attribute-F.Code name max_stack max_locals code table inner) = true
is_code_layer _ = false

abbrev pub has_code : List Attribute → Bool
has_code = list_any (λ a. is_code_layer (out-Attribute a))

-- JVMS 4.6; a method has code exactly where it is neither abstract nor native (JVMS 4.7.3)
pub record IsMethod (pool : Pool) (m : Member) : Type 0 where
  pub flags : m.flags < 2 ^ 16
  pub name : IsTrue (is_some_that is_method_name (text_at pool m.name))
  pub descriptor : IsTrue (is_some_that (is_method_descriptor (most_slots m.flags)) (text_at pool m.descriptor))
  pub attributes : IsAttributes pool in_method m.attributes
  pub code : has_code m.attributes ≡ not (is_bare m.flags)

-- counted members, no two of them with one name and one descriptor
pub record IsMembers (Each : Member → Type 0) (pool : Pool) (members : List Member) : Type 0 where
  pub each : IsCounted Each members
  pub once : IsTrue (once_each (λ m. true) (are_same pool) members)

-- the name of a class
unfoldable pub class_name : Class → List ℕ
class_name c = unwrap_or (class_at c.pool c.this_class) []

-- `java/lang/Object` alone may have no super class.
unfoldable pub has_super : Class → Bool
has_super c =
    if c.super_class == 0 then bytes_eq (class_name c) (codes "java/lang/Object") else is_plain_class c.pool c.super_class

-- The class has a text (JVMS 4.1).
pub record Shaped (c : Class) : Type 0 where
  pub minor : c.minor < 2 ^ 16
  pub oldest : 52 ≤ c.major
  pub newest : c.major ≤ 65
  pub pool : IsPool c.pool
  pub flags : c.flags < 2 ^ 16
  pub this_class : IsTrue (is_plain_class c.pool c.this_class)
  pub super_class : IsTrue (has_super c)
  pub interfaces : IsCounted (λ n. IsTrue (is_plain_class c.pool n)) c.interfaces
  pub fields : IsMembers (IsField c.pool) c.pool c.fields
  pub methods : IsMembers (IsMethod c.pool) c.pool c.methods
  pub attributes : IsAttributes c.pool in_class c.attributes
