-- Which attributes have a text in a place (JVMS 4.7).
use Rattle.std.specs.Prelude.{ℕ, ◌-◌, ◌^◌, ◌<◌, ◌≤◌, Bool, true, false, not, ◌&&◌, ◌||◌, ◌==◌, nat_lt, List, [], ◌∷◌, length, map, codes, bytes_eq, unwrap_or, IsTrue, if◌then◌else◌}
use Rattle.std.specs.List.{list_any, AllByRecursion}
use Rattle.class_model.specs.declared.constant_pool.Constant.{Constant}
use Rattle.class_model.specs.declared.constant_pool.Constant.TheVariants as constants
use Rattle.class_model.specs.declared.constant_pool.Pool.{Pool}
use Rattle.class_model.specs.declared.stack_map.StackFrame.{StackFrame}
use Rattle.class_model.specs.declared.stack_map.FrameType.{FrameType}
use Rattle.class_model.specs.declared.attribute_forms.Attribute.{Attribute, out-Attribute}
use Rattle.class_model.specs.declared.attribute_forms.Attribute.TheOpen.{Attribute-F}
use Rattle.class_model.specs.declared.attribute_forms.Handler.{Handler}
use Rattle.class_model.specs.declared.attribute_forms.Bootstrap.{Bootstrap}
use Rattle.class_model.specs.Layers.{AttributeLayer}
use Rattle.class_model.specs.Constants.{constant_at, text_at, is_some_that, is_class_constant}
use Rattle.class_model.specs.Annotations.{IsCounted, IsAnnotation}
use Rattle.class_model.specs.Spelling.{name_of, content_by, no_attribute, code_attribute}

-- a place where attributes stand; a field's attributes stand beside its descriptor
pub data Place : Type 0 where
  in_class : Place
  in_field : List ℕ → Place
  in_method : Place
  in_code : Place

-- the names that are known in a place
abbrev pub known : Place → List (List ℕ)
known in_class = codes "BootstrapMethods" ∷ codes "RuntimeVisibleAnnotations" ∷ []
known (in_field descriptor) = codes "ConstantValue" ∷ codes "RuntimeVisibleAnnotations" ∷ []
known in_method = codes "Code" ∷ codes "RuntimeVisibleAnnotations" ∷ []
known in_code = codes "StackMapTable" ∷ []

unfoldable pub is_known : Place → List ℕ → Bool
is_known place name = list_any (bytes_eq name) (known place)

unfoldable pub is_named : Pool → List ℕ → ℕ → Bool
is_named pool text name = is_some_that (bytes_eq text) (text_at pool name)

abbrev pub IsBytes : List ℕ → Type 0
IsBytes = AllByRecursion (λ b. b < 2 ^ 8)

-- JVMS 4.7.2: a constant that a field of a descriptor can have as its value
unfoldable pub is_value_for : List ℕ → Constant → Bool
is_value_for descriptor (constants.Integer n) =
    list_any (bytes_eq descriptor) (codes "B" ∷ codes "C" ∷ codes "I" ∷ codes "S" ∷ codes "Z" ∷ [])
is_value_for descriptor (constants.Float n) = bytes_eq descriptor (codes "F")
is_value_for descriptor (constants.Long n) = bytes_eq descriptor (codes "J")
is_value_for descriptor (constants.Double n) = bytes_eq descriptor (codes "D")
is_value_for descriptor (constants.Text text) = bytes_eq descriptor (codes "Ljava/lang/String;")
is_value_for descriptor _ = false

-- JVMS 4.7.3: the class that a handler catches, 0 for all
pub record IsHandler (pool : Pool) (h : Handler) : Type 0 where
  pub start : h.start < 2 ^ 16
  pub ends : h.end < 2 ^ 16
  pub handler : h.handler < 2 ^ 16
  pub catch_type : IsTrue (h.catch_type == 0 || is_some_that is_class_constant (constant_at pool h.catch_type))

-- JVMS 4.7.4: an Object has a class, an Uninitialized a pc, and the others have no index
pub record IsFrameType (pool : Pool) (t : FrameType) : Type 0 where
  pub tag : t.tag ≤ 8
  pub index : IsTrue (
      if t.tag == 7 then is_some_that is_class_constant (constant_at pool t.index)
      else if t.tag == 8 then nat_lt t.index (2 ^ 16)
      else t.index == 0)

-- how many locals and stack items a frame of a tag writes, and which delta its tag has within it
unfoldable pub has_layout : StackFrame → Bool
has_layout f =
    if nat_lt f.tag 64 then f.delta == f.tag && length f.locals == 0 && length f.stack == 0
    else if nat_lt f.tag 128 then f.delta == f.tag - 64 && length f.locals == 0 && length f.stack == 1
    else if nat_lt f.tag 247 then false
    else if f.tag == 247 then length f.locals == 0 && length f.stack == 1
    else if nat_lt f.tag 252 then length f.locals == 0 && length f.stack == 0
    else if nat_lt f.tag 255 then length f.locals == f.tag - 251 && length f.stack == 0
    else f.tag == 255

pub record IsFrame (pool : Pool) (f : StackFrame) : Type 0 where
  pub layout : IsTrue (has_layout f)
  pub delta : f.delta < 2 ^ 16
  pub locals : IsCounted (IsFrameType pool) f.locals
  pub stack : IsCounted (IsFrameType pool) f.stack

-- JVMS 4.4: constants that are loadable, as the static arguments of a bootstrap method are
abbrev pub is_loadable : Constant → Bool
is_loadable (constants.Integer n) = true
is_loadable (constants.Float n) = true
is_loadable (constants.Long n) = true
is_loadable (constants.Double n) = true
is_loadable (constants.Class name) = true
is_loadable (constants.Text text) = true
is_loadable (constants.Handle kind reference) = true
is_loadable (constants.MethodType descriptor) = true
is_loadable _ = false

abbrev pub is_handle : Constant → Bool
is_handle (constants.Handle kind reference) = true
is_handle _ = false

-- JVMS 4.7.23
pub record IsBootstrap (pool : Pool) (b : Bootstrap) : Type 0 where
  pub handle : IsTrue (is_some_that is_handle (constant_at pool b.handle))
  pub arguments : IsCounted (λ index. IsTrue (is_some_that is_loadable (constant_at pool index))) b.arguments

-- An attribute that isn't known is there by its bytes.
pub record IsOther (pool : Pool) (place : Place) (index : ℕ) (content : List ℕ) : Type 0 where
  pub name : IsTrue (is_some_that (λ text. not (is_known place text)) (text_at pool index))
  pub bytes : IsBytes content

-- JVMS 4.7.3; `Inner` says it of the attributes within it
pub record IsCode (Inner : List Attribute → Type 0) (pool : Pool) (stack locals : ℕ) (code : List ℕ)
    (table : List Handler) (inner : List Attribute) : Type 0 where
  pub max_stack : stack < 2 ^ 16
  pub max_locals : locals < 2 ^ 16
  pub some : 0 < length code
  pub short : length code ≤ 65535
  pub bytes : IsBytes code
  pub handlers : IsCounted (IsHandler pool) table
  pub attributes : Inner inner

-- each form of attribute under its name, in the places where it is known
abbrev pub HasForm : (List Attribute → Type 0) → Pool → Place → AttributeLayer → Type 0
HasForm Inner pool in_method (Attribute-F.Code name max_stack max_locals code table inner) =
    IsTrue (is_named pool (codes "Code") name) × IsCode Inner pool max_stack max_locals code table inner
HasForm Inner pool in_code (Attribute-F.StackMap name frames) =
    IsTrue (is_named pool (codes "StackMapTable") name) × IsCounted (IsFrame pool) frames
HasForm Inner pool (in_field descriptor) (Attribute-F.ConstantValue name value) =
    IsTrue (is_named pool (codes "ConstantValue") name)
    × IsTrue (is_some_that (is_value_for descriptor) (constant_at pool value))
HasForm Inner pool in_class (Attribute-F.Bootstrap name entries) =
    IsTrue (is_named pool (codes "BootstrapMethods") name) × IsCounted (IsBootstrap pool) entries
HasForm Inner pool in_code (Attribute-F.Annotations name list) = ⊥
HasForm Inner pool place (Attribute-F.Annotations name list) =
    IsTrue (is_named pool (codes "RuntimeVisibleAnnotations") name) × IsCounted (IsAnnotation pool) list
HasForm Inner pool place (Attribute-F.Other name bytes) = IsOther pool place name bytes
HasForm Inner pool place _ = ⊥

-- Of the items that count, none is the same as a later one.
abbrev pub once_each : {A : Type 0} → (A → Bool) → (A → A → Bool) → List A → Bool
once_each counts same [] = true
once_each counts same (item ∷ items) =
    not (counts item && list_any (same item) items) && once_each counts same items

abbrev pub attribute_name : Pool → Attribute → List ℕ
attribute_name pool a = unwrap_or (text_at pool (name_of (out-Attribute a))) []

-- counted attributes of a place, each of them shaped, and no known name twice
pub record IsAttributesBy (Each : Attribute → Type 0) (pool : Pool) (place : Place) (list : List Attribute) : Type 0 where
  pub each : IsCounted Each list
  pub once : IsTrue (once_each (is_known place) bytes_eq (map (attribute_name pool) list))

-- an attribute whose content's length fits its field
pub record IsCodeAttribute (pool : Pool) (a : Attribute) : Type 0 where
  pub form : HasForm (λ inner. ⊥) pool in_code (out-Attribute a)
  pub short : length (content_by no_attribute (out-Attribute a)) < 2 ^ 32

abbrev pub IsCodeAttributes : Pool → List Attribute → Type 0
IsCodeAttributes pool = IsAttributesBy (IsCodeAttribute pool) pool in_code

pub record IsAttribute (pool : Pool) (place : Place) (a : Attribute) : Type 0 where
  pub form : HasForm (IsCodeAttributes pool) pool place (out-Attribute a)
  pub short : length (content_by code_attribute (out-Attribute a)) < 2 ^ 32

-- the attributes of a class, a field or a method
abbrev pub IsAttributes : Pool → Place → List Attribute → Type 0
IsAttributes pool place = IsAttributesBy (IsAttribute pool place) pool place
