-- Which contents of attributes have a text, whatever the name (JVMS 4.7).
use Rattle.std.specs.Prelude.{ℕ, List, IsTrue}
use Rattle.class_model.specs.declared.constant_pool.Pool.{Pool}
use Rattle.class_model.specs.declared.attribute_forms.Attribute.{Attribute}
use Rattle.class_model.specs.declared.attribute_forms.Attribute.TheOpen.{Attribute-F}
use Rattle.class_model.specs.Layers.{AttributeLayer}
use Rattle.class_model.specs.Constants.{constant_at, is_some_that}
use Rattle.class_model.specs.Annotations.{IsCounted, IsAnnotation}
use Rattle.class_model.specs.Attributes.{IsBytes, IsCode, IsFrame, IsBootstrap, is_value_for}

-- `Inner` says it of the attributes within code
abbrev pub HasContent : (List Attribute → Type 0) → Pool → List ℕ → AttributeLayer → Type 0
HasContent Inner pool descriptor (Attribute-F.Code name max_stack max_locals code table inner) =
    IsCode Inner pool max_stack max_locals code table inner
HasContent Inner pool descriptor (Attribute-F.StackMap name frames) = IsCounted (IsFrame pool) frames
HasContent Inner pool descriptor (Attribute-F.ConstantValue name value) =
    IsTrue (is_some_that (is_value_for descriptor) (constant_at pool value))
HasContent Inner pool descriptor (Attribute-F.Bootstrap name entries) = IsCounted (IsBootstrap pool) entries
HasContent Inner pool descriptor (Attribute-F.Annotations name list) = IsCounted (IsAnnotation pool) list
HasContent Inner pool descriptor (Attribute-F.Other name bytes) = IsBytes bytes

-- a content without code
abbrev pub HasPlainContent : Pool → List ℕ → AttributeLayer → Type 0
HasPlainContent = HasContent (λ inner. ⊥)
