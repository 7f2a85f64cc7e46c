-- Contents of attributes, and their forms in a place.
use Rattle.std.proofs.Common.{◌≡◌, ℕ, Bool, true, false, not, ◌&&◌, List, refl}
use Rattle.std.proofs.lemmas.Bool.{and_parts, and_from}
use Rattle.class_model.specs.declared.constant_pool.Pool.{Pool}
use Rattle.class_model.specs.declared.attribute_forms.Attribute.{Attribute}
use Rattle.class_model.specs.declared.attribute_forms.Attribute.TheOpen.{Attribute-F}
use Rattle.class_model.specs.Layers.{AttributeLayer}
use Rattle.class_model.specs.Attributes.{in_code, HasForm}
use Rattle.class_model.specs.Shape.{is_code_layer}
use Rattle.class_model.specs.Spelling as spelling
use Rattle.const_pool.specs.declared.write_fault.Holder.{Holder}
use Rattle.const_pool.specs.declared.write_fault.Holder.TheVariants as holders
use Rattle.const_pool.specs.declared.write_fault.AttributeId.{AttributeId}
use Rattle.class_write.specs.Contents.{HasContent, HasPlainContent}
use Rattle.class_write.specs.Misfits as misfits
use Rattle.class_write.specs.Misfits.{attribute_place, has_form, has_name}

never : {A : Type 0} → false ≡ true → A
never e = absurd (let h : false ≡ true = e in cc)

-- a content under its own name is a form
form_of : (Inner : List Attribute → Type 0) (pool : Pool) (holder : Holder) (d : List ℕ) (layer : AttributeLayer)
    → has_form holder layer ≡ true → has_name pool (attribute_place holder d) layer ≡ true → HasContent Inner pool d layer → HasForm Inner pool (attribute_place holder d) layer
form_of Inner pool holders.Class d (Attribute-F.Code name max_stack max_locals code table inner) f n c = never f
form_of Inner pool (holders.Field k) d (Attribute-F.Code name max_stack max_locals code table inner) f n c = never f
form_of Inner pool (holders.Method k) d (Attribute-F.Code name max_stack max_locals code table inner) f n c = (n, c)
form_of Inner pool (holders.Code k) d (Attribute-F.Code name max_stack max_locals code table inner) f n c = never f
form_of Inner pool holders.Class d (Attribute-F.StackMap name frames) f n c = never f
form_of Inner pool (holders.Field k) d (Attribute-F.StackMap name frames) f n c = never f
form_of Inner pool (holders.Method k) d (Attribute-F.StackMap name frames) f n c = never f
form_of Inner pool (holders.Code k) d (Attribute-F.StackMap name frames) f n c = (n, c)
form_of Inner pool holders.Class d (Attribute-F.ConstantValue name value) f n c = never f
form_of Inner pool (holders.Field k) d (Attribute-F.ConstantValue name value) f n c = (n, c)
form_of Inner pool (holders.Method k) d (Attribute-F.ConstantValue name value) f n c = never f
form_of Inner pool (holders.Code k) d (Attribute-F.ConstantValue name value) f n c = never f
form_of Inner pool holders.Class d (Attribute-F.Bootstrap name entries) f n c = (n, c)
form_of Inner pool (holders.Field k) d (Attribute-F.Bootstrap name entries) f n c = never f
form_of Inner pool (holders.Method k) d (Attribute-F.Bootstrap name entries) f n c = never f
form_of Inner pool (holders.Code k) d (Attribute-F.Bootstrap name entries) f n c = never f
form_of Inner pool holders.Class d (Attribute-F.Annotations name list) f n c = (n, c)
form_of Inner pool (holders.Field k) d (Attribute-F.Annotations name list) f n c = (n, c)
form_of Inner pool (holders.Method k) d (Attribute-F.Annotations name list) f n c = (n, c)
form_of Inner pool (holders.Code k) d (Attribute-F.Annotations name list) f n c = never f
form_of Inner pool holders.Class d (Attribute-F.Other name bytes) f n c = record { name = n; bytes = c }
form_of Inner pool (holders.Field k) d (Attribute-F.Other name bytes) f n c = record { name = n; bytes = c }
form_of Inner pool (holders.Method k) d (Attribute-F.Other name bytes) f n c = record { name = n; bytes = c }
form_of Inner pool (holders.Code k) d (Attribute-F.Other name bytes) f n c = record { name = n; bytes = c }

pub stands_parts : (pool : Pool) (holder : Holder) (d : List ℕ) (bare : Bool) (layer : AttributeLayer) → misfits.may_stand pool holder d bare layer ≡ true
    → (has_form holder layer ≡ true) × (has_name pool (attribute_place holder d) layer ≡ true) × (not (bare && is_code_layer layer) ≡ true)
unfolding misfits.may_stand
stands_parts pool holder d bare layer e =
    let outer = and_parts (has_form holder layer && has_name pool (attribute_place holder d) layer) (not (bare && is_code_layer layer)) e in
    let inner = and_parts (has_form holder layer) (has_name pool (attribute_place holder d) layer) outer.0 in
    (inner.0, inner.1, outer.1)

pub stands_from : (pool : Pool) (holder : Holder) (d : List ℕ) (bare : Bool) (layer : AttributeLayer) → has_form holder layer ≡ true → has_name pool (attribute_place holder d) layer ≡ true
    → not (bare && is_code_layer layer) ≡ true → misfits.may_stand pool holder d bare layer ≡ true
unfolding misfits.may_stand
stands_from pool holder d bare layer f n b = and_from (has_form holder layer && has_name pool (attribute_place holder d) layer) (not (bare && is_code_layer layer)) (and_from (has_form holder layer) (has_name pool (attribute_place holder d) layer) f n) b

pub form_from : (Inner : List Attribute → Type 0) (pool : Pool) (holder : Holder) (d : List ℕ) (bare : Bool) (layer : AttributeLayer)
    → misfits.may_stand pool holder d bare layer ≡ true → HasContent Inner pool d layer → HasForm Inner pool (attribute_place holder d) layer
form_from Inner pool holder d bare layer e c = let p = stands_parts pool holder d bare layer e in form_of Inner pool holder d layer p.0 p.1 c

pub method_has_code : (holder : Holder) (layer : AttributeLayer) → has_form holder layer ≡ true → is_code_layer layer ≡ true → misfits.is_method holder ≡ true
method_has_code holder (Attribute-F.Code name max_stack max_locals code table inner) f is = f
method_has_code holder (Attribute-F.StackMap name frames) f is = never is
method_has_code holder (Attribute-F.ConstantValue name value) f is = never is
method_has_code holder (Attribute-F.Bootstrap name entries) f is = never is
method_has_code holder (Attribute-F.Annotations name list) f is = never is
method_has_code holder (Attribute-F.Other name bytes) f is = never is

pub code_of_method : (holder : Holder) → misfits.is_method holder ≡ true → misfits.is_code (misfits.code_of holder) ≡ true
code_of_method holders.Class is = never is
code_of_method (holders.Field k) is = never is
code_of_method (holders.Method k) is = is
code_of_method (holders.Code k) is = never is

pub code_place : (holder : Holder) (d : List ℕ) → misfits.is_code holder ≡ true → attribute_place holder d ≡ in_code
code_place holders.Class d is = never is
code_place (holders.Field k) d is = never is
code_place (holders.Method k) d is = never is
code_place (holders.Code k) d is = refl

-- a content without code is the same whatever may stand in code
pub plain_content : (Inner : List Attribute → Type 0) (pool : Pool) (d : List ℕ) (layer : AttributeLayer) → HasPlainContent pool d layer → HasContent Inner pool d layer
plain_content Inner pool d (Attribute-F.Code name max_stack max_locals code table inner) c = absurd c.attributes
plain_content Inner pool d (Attribute-F.StackMap name frames) c = c
plain_content Inner pool d (Attribute-F.ConstantValue name value) c = c
plain_content Inner pool d (Attribute-F.Bootstrap name entries) c = c
plain_content Inner pool d (Attribute-F.Annotations name list) c = c
plain_content Inner pool d (Attribute-F.Other name bytes) c = c

pub plain_text : (inner : Attribute → List ℕ) (pool : Pool) (d : List ℕ) (layer : AttributeLayer) → HasPlainContent pool d layer
    → spelling.content_by spelling.no_attribute layer ≡ spelling.content_by inner layer
unfolding spelling.content_by
plain_text inner pool d (Attribute-F.Code name max_stack max_locals code table all) c = absurd c.attributes
plain_text inner pool d (Attribute-F.StackMap name frames) c = refl
plain_text inner pool d (Attribute-F.ConstantValue name value) c = refl
plain_text inner pool d (Attribute-F.Bootstrap name entries) c = refl
plain_text inner pool d (Attribute-F.Annotations name list) c = refl
plain_text inner pool d (Attribute-F.Other name bytes) c = refl

pub plain_misfit : (pool : Pool) (d : List ℕ) (id : AttributeId) (layer : AttributeLayer) → is_code_layer layer ≡ false → misfits.content pool d id layer ≡ misfits.plain pool d id layer
plain_misfit pool d id (Attribute-F.Code name max_stack max_locals code table inner) e = absurd (let h : true ≡ false = e in cc)
plain_misfit pool d id (Attribute-F.StackMap name frames) e = refl
plain_misfit pool d id (Attribute-F.ConstantValue name value) e = refl
plain_misfit pool d id (Attribute-F.Bootstrap name entries) e = refl
plain_misfit pool d id (Attribute-F.Annotations name list) e = refl
plain_misfit pool d id (Attribute-F.Other name bytes) e = refl

-- a form is a content under its own name, where it stands
pub form_parts : (Inner : List Attribute → Type 0) (pool : Pool) (holder : Holder) (d : List ℕ) (layer : AttributeLayer) → HasForm Inner pool (attribute_place holder d) layer
    → (has_form holder layer ≡ true) × (has_name pool (attribute_place holder d) layer ≡ true) × HasContent Inner pool d layer
form_parts Inner pool holders.Class d (Attribute-F.Code name max_stack max_locals code table inner) is = absurd is
form_parts Inner pool (holders.Field k) d (Attribute-F.Code name max_stack max_locals code table inner) is = absurd is
form_parts Inner pool (holders.Method k) d (Attribute-F.Code name max_stack max_locals code table inner) is = (refl, is.0, is.1)
form_parts Inner pool (holders.Code k) d (Attribute-F.Code name max_stack max_locals code table inner) is = absurd is
form_parts Inner pool holders.Class d (Attribute-F.StackMap name frames) is = absurd is
form_parts Inner pool (holders.Field k) d (Attribute-F.StackMap name frames) is = absurd is
form_parts Inner pool (holders.Method k) d (Attribute-F.StackMap name frames) is = absurd is
form_parts Inner pool (holders.Code k) d (Attribute-F.StackMap name frames) is = (refl, is.0, is.1)
form_parts Inner pool holders.Class d (Attribute-F.ConstantValue name value) is = absurd is
form_parts Inner pool (holders.Field k) d (Attribute-F.ConstantValue name value) is = (refl, is.0, is.1)
form_parts Inner pool (holders.Method k) d (Attribute-F.ConstantValue name value) is = absurd is
form_parts Inner pool (holders.Code k) d (Attribute-F.ConstantValue name value) is = absurd is
form_parts Inner pool holders.Class d (Attribute-F.Bootstrap name entries) is = (refl, is.0, is.1)
form_parts Inner pool (holders.Field k) d (Attribute-F.Bootstrap name entries) is = absurd is
form_parts Inner pool (holders.Method k) d (Attribute-F.Bootstrap name entries) is = absurd is
form_parts Inner pool (holders.Code k) d (Attribute-F.Bootstrap name entries) is = absurd is
form_parts Inner pool holders.Class d (Attribute-F.Annotations name list) is = (refl, is.0, is.1)
form_parts Inner pool (holders.Field k) d (Attribute-F.Annotations name list) is = (refl, is.0, is.1)
form_parts Inner pool (holders.Method k) d (Attribute-F.Annotations name list) is = (refl, is.0, is.1)
form_parts Inner pool (holders.Code k) d (Attribute-F.Annotations name list) is = absurd is
form_parts Inner pool holders.Class d (Attribute-F.Other name bytes) is = (refl, is.name, is.bytes)
form_parts Inner pool (holders.Field k) d (Attribute-F.Other name bytes) is = (refl, is.name, is.bytes)
form_parts Inner pool (holders.Method k) d (Attribute-F.Other name bytes) is = (refl, is.name, is.bytes)
form_parts Inner pool (holders.Code k) d (Attribute-F.Other name bytes) is = (refl, is.name, is.bytes)
