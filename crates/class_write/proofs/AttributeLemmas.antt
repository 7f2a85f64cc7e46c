-- Attributes.
use Rattle.std.proofs.Common.{◌≡◌, ℕ, ◌<◌, ◌^◌, Bool, true, false, not, List, [], ◌∷◌, length, map, Option, None, ap, subst, ◌∙◌}
use Rattle.std.specs.List.{AllByRecursion}
use Rattle.std.specs.Str.{bytes_eq}
use Rattle.std.specs.Cmp.Lexicographic.{nat_list_eq_equiv}
use Rattle.std.proofs.lemmas.Bool.{and_parts, and_from}
use Rattle.std.proofs.lemmas.Slice.Eq.{bytes_eq-Decides}
use Rattle.class_model.specs.declared.constant_pool.Pool.{Pool}
use Rattle.class_model.specs.declared.attribute_forms.Attribute.{Attribute, out-Attribute}
use Rattle.class_model.specs.Attributes.{Place, HasForm, IsCodeAttribute, IsCodeAttributes, IsAttribute, once_each, is_known, attribute_name}
use Rattle.class_model.specs.Shape.{is_code_layer}
use Rattle.class_model.specs.Spelling as spelling
use Rattle.const_pool.specs.declared.write_fault.Holder.{Holder}
use Rattle.const_pool.specs.declared.write_fault.Part.{Part}
use Rattle.const_pool.specs.declared.write_fault.WriteFault.{WriteFault}
use Rattle.class_write.specs.Contents.{HasContent, HasPlainContent}
use Rattle.class_write.specs.Misfits as misfits
use Rattle.class_write.specs.Misfits.{attribute_place}
use Rattle.class_write.specs.Order.{counted}
use Rattle.class_write.proofs.Faults.{none_parts, unless_none}
use Rattle.class_write.proofs.Once.{IsFair, not_true, once_map, once_all}
use Rattle.class_write.proofs.ContentLemmas.{form_from, code_place, method_has_code, stands_parts}

-- which attributes of a place count, and which are the same
abbrev pub counts : Pool → Place → Attribute → Bool
counts pool place a = is_known place (attribute_name pool a)

abbrev pub same : Pool → Attribute → Attribute → Bool
same pool a b = bytes_eq (attribute_name pool a) (attribute_name pool b)

pub fair : (pool : Pool) (place : Place) → IsFair (counts pool place) (same pool)
fair pool place = record {
  back = λ a b. nat_list_eq_equiv.symm (attribute_name pool a) (attribute_name pool b);
  both = λ a b e. ap (is_known place) ((bytes_eq-Decides (attribute_name pool a) (attribute_name pool b)).0 e);
}

pub place_parts : (pool : Pool) (holder : Holder) (d : List ℕ) (bare : Bool) (list : List Attribute) (number : ℕ) (a : Attribute) → misfits.has_place pool holder d bare list number a ≡ true
    → (misfits.may_stand pool holder d bare (out-Attribute a) ≡ true) × (misfits.is_second_of_name pool (attribute_place holder d) list number a ≡ false)
unfolding misfits.has_place
place_parts pool holder d bare list number a e =
    let p = and_parts (misfits.may_stand pool holder d bare (out-Attribute a)) (not (misfits.is_second_of_name pool (attribute_place holder d) list number a)) e in
    (p.0, not_true (misfits.is_second_of_name pool (attribute_place holder d) list number a) p.1)

pub place_from : (pool : Pool) (holder : Holder) (d : List ℕ) (bare : Bool) (list : List Attribute) (number : ℕ) (a : Attribute)
    → misfits.may_stand pool holder d bare (out-Attribute a) ≡ true → misfits.is_second_of_name pool (attribute_place holder d) list number a ≡ false → misfits.has_place pool holder d bare list number a ≡ true
unfolding misfits.has_place
place_from pool holder d bare list number a may second = and_from (misfits.may_stand pool holder d bare (out-Attribute a)) (not (misfits.is_second_of_name pool (attribute_place holder d) list number a)) may (ap not second)

-- no two attributes without a fault have one known name
names_once : (pool : Pool) (holder : Holder) (d : List ℕ) (bare : Bool) (misfit : ℕ → Attribute → Option WriteFault) (part : Part) (list : List Attribute)
    → ((n : ℕ) (a : Attribute) → misfit n a ≡ None → misfits.has_place pool holder d bare list n a ≡ true) → counted part misfit list ≡ None
    → once_each (is_known (attribute_place holder d)) bytes_eq (map (attribute_name pool) list) ≡ true
names_once pool holder d bare misfit part list each none =
    once_map (attribute_name pool) (is_known (attribute_place holder d)) bytes_eq list
    ∙ once_all (counts pool (attribute_place holder d)) (same pool) misfit part list (fair pool (attribute_place holder d)) (λ n a fits. (place_parts pool holder d bare list n a (each n a fits)).1) none

code_attribute_placed : (pool : Pool) (holder : Holder) (list : List Attribute) (n : ℕ) (a : Attribute) → misfits.code_attribute_of pool holder list n a ≡ None
    → misfits.has_place pool holder [] false list n a ≡ true
unfolding misfits.code_attribute_of
code_attribute_placed pool holder list n a fits = unless_none _ _ (none_parts _ _ fits).0

pub code_names_once : (pool : Pool) (holder : Holder) (list : List Attribute) → misfits.code_attributes pool holder list ≡ None
    → once_each (is_known (attribute_place holder [])) bytes_eq (map (attribute_name pool) list) ≡ true
code_names_once pool holder list none =
    names_once pool holder [] false (misfits.code_attribute_of pool holder list) _ list (code_attribute_placed pool holder list) none

attribute_placed : (pool : Pool) (holder : Holder) (d : List ℕ) (bare : Bool) (list : List Attribute) (n : ℕ) (a : Attribute) → misfits.attribute_of pool holder d bare list n a ≡ None
    → misfits.has_place pool holder d bare list n a ≡ true
unfolding misfits.attribute_of
attribute_placed pool holder d bare list n a fits = unless_none _ _ (none_parts _ _ fits).0

pub attribute_names_once : (pool : Pool) (holder : Holder) (d : List ℕ) (bare : Bool) (list : List Attribute) → misfits.attributes pool holder d bare list ≡ None
    → once_each (is_known (attribute_place holder d)) bytes_eq (map (attribute_name pool) list) ≡ true
attribute_names_once pool holder d bare list none =
    names_once pool holder d bare (misfits.attribute_of pool holder d bare list) _ list (attribute_placed pool holder d bare list) none

-- what holds of each under a condition that is met
pub all_under : {A : Type 0} (P : Type 0) (Is : A → Type 0) (items : List A) → P → AllByRecursion (λ x. P → Is x) items → AllByRecursion Is items
all_under P Is [] p all = tt
all_under P Is (x ∷ items) p all = (all.0 p, all_under P Is items p all.1)

pub code_attribute_shaped : (pool : Pool) (holder : Holder) (list : List Attribute) (number : ℕ) (a : Attribute) → misfits.is_code holder ≡ true → misfits.has_place pool holder [] false list number a ≡ true
    → HasPlainContent pool [] (out-Attribute a) → length (spelling.content_by spelling.no_attribute (out-Attribute a)) < 2 ^ 32 → IsCodeAttribute pool a
code_attribute_shaped pool holder list number a code place content short = record {
  form = let f = form_from (λ inner. ⊥) pool holder [] false (out-Attribute a) (place_parts pool holder [] false list number a place).0 content in
      subst (λ (p : Place). HasForm (λ inner. ⊥) pool p (out-Attribute a)) (code_place holder [] code) f;
  short = short;
}

pub attribute_shaped : (pool : Pool) (holder : Holder) (d : List ℕ) (bare : Bool) (list : List Attribute) (number : ℕ) (a : Attribute) → misfits.has_place pool holder d bare list number a ≡ true
    → HasContent (IsCodeAttributes pool) pool d (out-Attribute a) → length (spelling.content_by spelling.code_attribute (out-Attribute a)) < 2 ^ 32 → IsAttribute pool (attribute_place holder d) a
attribute_shaped pool holder d bare list number a place content short = record {
  form = form_from (IsCodeAttributes pool) pool holder d bare (out-Attribute a) (place_parts pool holder d bare list number a place).0 content;
  short = short;
}

pub code_in_method : (pool : Pool) (holder : Holder) (d : List ℕ) (bare : Bool) (list : List Attribute) (number : ℕ) (a : Attribute) → misfits.has_place pool holder d bare list number a ≡ true
    → is_code_layer (out-Attribute a) ≡ true → misfits.is_method holder ≡ true
code_in_method pool holder d bare list number a place is =
    method_has_code holder (out-Attribute a) (stands_parts pool holder d bare (out-Attribute a) (place_parts pool holder d bare list number a place).0).0 is
