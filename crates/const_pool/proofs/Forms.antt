-- What the table of a pool's texts says.
use Rattle.std.proofs.Common.{◌≡◌, ℕ, zero, suc, ◌-◌, Bool, true, false, ◌&&◌, ◌||◌, List, map, Option, Some, None, option_map, option_and_then, unwrap_or, slice_get, refl, ap, ◌∙◌, arith}
use Rattle.std.proofs.lemmas.Bool.{leb-true, le-leb}
use Rattle.std.proofs.lemmas.Option.{slice_get-map}
use Rattle.class_model.specs.declared.constant_pool.Constant.{Constant}
use Rattle.class_model.specs.declared.constant_pool.Pool.{Pool}
use Rattle.class_model.specs.ClassNames.{is_unqualified, is_method_name, is_class_name}
use Rattle.class_model.specs.Constants.{text_at, text_of, is_some_that, is_array_descriptor, is_name_with}
use Rattle.class_model.specs.Descriptors.{MethodType, method_type, argument_slots, takes_at_most, is_field_descriptor, is_return_descriptor, is_method_descriptor}
use Rattle.const_pool.specs.declared.text_forms.TextForms.{TextForms}
use Rattle.const_pool.specs.declared.text_forms.TextTable.{TextTable}
use Rattle.const_pool.specs.TextForms.{judged_or_nothing, judged_constant, nothing, IsTableOf}

more_slots : (m : Option MethodType) → takes_at_most 254 m ≡ true → takes_at_most 255 m ≡ true
more_slots None few = few
more_slots (Some m) few = le-leb (argument_slots m) 255 (omega (arith, leb-true (argument_slots m) 254 few))

-- A method that may have `this` may do without.
pub static_too : (text : List ℕ) → is_method_descriptor 254 text ≡ true → is_method_descriptor 255 text ≡ true
unfolding is_method_descriptor
static_too text few = more_slots (method_type text) few

judged_at : (constant : Option Constant) → unwrap_or (option_map judged_constant constant) nothing ≡ judged_or_nothing (option_and_then text_of constant)
judged_at None = refl
judged_at (Some constant) = refl

pub none_at_zero : (pool : Pool) (number : ℕ) → number ≡ 0 → nothing ≡ judged_or_nothing (text_at pool number)
unfolding text_at
none_at_zero pool number e = rw e refl

pub forms_at : (pool : Pool) (table : TextTable) (number : ℕ) (found : Option TextForms) → IsTableOf pool table → (number ≡ 0 → ⊥)
    → found ≡ slice_get table.forms.items (number - 1) → unwrap_or found nothing ≡ judged_or_nothing (text_at pool number)
unfolding IsTableOf text_at
forms_at pool table zero found is some there = absurd (some refl)
forms_at pool table (suc n) found is some there =
    ap (λ o. unwrap_or o nothing) (there ∙ same ∙ slice_get-map judged_constant pool.constants n) ∙ judged_at (slice_get pool.constants n)
  where
    at : suc n - 1 ≡ n
    at = omega arith

    same : slice_get table.forms.items (suc n - 1) ≡ slice_get (map judged_constant pool.constants) n
    same = rw (at, is) refl

pub field_name : (o : Option (List ℕ)) → (judged_or_nothing o).is_field_name ≡ is_some_that is_unqualified o
field_name None = refl
field_name (Some text) = refl

pub method_name : (o : Option (List ℕ)) → (judged_or_nothing o).is_method_name ≡ is_some_that is_method_name o
method_name None = refl
method_name (Some text) = refl

pub plain_class : (o : Option (List ℕ)) → (judged_or_nothing o).is_class_name ≡ is_some_that is_class_name o
plain_class None = refl
plain_class (Some text) = refl

pub class_text : (o : Option (List ℕ)) → ((judged_or_nothing o).is_class_name || (judged_or_nothing o).is_array) ≡ is_some_that (λ n. is_class_name n || is_array_descriptor n) o
class_text None = refl
class_text (Some text) = refl

pub field_type : (o : Option (List ℕ)) → (judged_or_nothing o).is_field_type ≡ is_some_that is_field_descriptor o
field_type None = refl
field_type (Some text) = refl

pub return_type : (o : Option (List ℕ)) → (judged_or_nothing o).is_return_type ≡ is_some_that is_return_descriptor o
return_type None = refl
return_type (Some text) = refl

pub static_type : (o : Option (List ℕ)) → (judged_or_nothing o).is_method_type ≡ is_some_that (is_method_descriptor 255) o
static_type None = refl
static_type (Some text) = refl

pub instance_type : (o : Option (List ℕ)) → (judged_or_nothing o).is_instance_type ≡ is_some_that (is_method_descriptor 254) o
instance_type None = refl
instance_type (Some text) = refl

neither : (a b : Bool) → (a && false || b && false) ≡ false
neither true true = refl
neither true false = refl
neither false true = refl
neither false false = refl

pub member : (a b : Option (List ℕ)) → ((judged_or_nothing a).is_field_name && (judged_or_nothing b).is_field_type || (judged_or_nothing a).is_method_name && (judged_or_nothing b).is_method_type)
    ≡ is_some_that (λ n. is_some_that (is_name_with n) b) a
member None b = refl
member (Some name) None = neither (is_unqualified name) (is_method_name name)
member (Some name) (Some descriptor) = refl
