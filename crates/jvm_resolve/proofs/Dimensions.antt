-- Arrays of so many dimensions.
use Rattle.std.proofs.Common.{◌≡◌, ℕ, zero, suc, ◌+◌, ◌-◌, ◌<◌, ◌≤◌, Bool, true, false, List, refl, ap, ◌∙◌, arith}
use Rattle.std.specs.Prelude.{if◌then◌else◌, ◌==◌}
use Rattle.std.specs.Str.{byte}
use Rattle.class_model.specs.declared.descriptor_text.TypeForm.{TypeForm}
use Rattle.class_model.specs.Descriptors.{FieldType, primitive, object, array}
use Rattle.class_model.specs.TypeForms.{arrays, component, type_of}
use Rattle.class_code.specs.Uses.{class_of_type}
use Rattle.jvm_model.specs.Plans.{Oracle, end_of}
use Rattle.jvm_model.specs.Attempts.{fine}
use Rattle.jvm_model.specs.Types.{is_assignable}
use Rattle.jvm_resolve.specs.Forms.{is_object}

-- the outermost dimension
pub outermost : (n : ℕ) (t : FieldType) → arrays (suc n) t ≡ array (arrays n t)
outermost zero t = refl
outermost (suc n) t = outermost n (array t)

class_within : (n : ℕ) (t : FieldType) → class_of_type (arrays n t) ≡ class_of_type t
class_within zero t = refl
class_within (suc n) t = class_within n (array t)

pub class_of_arrays : (form : TypeForm) → class_of_type (type_of form) ≡ class_of_type (component form)
class_of_arrays form = class_within form.dimensions (component form)

-- Dimensions that both have are passed over.
peeled : (k m : ℕ) (s t : FieldType) → is_assignable (arrays (k + m) s) (arrays k t) ≡ is_assignable (arrays m s) t
peeled zero m s t = let n : 0 + m ≡ m = omega arith in rw n refl
peeled (suc k) m s t =
    let n : suc k + m ≡ suc (k + m) = omega arith in
    rw (n, outermost (k + m) s, outermost k t) (peeled k m s t)

peeled_under : (k m : ℕ) (s t : FieldType) → is_assignable (arrays k s) (arrays (k + m) t) ≡ is_assignable s (arrays m t)
peeled_under zero m s t = let n : 0 + m ≡ m = omega arith in rw n refl
peeled_under (suc k) m s t =
    let n : suc k + m ≡ suc (k + m) = omega arith in
    rw (n, outermost k s, outermost (k + m) t) (peeled_under k m s t)

module _ (oracle : Oracle) where
  -- an array as a type that is none
  array_assigned : (t : FieldType) (is : Bool) (name : List ℕ) (letter : ℕ)
      → end_of oracle (is_assignable (array t) (if is then object name else primitive letter)) ≡ fine (is_object (if is then object name else primitive letter))
  array_assigned t true name letter = refl
  array_assigned t false name letter = refl

  -- what is no array as one
  no_array_assigned : (t : FieldType) (is : Bool) (name : List ℕ) (letter : ℕ)
      → end_of oracle (is_assignable (if is then object name else primitive letter) (array t)) ≡ fine false
  no_array_assigned t true name letter = refl
  no_array_assigned t false name letter = refl

  pub assigned_to_component : (n : ℕ) (low high : TypeForm) → 0 < n
      → end_of oracle (is_assignable (arrays n (component low)) (component high)) ≡ fine (is_object (component high))
  assigned_to_component zero low high some = absurd (omega arith)
  assigned_to_component (suc n) low high some =
      rw (outermost n (component low)) (array_assigned (arrays n (component low)) (high.letter == byte "L") high.class.now high.letter)

  pub assigned_arrays : (low high : TypeForm) → high.dimensions ≤ low.dimensions
      → end_of oracle (is_assignable (type_of low) (type_of high)) ≡ end_of oracle (is_assignable (arrays (low.dimensions - high.dimensions) (component low)) (component high))
  assigned_arrays low high more =
      let n : low.dimensions ≡ high.dimensions + (low.dimensions - high.dimensions) = omega arith in
      ap (λ k. end_of oracle (is_assignable (arrays k (component low)) (type_of high))) n
      ∙ ap (end_of oracle) (peeled high.dimensions (low.dimensions - high.dimensions) (component low) (component high))

  few_by : (n : ℕ) (low high : TypeForm) → high.dimensions ≡ low.dimensions + suc n → end_of oracle (is_assignable (type_of low) (type_of high)) ≡ fine false
  few_by n low high more =
      ap (λ k. end_of oracle (is_assignable (type_of low) (arrays k (component high)))) more
      ∙ ap (end_of oracle) (peeled_under low.dimensions (suc n) (component low) (component high) ∙ ap (is_assignable (component low)) (outermost n (component high)))
      ∙ no_array_assigned (arrays n (component high)) (low.letter == byte "L") low.class.now low.letter

  pub assigned_with_fewer : (low high : TypeForm) → low.dimensions < high.dimensions → end_of oracle (is_assignable (type_of low) (type_of high)) ≡ fine false
  assigned_with_fewer low high fewer = few_by (high.dimensions - low.dimensions - 1) low high (omega arith)

pub ruleset assignments = (assigned_to_component, assigned_arrays, assigned_with_fewer)
