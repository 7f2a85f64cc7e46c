-- An array of n dimensions is read as n brackets and a component.
use Rattle.std.proofs.Common.{◌≡◌, ℕ, zero, suc, eqb, ◌+◌, ◌<◌, ◌≤◌, List, Option, Some, None, option_and_then, refl, inl, inr, arith, add-one}
use Rattle.std.proofs.lemmas.Bool.{cases_lt, cases_Bool, lt-ltb, le-ltb}
use Rattle.class_model.specs.Descriptors.{FieldType, array, dimensions, slots, deeper}
use Rattle.class_model.specs.TypeForms.{arrays, component, wrapped}
use Rattle.class_model.specs.declared.descriptor_text.TypeForm.{TypeForm}

pub wrapped-none : (n : ℕ) → wrapped n None ≡ None
unfolding wrapped
wrapped-none zero = refl
wrapped-none (suc n) = wrapped-none n

-- up to 255 dimensions are read
pub wrapped-some : (n : ℕ) (t : FieldType) (rest : List ℕ) → dimensions t + n ≤ 255 → wrapped n (Some (t, rest)) ≡ Some (arrays n t, rest)
unfolding wrapped
wrapped-some zero t rest few = refl
wrapped-some (suc n) t rest few = rw (lt-ltb (dimensions t) 255 (omega arith)) (wrapped-some n (array t) rest (omega arith))

-- and more are not
too_many : (n : ℕ) (t : FieldType) (rest : List ℕ) → 255 < dimensions t + n → dimensions t ≤ 255 → wrapped n (Some (t, rest)) ≡ None
unfolding wrapped
too_many zero t rest many few = absurd (omega arith)
too_many (suc n) t rest many few = elim (cases_lt (dimensions t) 255) [
  | inl lt ↦ rw (lt-ltb (dimensions t) 255 lt) (too_many n (array t) rest (omega arith) (omega arith))
  | inr ge ↦ rw (le-ltb (dimensions t) 255 ge) (wrapped-none n)
]

pub wrapped-deep : (n : ℕ) (found : Option (FieldType × List ℕ)) → 255 ≤ n → wrapped n (option_and_then deeper found) ≡ None
wrapped-deep n None deep = wrapped-none n
wrapped-deep n (Some (t, rest)) deep = elim (cases_lt (dimensions t) 255) [
  | inl lt ↦ rw (lt-ltb (dimensions t) 255 lt) (too_many n (array t) rest (omega arith) (omega arith))
  | inr ge ↦ rw (le-ltb (dimensions t) 255 ge) (wrapped-none n)
]

pub wrapped-more : (n : ℕ) (found : Option (FieldType × List ℕ)) → wrapped (n + 1) found ≡ wrapped n (option_and_then deeper found)
unfolding wrapped
wrapped-more n found = rw add-one refl

plain : (form : TypeForm) → dimensions (component form) ≡ 0
plain form = elim (cases_Bool (eqb form.letter 76)) [ inl l ↦ rw l refl | inr p ↦ rw p refl ]

pub wrapped-component : (n : ℕ) (form : TypeForm) (rest : List ℕ) → n ≤ 255
    → wrapped n (Some (component form, rest)) ≡ Some (arrays n (component form), rest)
wrapped-component n form rest few = wrapped-some n (component form) rest (omega (arith, plain form))

pub array-slots : (n : ℕ) (t : FieldType) → 0 < n → slots (arrays n t) ≡ 1
array-slots zero t some = absurd (omega arith)
array-slots (suc zero) t some = refl
array-slots (suc (suc n)) t some = array-slots (suc n) (array t) (omega arith)
