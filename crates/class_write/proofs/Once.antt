-- Items of which none is the same as an earlier one.
use Rattle.std.proofs.Common.{◌≡◌, ℕ, ◌+◌, ◌^◌, ◌⊎◌, inl, inr, Bool, true, false, not, ◌&&◌, ◌||◌, ltb, List, [], ◌∷◌, ◌++◌, length, map, Option, None, refl, sym, ap, ◌∙◌, append_assoc, length-append}
use Rattle.std.specs.List.{list_any}
use Rattle.std.proofs.lemmas.Bool.{cases_Bool, and_parts, and_from}
use Rattle.std.proofs.lemmas.List.{append-nil, take_at}
use Rattle.class_model.specs.Attributes.{once_each}
use Rattle.const_pool.specs.declared.write_fault.Part.{Part}
use Rattle.const_pool.specs.declared.write_fault.WriteFault.{WriteFault}
use Rattle.const_pool.specs.declared.write_fault.WriteFault.TheVariants.{TooLarge}
use Rattle.class_write.specs.Order.{unless, first_from, counted, is_again}
use Rattle.class_write.proofs.Faults.{none_parts}

-- Where two items are the same, they are it in both orders, and both count.
pub record IsFair {A : Type 0} (counts : A → Bool) (same : A → A → Bool) : Type 0 where
  pub back : (x y : A) → same x y ≡ same y x
  pub both : (x y : A) → same x y ≡ true → counts x ≡ counts y

pub not_true : (b : Bool) → not b ≡ true → b ≡ false
not_true true e = absurd (let h : false ≡ true = e in cc)
not_true false e = refl

any_more : {A : Type 0} (test : A → Bool) (xs : List A) (x : A) → list_any test xs ≡ false → test x ≡ false → list_any test (xs ++ x ∷ []) ≡ false
any_more test [] x none is = rw is refl
any_more test (y ∷ xs) x none is = elim (cases_Bool (test y)) [
  | inl t ↦ absurd (let h : true ≡ false = rw t at none in cc)
  | inr f ↦ rw f (any_more test xs x (rw f at none) is)
]

-- a later item that isn't the same as an earlier one that counts
pub once_more : {A : Type 0} (counts : A → Bool) (same : A → A → Bool) (xs : List A) (x : A) → IsFair counts same → once_each counts same xs ≡ true
    → (counts x && list_any (same x) xs) ≡ false → once_each counts same (xs ++ x ∷ []) ≡ true
once_more counts same [] x fair once none = last (counts x)
  where
    last : (b : Bool) → (not (b && false) && true) ≡ true
    last true = refl
    last false = refl
once_more {A} counts same (y ∷ xs) x fair once none =
    let parts = and_parts (not (counts y && list_any (same y) xs)) (once_each counts same xs) once in
    and_from (not (counts y && list_any (same y) (xs ++ x ∷ []))) (once_each counts same (xs ++ x ∷ [])) (first (cases_Bool (counts y)) parts.0) (once_more counts same xs x fair parts.1 (behind (cases_Bool (counts x))))
  where
    behind : ((counts x ≡ true) ⊎ (counts x ≡ false)) → (counts x && list_any (same x) xs) ≡ false
    behind (inr f) = rw f refl
    behind (inl t) = elim (cases_Bool (same x y)) [
      | inl s ↦ absurd (let h : true ≡ false = rw (t, s) at none in cc)
      | inr n ↦ rw t (rw (t, n) at none)
    ]

    apart : counts y ≡ true → ((counts x ≡ true) ⊎ (counts x ≡ false)) → same y x ≡ false
    apart c d = elim (cases_Bool (same y x)) [
      | inr n ↦ n
      | inl s ↦ (let both : counts x ≡ true = sym (fair.both y x s) ∙ c in
          let back : same x y ≡ true = sym (fair.back y x) ∙ s in
          absurd (let h : true ≡ false = rw (both, back) at none in cc))
    ]

    first : ((counts y ≡ true) ⊎ (counts y ≡ false)) → not (counts y && list_any (same y) xs) ≡ true → not (counts y && list_any (same y) (xs ++ x ∷ [])) ≡ true
    first (inr f) e = rw f refl
    first (inl t) e = elim (cases_Bool (list_any (same y) xs)) [
      | inl s ↦ absurd (let h : false ≡ true = rw (t, s) at e in cc)
      | inr n ↦ (let later : list_any (same y) (xs ++ x ∷ []) ≡ false = any_more (same y) xs x n (apart t (cases_Bool (counts x))) in rw (t, later) refl)
    ]

once_behind : {A : Type 0} (counts : A → Bool) (same : A → A → Bool) (misfit : ℕ → A → Option WriteFault) (items : List A) → IsFair counts same
    → ((n : ℕ) (x : A) → misfit n x ≡ None → is_again counts same items n x ≡ false)
    → (front rest : List A) → items ≡ front ++ rest → once_each counts same front ≡ true → first_from misfit (length front) rest ≡ None → once_each counts same items ≡ true
unfolding first_from
once_behind counts same misfit items fair each front [] e once none = rw (e, append-nil front) once
once_behind {A} counts same misfit items fair each front (x ∷ rest) e once none =
    let parts = none_parts (misfit (length front) x) (first_from misfit (length front + 1) rest) none in
    let here : (counts x && list_any (same x) front) ≡ false = rw (e, take_at front (x ∷ rest) (length front) refl) at (each (length front) x parts.0) in
    let more : length (front ++ x ∷ []) ≡ length front + 1 = length-append front (x ∷ []) in
    once_behind counts same misfit items fair each (front ++ x ∷ []) rest (e ∙ sym (append_assoc front (x ∷ []) rest)) (once_more counts same front x fair once here) (rw more parts.1)

-- none of the items is the same as an earlier one, where each that is has a fault
pub once_all : {A : Type 0} (counts : A → Bool) (same : A → A → Bool) (misfit : ℕ → A → Option WriteFault) (part : Part) (items : List A) → IsFair counts same
    → ((n : ℕ) (x : A) → misfit n x ≡ None → is_again counts same items n x ≡ false) → counted part misfit items ≡ None → once_each counts same items ≡ true
unfolding counted
once_all counts same misfit part items fair each none =
    once_behind counts same misfit items fair each [] items refl refl (none_parts (unless (ltb (length items) (2 ^ 16)) (TooLarge part)) (first_from misfit 0 items) none).1

any_there : {A : Type 0} (test : A → Bool) (xs : List A) (x : A) (rest : List A) → test x ≡ true → list_any test (xs ++ x ∷ rest) ≡ true
any_there test [] x rest is = rw is refl
any_there test (y ∷ xs) x rest is = elim (cases_Bool (test y)) [ inl t ↦ rw t refl | inr f ↦ rw f (any_there test xs x rest is) ]

-- an item that counts isn't the same as one before it
pub once_before : {A : Type 0} (counts : A → Bool) (same : A → A → Bool) (front : List A) (x : A) (rest : List A) → IsFair counts same → once_each counts same (front ++ x ∷ rest) ≡ true
    → (counts x && list_any (same x) front) ≡ false
once_before counts same [] x rest fair once = none (counts x)
  where
    none : (b : Bool) → (b && false) ≡ false
    none true = refl
    none false = refl
once_before {A} counts same (y ∷ front) x rest fair once = elim (cases_Bool (counts x)) [
  | inr f ↦ rw f refl
  | inl t ↦ (let parts = and_parts (not (counts y && list_any (same y) (front ++ x ∷ rest))) (once_each counts same (front ++ x ∷ rest)) once in
      let later : list_any (same x) front ≡ false = rw t at (once_before counts same front x rest fair parts.1) in
      let here : same x y ≡ false = apart t parts.0 (cases_Bool (same x y)) in
      rw (t, here) later)
]
  where
    apart : counts x ≡ true → not (counts y && list_any (same y) (front ++ x ∷ rest)) ≡ true → ((same x y ≡ true) ⊎ (same x y ≡ false)) → same x y ≡ false
    apart t e (inr n) = n
    apart t e (inl s) =
        let both : counts y ≡ true = sym (fair.both x y s) ∙ t in
        let any : list_any (same y) (front ++ x ∷ rest) ≡ true = any_there (same y) front x rest (sym (fair.back x y) ∙ s) in
        absurd (let h : false ≡ true = rw (both, any) at e in cc)

any_map : {A B : Type 0} (f : A → B) (test : B → Bool) (xs : List A) → list_any test (map f xs) ≡ list_any (λ x. test (f x)) xs
any_map f test [] = refl
any_map f test (x ∷ xs) = ap (λ (b : Bool). test (f x) || b) (any_map f test xs)

-- items by what they map to
pub once_map : {A B : Type 0} (f : A → B) (counts : B → Bool) (same : B → B → Bool) (xs : List A)
    → once_each counts same (map f xs) ≡ once_each (λ x. counts (f x)) (λ x y. same (f x) (f y)) xs
once_map f counts same [] = refl
once_map f counts same (x ∷ xs) = rw (any_map f (same (f x)) xs, once_map f counts same xs) refl
