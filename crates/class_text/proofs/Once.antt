-- No item is the same as an earlier one exactly where none is the same as a later one.
use Rattle.std.proofs.Common.{◌≡◌, Bool, true, false, not, ◌&&◌, ◌||◌, List, [], ◌∷◌, ◌++◌, refl}
use Rattle.std.specs.List.{list_any, AllByRecursion}
use Rattle.std.proofs.lemmas.Bool.{and_parts, and_from}
use Rattle.class_model.specs.Attributes.{once_each}
use Rattle.class_text.specs.Attributes.{is_first}
use Rattle.class_text.proofs.Parts.{AllAfter}

-- one of which no later one is the same
abbrev is_last : {A : Type 0} → (A → Bool) → (A → A → Bool) → List A → A → Bool
is_last counts same xs e = not (counts e && list_any (same e) xs)

both : (a b : Bool) → not (a || b) ≡ true → (not a ≡ true) × (not b ≡ true)
both true b e = absurd cc
both false b e = (refl, e)

neither : (a b : Bool) → not a ≡ true → not b ≡ true → not (a || b) ≡ true
neither true b e f = absurd cc
neither false b e f = f

parts_of : (c a b : Bool) → not (c && (a || b)) ≡ true → (not (c && a) ≡ true) × (not (c && b) ≡ true)
parts_of true a b e = both a b e
parts_of false a b e = (refl, refl)

parts_from : (c a b : Bool) → not (c && a) ≡ true → not (c && b) ≡ true → not (c && (a || b)) ≡ true
parts_from true a b e f = neither a b e f
parts_from false a b e f = refl

module _ {A : Type 0} (counts : A → Bool) (same : A → A → Bool) where
  none_before : (x : A) (xs before : List A) → is_first counts same before x ≡ true → AllByRecursion (λ e. is_last counts same xs e ≡ true) before → AllByRecursion (λ e. is_last counts same (x ∷ xs) e ≡ true) before
  unfolding is_first
  none_before x xs [] f l = tt
  none_before x xs (e ∷ before) f l =
      let p = both (counts e && same e x) (list_any (λ d. counts d && same d x) before) f in
      (parts_from (counts e) (same e x) (list_any (same e) xs) p.0 l.0, none_before x xs before p.1 l.1)

  first_of_none : (x : A) (xs before : List A) → AllByRecursion (λ e. is_last counts same (x ∷ xs) e ≡ true) before → (is_first counts same before x ≡ true) × AllByRecursion (λ e. is_last counts same xs e ≡ true) before
  unfolding is_first
  first_of_none x xs [] l = (refl, tt)
  first_of_none x xs (e ∷ before) l =
      let p = parts_of (counts e) (same e x) (list_any (same e) xs) l.0 in
      let q = first_of_none x xs before l.1 in
      (neither (counts e && same e x) (list_any (λ d. counts d && same d x) before) p.0 q.0, (p.1, q.1))

  at_end : (P : A → Type 0) (x : A) (before : List A) → AllByRecursion P (before ++ x ∷ []) → AllByRecursion P before × P x
  at_end P x [] all = (tt, all.0)
  at_end P x (e ∷ before) all = let q = at_end P x before all.1 in ((all.0, q.0), q.1)

  with_end : (P : A → Type 0) (x : A) (before : List A) → AllByRecursion P before → P x → AllByRecursion P (before ++ x ∷ [])
  with_end P x [] all p = (p, tt)
  with_end P x (e ∷ before) all p = (all.0, with_end P x before all.1 p)

  pub once_from : (before xs : List A) → AllAfter (λ b x. is_first counts same b x ≡ true) before xs → (once_each counts same xs ≡ true) × AllByRecursion (λ e. is_last counts same xs e ≡ true) before
  unfolding is_first
  once_from before [] all = (refl, none before)
    where
      nothing : (c : Bool) → not (c && false) ≡ true
      nothing true = refl
      nothing false = refl

      none : (b : List A) → AllByRecursion (λ e. is_last counts same [] e ≡ true) b
      none [] = tt
      none (e ∷ b) = (nothing (counts e), none b)
  once_from before (x ∷ xs) all =
      let q = once_from (before ++ x ∷ []) xs all.1 in
      let r = at_end (λ e. is_last counts same xs e ≡ true) x before q.1 in
      (and_from (is_last counts same xs x) (once_each counts same xs) r.1 q.0, none_before x xs before all.0 r.0)

  pub once_after : (before xs : List A) → once_each counts same xs ≡ true → AllByRecursion (λ e. is_last counts same xs e ≡ true) before → AllAfter (λ b x. is_first counts same b x ≡ true) before xs
  unfolding is_first
  once_after before [] once last = tt
  once_after before (x ∷ xs) once last =
      let p = and_parts (is_last counts same xs x) (once_each counts same xs) once in
      let q = first_of_none x xs before last in
      (q.0, once_after (before ++ x ∷ []) xs p.1 (with_end (λ e. is_last counts same xs e ≡ true) x before q.1 p.0))
