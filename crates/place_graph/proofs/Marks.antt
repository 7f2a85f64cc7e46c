-- Marks of the places that were found.
use Rattle.std.proofs.Common.{◌≡◌, ℕ, zero, suc, ◌+◌, ◌<◌, ◌≤◌, ◌⊎◌, Bool, true, false, ◌||◌, List, [], ◌∷◌, ◌++◌, length, get_or, set, take, eqb, refl, sym, ◌∙◌, ap, subst, arith, get_or-set_same, get_or-set_other, length-set, inl, inr}
use Rattle.std.proofs.lemmas.Bool.{cases_eq, cases_Bool, eq-eqb, ne_eqb, eqb-true, or_cases}
use Rattle.std.proofs.lemmas.List.{take_more}
use Rattle.place_graph.specs.Graphs.{is_among, with_place}
use Rattle.place_graph.specs.Closing.{IsMarking}

pub or_true : (b : Bool) → (b || true) ≡ true
or_true true = refl
or_true false = refl

pub or_false : (b : Bool) → (b || false) ≡ b
or_false true = refl
or_false false = refl

pub is_among-append : (x : ℕ) (xs ys : List ℕ) → is_among x (xs ++ ys) ≡ (is_among x xs || is_among x ys)
is_among-append x [] ys = refl
is_among-append x (z ∷ xs) ys = elim (cases_Bool (eqb z x)) [
  | inl t ↦ rw t refl
  | inr f ↦ rw f (is_among-append x xs ys)
]

pub among_at : (xs : List ℕ) (i d : ℕ) → i < length xs → is_among (get_or xs i d) xs ≡ true
among_at [] i d h = absurd (omega arith)
among_at (x ∷ xs) zero d h = rw (eq-eqb x x refl) refl
among_at (x ∷ xs) (suc i) d h = rw (among_at xs i d (omega arith)) (or_true (eqb x (get_or xs i d)))

pub found_before : (marks : List ℕ) (round : ℕ) (found : List ℕ) (place : ℕ) → IsMarking marks round found → place < length marks → get_or marks place 0 ≡ round
    → with_place found place ≡ found
found_before marks round found place marking within e =
    let is : is_among place found ≡ true = sym (marking.marked place within) ∙ eq-eqb (get_or marks place 0) round e in
    rw is refl

not_found : (marks : List ℕ) (round : ℕ) (found : List ℕ) (place : ℕ) → IsMarking marks round found → place < length marks → (get_or marks place 0 ≡ round → ⊥)
    → is_among place found ≡ false
not_found marks round found place marking within e = sym (marking.marked place within) ∙ ne_eqb (get_or marks place 0) round e

pub added : (marks : List ℕ) (round : ℕ) (found : List ℕ) (place : ℕ) → IsMarking marks round found → place < length marks → (get_or marks place 0 ≡ round → ⊥)
    → with_place found place ≡ found ++ place ∷ []
added marks round found place marking within e = rw (not_found marks round found place marking within e) refl

pub marked_now : (marks : List ℕ) (round : ℕ) (found : List ℕ) (place : ℕ) → IsMarking marks round found → place < length marks
    → IsMarking (set marks place round) round (found ++ place ∷ [])
marked_now marks round found place marking within = record {
  marked = λ x h. at x (rw length-set at h) (cases_eq x place);
  earlier = λ x. before x (cases_eq x place);
}
  where
    at : (x : ℕ) → x < length marks → (x ≡ place) ⊎ (x ≡ place → ⊥) → eqb (get_or (set marks place round) x 0) round ≡ is_among x (found ++ place ∷ [])
    at x h (inl e) =
        let here : get_or (set marks place round) x 0 ≡ round = subst (λ (y : ℕ). get_or (set marks place round) y 0 ≡ round) (sym e) (get_or-set_same marks place round 0 within) in
        let last : eqb place x ≡ true = eq-eqb place x (sym e) in
        eq-eqb (get_or (set marks place round) x 0) round here ∙ sym (is_among-append x found (place ∷ []) ∙ rw last (or_true (is_among x found)))
    at x h (inr n) =
        let last : eqb place x ≡ false = ne_eqb place x (λ e. n (sym e)) in
        ap (λ m. eqb m round) (get_or-set_other marks place x round 0 n) ∙ marking.marked x h
        ∙ sym (is_among-append x found (place ∷ []) ∙ rw last (or_false (is_among x found)))

    before : (x : ℕ) → (x ≡ place) ⊎ (x ≡ place → ⊥) → get_or (set marks place round) x 0 ≤ round
    before x (inl e) = rw (e, get_or-set_same marks place round 0 within) (omega arith)
    before x (inr n) = rw (get_or-set_other marks place x round 0 n) (marking.earlier x)

-- what stands among one more place of a list
pub among_more : (xs : List ℕ) (i x : ℕ) → i < length xs → is_among x (take (i + 1) xs) ≡ true → (is_among x (take i xs) ≡ true) ⊎ (get_or xs i 0 ≡ x)
among_more xs i x h t =
    let split : (is_among x (take i xs) || is_among x (get_or xs i 0 ∷ [])) ≡ true = sym (is_among-append x (take i xs) (get_or xs i 0 ∷ [])) ∙ (rw (← take_more xs i 0 h) t) in
    elim (or_cases (is_among x (take i xs)) (is_among x (get_or xs i 0 ∷ [])) split) [
      | inl e ↦ inl e
      | inr e ↦ inr (eqb-true (get_or xs i 0) x (sym (or_false (eqb (get_or xs i 0) x)) ∙ e))
    ]
