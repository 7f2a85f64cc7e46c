-- The places that are marked, and those that were chosen.
use Rattle.std.proofs.Common.{◌≡◌, ℕ, zero, suc, ◌+◌, ◌<◌, ◌≤◌, Bool, true, cond, List, [], ◌∷◌, ◌++◌, length, get_or, eqb, refl, sym, ◌∙◌, ap, arith, inl, inr, append-nil}
use Rattle.std.specs.List.{filter, range_with_len}
use Rattle.std.proofs.lemmas.Bool.{eq-eqb, eqb-true, or_cases, cases_Bool}
use Rattle.std.proofs.lemmas.List.{map-id}
use Rattle.std.proofs.lemmas.List.Elements.{All-cons, All-nil, All-filter}
use Rattle.std.proofs.lemmas.List.FromFn.{filter_of_map_range_with_len_more}
use Rattle.place_graph.specs.Graphs.{is_among, with_places, AreWithin}
use Rattle.place_graph.specs.Closing.{IsMarking}
use Rattle.place_graph.proofs.Marks.{or_true}
use Rattle.place_graph.proofs.Walks.{is_among-once}
use Rattle.task_graph.specs.Plans.{in_name_order, marked_places}

filter_agree : (p q : ℕ → Bool) (xs : List ℕ) → ((x : ℕ) → is_among x xs ≡ true → p x ≡ q x) → filter p xs ≡ filter q xs
filter_agree p q [] h = refl
filter_agree p q (x ∷ xs) h =
    let here : p x ≡ q x = h x (rw (eq-eqb x x refl) refl) in
    let rest : filter p xs ≡ filter q xs = filter_agree p q xs (λ y t. h y (rw t (or_true (eqb x y)))) in
    rw (here, rest) refl

among_range : (a n x : ℕ) → is_among x (range_with_len a n) ≡ true → x < a + n
among_range a zero x t = cc
among_range a (suc n) x t = elim (or_cases (eqb a x) (is_among x (range_with_len (a + 1) n)) t) [
  | inl e ↦ let same = eqb-true a x e in omega (arith, same)
  | inr e ↦ omega (arith, among_range (a + 1) n x e)
]

range_within : (a n k : ℕ) → a + n ≤ k → AreWithin k (range_with_len a n)
range_within a zero k h = All-nil (λ p. p < k)
range_within a (suc n) k h = All-cons (λ p. p < k) a (range_with_len (a + 1) n) (omega arith) (range_within (a + 1) n k (omega arith))

-- where exactly the chosen places are marked, the marked ones are the chosen ones in order
pub marked_are_chosen : (marks found chosen : List ℕ) → IsMarking marks 1 found → found ≡ with_places [] chosen → marked_places marks (length marks) ≡ in_name_order (length marks) chosen
marked_are_chosen marks found chosen marking e =
    filter_agree (λ x. eqb (get_or marks x 0) 1) (λ x. is_among x chosen) (range_with_len 0 (length marks))
    (λ x t. marking.marked x (omega (arith, among_range 0 (length marks) x t)) ∙ ap (is_among x) e ∙ is_among-once x chosen)

pub chosen_within : (count : ℕ) (chosen : List ℕ) → AreWithin count (in_name_order count chosen)
chosen_within count chosen = All-filter (λ x. is_among x chosen) (λ p. p < count) (range_with_len 0 count) (range_within 0 count count (omega arith))

-- one more place
pub marked_more : (marks : List ℕ) (n : ℕ) → marked_places marks (n + 1) ≡ marked_places marks n ++ cond (eqb (get_or marks n 0) 1) (n ∷ []) []
marked_more marks n =
    let more = filter_of_map_range_with_len_more (λ (x : ℕ). eqb (get_or marks x 0) 1) (λ x. x) 0 n n (omega arith) in
    ap (filter (λ (x : ℕ). eqb (get_or marks x 0) 1)) (sym (map-id (range_with_len 0 (n + 1)))) ∙ more
    ∙ ap (λ xs. filter (λ (x : ℕ). eqb (get_or marks x 0) 1) xs ++ cond (eqb (get_or marks n 0) 1) (n ∷ []) []) (map-id (range_with_len 0 n))

pub marked_next : (marks found : List ℕ) (n : ℕ) → found ≡ marked_places marks n → cond (eqb (get_or marks n 0) 1) (found ++ n ∷ []) found ≡ marked_places marks (n + 1)
marked_next marks found n e = elim (cases_Bool (eqb (get_or marks n 0) 1)) [
  | inl t ↦ rw (t, e) (sym (marked_more marks n ∙ rw t refl))
  | inr f ↦ rw (f, e) (sym (marked_more marks n ∙ rw f (append-nil (marked_places marks n))))
]
