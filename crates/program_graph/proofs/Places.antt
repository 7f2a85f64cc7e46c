-- The place of an element of a name among elements with distinct names.
use Rattle.std.proofs.Common.{◌≡◌, ℕ, zero, suc, ◌+◌, ◌<◌, ◌≤◌, Bool, true, false, cond, List, [], ◌∷◌, map, length, get_or, Some, None, count_by, bytes_eq, refl, sym, ◌∙◌, ap, subst, inl, inr, arith}
use Rattle.std.specs.List.{position_from, HoldsAt}
use Rattle.std.specs.List.Sorted.{IsPartitionPoint}
use Rattle.std.specs.Cmp.Lexicographic.{slice_cmp, nat_list_eq_equiv}
use Rattle.std.specs.Ordering.{nat_cmp, is_eq}
use Rattle.std.proofs.lemmas.Bool.{cases_lt}
use Rattle.std.specs.declared.cmp.Ordering.{Ordering}
use Rattle.std.specs.declared.cmp.Ordering.TheVariants.{Less, Equal, Greater}
use Rattle.std.proofs.lemmas.Map.Text.{is_eq-slice_cmp}
use Rattle.program_graph.proofs.NameOrder.{count_yes, count_rest, count_map}

pub position_map : {X Y : Type 0} (p : Y → Bool) (f : X → Y) (n : ℕ) (xs : List X) → position_from p n (map f xs) ≡ position_from (λ x. p (f x)) n xs
position_map p f n [] = refl
position_map p f n (x ∷ xs) = ap (λ later. cond (p (f x)) (Some n) later) (position_map p f (n + 1) xs)

some_counts : {X : Type 0} (p : X → Bool) (xs : List X) (i : ℕ) (d : X) → i < length xs → p (get_or xs i d) ≡ true → 1 ≤ count_by p xs
some_counts p [] i d below is = absurd (omega (arith, below))
some_counts p (x ∷ xs) zero d below is = let c = count_yes p x xs is in omega (arith, c)
some_counts p (x ∷ xs) (suc i) d below is =
    let c = count_rest p x xs in
    let rest = some_counts p xs i d (omega (arith, below)) is in
    omega (arith, c, rest)

pub position_found : {X : Type 0} (p : X → Bool) (n : ℕ) (xs : List X) (i : ℕ) (d : X) → count_by p xs ≤ 1 → i < length xs → p (get_or xs i d) ≡ true
    → position_from p n xs ≡ Some (n + i)
position_found p n [] i d once below is = absurd (omega (arith, below))
position_found p n (x ∷ xs) zero d once below is =
    let at : n ≡ n + 0 = omega arith in
    ap (λ b. cond b (Some n) (position_from p (n + 1) xs)) is ∙ ap Some at
position_found p n (x ∷ xs) (suc i) d once below is =
    go (p x) refl (λ fewer. position_found p (n + 1) xs i d fewer (omega (arith, below)) is)
  where
    go : (b : Bool) → p x ≡ b → (count_by p xs ≤ 1 → position_from p (n + 1) xs ≡ Some (n + 1 + i)) → cond b (Some n) (position_from p (n + 1) xs) ≡ Some (n + suc i)
    go true e rest =
        let c = count_yes p x xs e in
        let some = some_counts p xs i d (omega (arith, below)) is in
        absurd (omega (arith, c, some, once))
    go false e rest =
        let c = count_rest p x xs in
        let at : n + 1 + i ≡ n + suc i = omega arith in
        rest (omega (arith, c, once)) ∙ ap Some at

pub position_none : {X : Type 0} (p : X → Bool) (n : ℕ) (xs : List X) → ((k : ℕ) (d : X) → k < length xs → p (get_or xs k d) ≡ false) → position_from p n xs ≡ None
position_none p n [] none = refl
position_none p n (x ∷ xs) none =
    ap (λ b. cond b (Some n) (position_from p (n + 1) xs)) (none zero x (omega arith))
    ∙ position_none p (n + 1) xs (λ k d below. none (suc k) d (omega (arith, below)))

named_of : (a b : List ℕ) (o : Ordering) → slice_cmp nat_cmp a b ≡ o → bytes_eq b a ≡ is_eq o
named_of a b o e = nat_list_eq_equiv.symm b a ∙ sym (is_eq-slice_cmp a b) ∙ ap is_eq e

-- what a binary search found
pub place_found : {X Y : Type 0} (g : X → Y) (f : Y → List ℕ) (name : List ℕ) (xs : List X) (i : ℕ) → i < length xs
    → HoldsAt (λ x. slice_cmp nat_cmp (f (g x)) name ≡ Equal) xs i
    → ((n : List ℕ) → count_by (λ y. bytes_eq n (f y)) (map g xs) ≤ 1)
    → Some i ≡ position_from (λ y. bytes_eq name (f y)) 0 (map g xs)
place_found g f name [] i below is once = absurd (omega (arith, below))
place_found g f name (x ∷ xs) i below is once =
    let all = x ∷ xs in
    let count : count_by (λ y. bytes_eq name (f (g y))) all ≤ 1 = subst (λ n. n ≤ 1) (count_map (λ y. bytes_eq name (f y)) g all) (once name) in
    let at : 0 + i ≡ i = omega arith in
    sym (position_map (λ y. bytes_eq name (f y)) g 0 all
    ∙ position_found (λ y. bytes_eq name (f (g y))) 0 all i x count below (named_of (f (g (get_or all i x))) name Equal (is x)) ∙ ap Some at)

pub place_missed : {X Y : Type 0} (g : X → Y) (f : Y → List ℕ) (name : List ℕ) (xs : List X) (i : ℕ)
    → IsPartitionPoint (λ x. slice_cmp nat_cmp (f (g x)) name ≡ Less) (λ x. slice_cmp nat_cmp (f (g x)) name ≡ Greater) xs i
    → None ≡ position_from (λ y. bytes_eq name (f y)) 0 (map g xs)
place_missed {X} g f name xs i gap =
    sym (position_map (λ y. bytes_eq name (f y)) g 0 xs ∙ position_none (λ y. bytes_eq name (f (g y))) 0 xs none)
  where
    none : (k : ℕ) (d : X) → k < length xs → bytes_eq name (f (g (get_or xs k d))) ≡ false
    none k d below = elim (cases_lt k i) [ inl before ↦ named_of (f (g (get_or xs k d))) name Less (gap.0 k d (omega arith) before) | inr behind ↦ named_of (f (g (get_or xs k d))) name Greater (gap.1 k d behind below) ]
