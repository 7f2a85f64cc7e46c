-- The names below a folder stand side by side in a list of names in byte order.
use Rattle.std.proofs.Common.{◌≡◌, ℕ, zero, suc, ◌+◌, ◌-◌, ◌<◌, ◌≤◌, inl, inr, Bool, true, false, List, [], ◌∷◌, ◌++◌, length, get_or, take, drop, Contains, nat_eq, refl, sym, ap, subst, ◌∙◌, arith}
use Rattle.std.specs.declared.cmp.Ordering.{Ordering}
use Rattle.std.specs.declared.cmp.Ordering.TheVariants.{Less, Equal, Greater}
use Rattle.std.specs.List.{starts_with}
use Rattle.std.specs.List.Sorted.{IsStrictlySortedBy, IsPartitionedBy, IsPartitionPoint}
use Rattle.std.specs.Ordering.{nat_cmp, is_lt, ordering_then}
use Rattle.std.proofs.lemmas.Bool.{cases_eq, cases_lt}
use Rattle.std.proofs.lemmas.Bool.Decides.{Decides-eqb}
use Rattle.std.proofs.lemmas.Cmp.{nat_cmp_total, nat_list_cmp_total, ranked, tied_itself}
use Rattle.std.proofs.lemmas.List.{length-take-le, length-drop, get_or-take, get_or-drop}
use Rattle.std.proofs.lemmas.List.Elements.{All-take, All-push, All-contains, All-from_recursion, recursion_from_All, Contains-push}
use Rattle.std.proofs.lemmas.Slice.Eq.{starts_is}
use Rattle.io_traits.specs.Files.{IsInOrder}
use Rattle.out_store.specs.Opened.{AreBelow}
use Rattle.out_store.proofs.Rows.{contains_here, contains_later}
use Rattle.tree_value.specs.Trees.{path_cmp}

-- ---- the order of names

less_from : (o : Ordering) → is_lt o ≡ true → o ≡ Less
less_from Less e = refl
less_from Equal e = let clash : false ≡ true = e in absurd (cc (clash))
less_from Greater e = let clash : false ≡ true = e in absurd (cc (clash))

not_less_from : (o : Ordering) → is_lt o ≡ false → o ≡ Less → ⊥
not_less_from o e less = let clash : true ≡ false = sym (ap is_lt less) ∙ e in cc (clash)

-- a name below a folder isn't less than the folder
below_not_less : (folder path : List ℕ) → path_cmp (folder ++ path) folder ≡ Less → ⊥
below_not_less [] [] e = let clash : Equal ≡ Less = e in cc (clash)
below_not_less [] (x ∷ path) e = let clash : Greater ≡ Less = e in cc (clash)
below_not_less (c ∷ folder) path e = below_not_less folder path (sym (ap (λ o. ordering_then o (path_cmp (folder ++ path) folder)) (tied_itself nat_cmp_total c)) ∙ e)

-- and what stands between the folder and a name below it is below it too
between : (folder name path : List ℕ) → (path_cmp name folder ≡ Less → ⊥) → path_cmp name (folder ++ path) ≡ Less → (rest : List ℕ) × (name ≡ folder ++ rest)
between [] name path not_less less = (name, refl)
between (c ∷ folder) [] path not_less less = absurd (not_less refl)
between (c ∷ folder) (x ∷ name) path not_less less = elim (nat_cmp x c) as (λ o. nat_cmp x c ≡ o → (ordering_then o (path_cmp name folder) ≡ Less → ⊥) → ordering_then o (path_cmp name (folder ++ path)) ≡ Less → (rest : List ℕ) × (x ∷ name ≡ c ∷ (folder ++ rest))) [
  | Less ↦ λ _ no _. absurd (no refl)
  | Equal ↦ λ is no yes.
      let inner = between folder name path no yes in
      let first : x ≡ c = ranked x c Equal (sym is) in
      (inner.0, ap (λ y. y ∷ name) first ∙ ap (λ (ys : List ℕ). c ∷ ys) inner.1)
  | Greater ↦ λ _ _ yes. let clash : Greater ≡ Less = yes in absurd (cc (clash))
] refl not_less less

starts_from : (name folder : List ℕ) → starts_with nat_eq name folder ≡ true → (path : List ℕ) × (name ≡ folder ++ path)
starts_from name folder e = (drop (length folder) name, (starts_is Decides-eqb name folder (starts_with nat_eq name folder) refl).0 e)

starts_to : (name folder path : List ℕ) → name ≡ folder ++ path → starts_with nat_eq name folder ≡ true
starts_to name folder path e = (starts_is Decides-eqb name folder (starts_with nat_eq name folder) refl).1 path e

-- ---- lists in order

in_pairs : (xs : List (List ℕ)) (i j : ℕ) (d : List ℕ) → IsInOrder xs → i < j → j < length xs → path_cmp (get_or xs i d) (get_or xs j d) ≡ Less
unfolding IsStrictlySortedBy
in_pairs [] i j d h less within = absurd (omega (arith, within))
in_pairs (x ∷ xs) i zero d h less within = absurd (omega (arith, less))
in_pairs (x ∷ xs) zero (suc j) d h less within = All-from_recursion (λ y. path_cmp x y ≡ Less) xs h.0 j d (omega (arith, within))
in_pairs (x ∷ xs) (suc i) (suc j) d h less within = in_pairs xs i j d h.1 (omega (arith, less)) (omega (arith, within))

pub in_order_drop : (n : ℕ) (xs : List (List ℕ)) → IsInOrder xs → IsInOrder (drop n xs)
unfolding IsStrictlySortedBy
in_order_drop zero xs h = h
in_order_drop (suc n) [] h = h
in_order_drop (suc n) (x ∷ xs) h = in_order_drop n xs h.1

pub in_order_take : (n : ℕ) (xs : List (List ℕ)) → IsInOrder xs → IsInOrder (take n xs)
unfolding IsStrictlySortedBy
in_order_take zero xs h = tt
in_order_take (suc n) [] h = h
in_order_take (suc n) (x ∷ xs) h =
    (recursion_from_All (λ y. path_cmp x y ≡ Less) (take n xs) (All-take (λ y. path_cmp x y ≡ Less) n xs (All-from_recursion (λ y. path_cmp x y ≡ Less) xs h.0)), in_order_take n xs h.1)

pub in_order_push : (xs : List (List ℕ)) (y : List ℕ) → IsInOrder xs → ((x : List ℕ) → Contains xs x → path_cmp x y ≡ Less) → IsInOrder (xs ++ y ∷ [])
unfolding IsStrictlySortedBy
in_order_push [] y h below = (tt, tt)
in_order_push (x ∷ xs) y h below =
    (recursion_from_All (λ z. path_cmp x z ≡ Less) (xs ++ y ∷ []) (All-push (λ z. path_cmp x z ≡ Less) xs y (All-from_recursion (λ z. path_cmp x z ≡ Less) xs h.0) (below x (contains_here x xs))), in_order_push xs y h.1 (λ z among. below z (contains_later x z xs among)))

pub last_above : (xs : List (List ℕ)) (y x : List ℕ) → IsInOrder (xs ++ y ∷ []) → Contains xs x → path_cmp x y ≡ Less
unfolding IsStrictlySortedBy
last_above [] y x h (k, within, is) = absurd (omega (arith, within))
last_above (z ∷ xs) y x h (zero, within, is) =
    subst (λ (w : List ℕ). path_cmp w y ≡ Less) is
    (All-contains (λ w. path_cmp z w ≡ Less) (xs ++ y ∷ []) y (All-from_recursion (λ w. path_cmp z w ≡ Less) (xs ++ y ∷ []) h.0) (Contains-push xs y))
last_above (z ∷ xs) y x h (suc k, within, is) = last_above xs y x h.1 (k, omega (arith, within), is)

-- ---- where the names below a folder stand

abbrev pub is_before : List ℕ → List ℕ → Bool
is_before folder name = is_lt (path_cmp name folder)

abbrev pub is_in : List ℕ → List ℕ → Bool
is_in folder name = starts_with nat_eq name folder

pub before_parted : (folder : List ℕ) (xs : List (List ℕ)) → IsInOrder xs → IsPartitionedBy (is_before folder) xs
before_parted folder xs h i j d upto within passes = elim (cases_eq i j) as (λ _. is_before folder (get_or xs i d) ≡ true) [
  | inl same ↦ subst (λ (k : ℕ). is_before folder (get_or xs k d) ≡ true) (sym same) passes
  | inr other ↦
      let less : i < j = omega (arith, other, upto) in
      ap is_lt (nat_list_cmp_total.trans (get_or xs i d) (get_or xs j d) folder (in_pairs xs i j d h less within) (less_from (path_cmp (get_or xs j d) folder) passes))
]

pub in_parted : (folder : List ℕ) (xs : List (List ℕ)) → IsInOrder xs → ((k : ℕ) (d : List ℕ) → k < length xs → path_cmp (get_or xs k d) folder ≡ Less → ⊥) → IsPartitionedBy (is_in folder) xs
in_parted folder xs h later i j d upto within passes = elim (cases_eq i j) as (λ _. is_in folder (get_or xs i d) ≡ true) [
  | inl same ↦ subst (λ (k : ℕ). is_in folder (get_or xs k d) ≡ true) (sym same) passes
  | inr other ↦
      let less : i < j = omega (arith, other, upto) in
      let below = starts_from (get_or xs j d) folder passes in
      let inner = between folder (get_or xs i d) below.0 (later i d (omega (arith, less, within))) (subst (λ (name : List ℕ). path_cmp (get_or xs i d) name ≡ Less) below.1 (in_pairs xs i j d h less within)) in
      starts_to (get_or xs i d) folder inner.0 inner.1
]

-- behind the names that stand before the folder none is less than it
pub rest_later : (folder : List ℕ) (xs : List (List ℕ)) (from : ℕ) → from ≤ length xs → IsPartitionPoint (λ y. is_before folder y ≡ true) (λ y. is_before folder y ≡ false) xs from → (k : ℕ) (d : List ℕ) → k < length (drop from xs) → path_cmp (get_or (drop from xs) k d) folder ≡ Less → ⊥
rest_later folder xs from some point k d within less =
    let place : from + k < length xs = let rest = length-drop from xs in omega (arith, within, some) in
    not_less_from (path_cmp (get_or xs (from + k) d) folder) (point.1 (from + k) d (omega arith) place) (sym (ap (λ (name : List ℕ). path_cmp name folder) (get_or-drop from xs k d)) ∙ less)

module _ (folder : List ℕ) (xs : List (List ℕ)) (from count : ℕ) (order : IsInOrder xs) (some : from ≤ length xs) (more : count ≤ length (drop from xs))
    (first : IsPartitionPoint (λ y. is_before folder y ≡ true) (λ y. is_before folder y ≡ false) xs from)
    (second : IsPartitionPoint (λ y. is_in folder y ≡ true) (λ y. is_in folder y ≡ false) (drop from xs) count) where
  each_below : (name : List ℕ) → Contains (take count (drop from xs)) name → Contains xs name × ((path : List ℕ) × (name ≡ folder ++ path))
  each_below name (k, within, is) =
      let less : k < count = let taken = length-take-le count (drop from xs) more in omega (arith, within) in
      let place : from + k < length xs = let dropped = length-drop from xs in omega (arith, less, more, some) in
      let at : get_or (drop from xs) k name ≡ name = sym (get_or-take count (drop from xs) k name less) ∙ is in
      ((from + k, place, sym (get_or-drop from xs k name) ∙ at), starts_from name folder (subst (λ (n : List ℕ). is_in folder n ≡ true) at (second.0 k name (omega arith) less)))

  every_below : (path : List ℕ) → Contains xs (folder ++ path) → Contains (take count (drop from xs)) (folder ++ path)
  every_below path (k, within, is) =
      let name : List ℕ = folder ++ path in
      let reached : from ≤ k = elim (cases_lt k from) as (λ _. from ≤ k) [
        | inl before ↦ absurd (below_not_less folder path (less_from (path_cmp name folder) (subst (λ (n : List ℕ). is_before folder n ≡ true) is (first.0 k name (omega arith) before))))
        | inr reached ↦ reached
      ] in
      let place : k - from < length (drop from xs) = let dropped = length-drop from xs in omega (arith, within, reached) in
      let at : get_or (drop from xs) (k - from) name ≡ name = get_or-drop from xs (k - from) name ∙ ap (λ (n : ℕ). get_or xs n name) (omega (arith, reached)) ∙ is in
      let less : k - from < count = elim (cases_lt (k - from) count) as (λ _. k - from < count) [
        | inl less ↦ less
        | inr behind ↦
            let clash : true ≡ false = sym (starts_to name folder path refl) ∙ subst (λ (n : List ℕ). is_in folder n ≡ false) at (second.1 (k - from) name behind place) in
            absurd (cc (clash))
      ] in
      (k - from, (let taken = length-take-le count (drop from xs) more in omega (arith, less)), get_or-take count (drop from xs) (k - from) name less ∙ at)

  pub are_below : AreBelow folder xs (take count (drop from xs))
  are_below = record {
    each = each_below;
    every = every_below;
    rising = in_order_take count (drop from xs) (in_order_drop from xs order);
  }
