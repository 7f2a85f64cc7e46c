-- Files by rising paths: what their order says of two of them, and what a search finds.
use Rattle.std.proofs.Common.{◌≡◌, ◌≢◌, ℕ, zero, suc, ◌<◌, ◌≤◌, true, false, cond, List, [], ◌∷◌, length, inl, inr, refl, sym, ◌∙◌, ap, subst, arith, Some, None, slice_index_or}
use Rattle.std.specs.declared.cmp.Ordering.{Ordering}
use Rattle.std.specs.declared.cmp.Ordering.TheVariants.{Less, Equal, Greater}
use Rattle.std.specs.Ordering.{is_lt, is_eq, ordering_index, eq_by_cmp, ordering_reverse}
use Rattle.std.specs.FinMap.{slice_cmp-IsAntisymmetric, nat_cmp-IsAntisymmetric}
use Rattle.std.specs.FinMap.Entries.{find, below_all, is_sorted}
use Rattle.std.proofs.lemmas.Bool.{and_parts, and_from, cases_eq, cases_lt}
use Rattle.std.proofs.lemmas.Cmp.{nat_list_cmp_total, tied_itself}
use Rattle.std.proofs.lemmas.List.{get_or_default}
use Rattle.std.specs.List.Sorted.{IsNonDecreasingBy, IsPartitionPoint}
use Rattle.tree_value.specs.Trees.{path_cmp, path_at}

-- ---- the order of two paths

pub less : (o : Ordering) → is_lt o ≡ true → o ≡ Less
less Less e = refl
less Equal e = cc
less Greater e = cc

same_path : (p q : List ℕ) → path_cmp p q ≡ Equal → p ≡ q
same_path = slice_cmp-IsAntisymmetric nat_cmp-IsAntisymmetric

-- what comes later is greater
pub greater : (p q : List ℕ) → path_cmp p q ≡ Less → path_cmp q p ≡ Greater
greater p q e = nat_list_cmp_total.antisymm q p ∙ ap ordering_reverse e

pub not_less_itself : (p : List ℕ) → path_cmp p p ≢ Less
not_less_itself p e = let same : Equal ≡ Less = sym (tied_itself nat_list_cmp_total p) ∙ e in cc

-- ---- one path and many files

-- what is less than a path before all files is before all of them too
pub below_all-trans : (p q : List ℕ) (files : List (List ℕ × List ℕ)) → path_cmp p q ≡ Less → below_all path_cmp q files ≡ true → below_all path_cmp p files ≡ true
below_all-trans p q [] e h = refl
below_all-trans p q (f ∷ files) e h =
    let parts = and_parts (is_lt (path_cmp q f.0)) (below_all path_cmp q files) h in
    and_from _ _ (ap is_lt (nat_list_cmp_total.trans p q f.0 e (less _ parts.0))) (below_all-trans p q files e parts.1)

below_each : (p : List ℕ) (files : List (List ℕ × List ℕ)) (k : ℕ) → below_all path_cmp p files ≡ true → k < length files → path_cmp p (path_at files k) ≡ Less
below_each p [] k h below = absurd (omega (arith, below))
below_each p (f ∷ files) zero h below = less _ (and_parts (is_lt (path_cmp p f.0)) (below_all path_cmp p files) h).0
below_each p (f ∷ files) (suc k) h below = below_each p files k (and_parts (is_lt (path_cmp p f.0)) (below_all path_cmp p files) h).1 (omega (arith, below))

-- files rise where each path is less than the next
pub rising-from_neighbours : (files : List (List ℕ × List ℕ)) → ((k : ℕ) → suc k < length files → path_cmp (path_at files k) (path_at files (suc k)) ≡ Less) → is_sorted path_cmp files ≡ true
rising-from_neighbours [] next = refl
rising-from_neighbours (f ∷ []) next = refl
rising-from_neighbours (f ∷ g ∷ files) next =
    let rest : is_sorted path_cmp (g ∷ files) ≡ true = rising-from_neighbours (g ∷ files) (λ k below. next (suc k) (omega (arith, below))) in
    let first : path_cmp f.0 g.0 ≡ Less = next zero (omega arith) in
    let parts = and_parts (below_all path_cmp g.0 files) (is_sorted path_cmp files) rest in
    and_from _ _ (and_from _ _ (ap is_lt first) (below_all-trans f.0 g.0 files first parts.0)) rest

-- an earlier path is less than a later one
pub rising-less : (files : List (List ℕ × List ℕ)) (i j : ℕ) → is_sorted path_cmp files ≡ true → i < j → j < length files → path_cmp (path_at files i) (path_at files j) ≡ Less
rising-less [] i j h before below = absurd (omega (arith, below))
rising-less (f ∷ files) i zero h before below = absurd (omega (arith, before))
rising-less (f ∷ files) zero (suc j) h before below = below_each f.0 files j (and_parts (below_all path_cmp f.0 files) (is_sorted path_cmp files) h).0 (omega (arith, below))
rising-less (f ∷ files) (suc i) (suc j) h before below = rising-less files i j (and_parts (below_all path_cmp f.0 files) (is_sorted path_cmp files) h).1 (omega (arith, before)) (omega (arith, below))

-- ---- what a search finds

-- the file at place k is the one under its path
find-path_at : (files : List (List ℕ × List ℕ)) (k : ℕ) → is_sorted path_cmp files ≡ true → k < length files → find path_cmp (path_at files k) files ≡ Some (slice_index_or files k ([], [])).1
find-path_at [] k h below = absurd (omega (arith, below))
find-path_at (f ∷ files) zero h below = ap (λ o. cond (is_eq o) (Some f.1) (find path_cmp f.0 files)) (tied_itself nat_list_cmp_total f.0)
find-path_at (f ∷ files) (suc k) h below =
    let parts = and_parts (below_all path_cmp f.0 files) (is_sorted path_cmp files) h in
    let inside : k < length files = omega (arith, below) in
    ap (λ o. cond (is_eq o) (Some f.1) (find path_cmp (path_at files k) files)) (greater f.0 (path_at files k) (below_each f.0 files k parts.0 inside))
    ∙ find-path_at files k parts.1 inside

pub find-from_tie : (files : List (List ℕ × List ℕ)) (path : List ℕ) (k : ℕ) (file : List ℕ × List ℕ) → is_sorted path_cmp files ≡ true → k < length files → file ≡ slice_index_or files k file → path_cmp file.0 path ≡ Equal → find path_cmp path files ≡ Some file.1
find-from_tie files path k file h below is ties =
    let there : slice_index_or files k ([], []) ≡ file = get_or_default files k ([], []) file below ∙ sym is in
    let found : find path_cmp file.0 files ≡ Some file.1 = subst (λ (f : List ℕ × List ℕ). find path_cmp f.0 files ≡ Some f.1) there (find-path_at files k h below) in
    subst (λ p. find path_cmp p files ≡ Some file.1) (same_path _ _ ties) found

untied : (p q : List ℕ) → path_cmp p q ≢ Equal → eq_by_cmp path_cmp q p ≡ false
untied p q apart = elim (path_cmp q p) as (λ o. path_cmp q p ≡ o → is_eq o ≡ false) [
  | Less ↦ λ _. refl
  | Equal ↦ λ e. absurd (apart (nat_list_cmp_total.antisymm p q ∙ ap ordering_reverse e))
  | Greater ↦ λ _. refl
] refl

-- no file is under a path that ties with none
pub find-from_no_tie : (files : List (List ℕ × List ℕ)) (path : List ℕ) → ((k : ℕ) → k < length files → path_cmp (path_at files k) path ≢ Equal) → find path_cmp path files ≡ None
find-from_no_tie [] path apart = refl
find-from_no_tie (f ∷ files) path apart =
    ap (λ b. cond b (Some f.1) (find path_cmp path files)) (untied f.0 path (apart zero (omega arith)))
    ∙ find-from_no_tie files path (λ k below. apart (suc k) (omega (arith, below)))

at_most_two : (o : Ordering) → ordering_index o ≤ 2
at_most_two Less = omega arith
at_most_two Equal = omega arith
at_most_two Greater = omega arith

later_answers_more : (p q path : List ℕ) → path_cmp p q ≡ Less → ordering_index (path_cmp p path) ≤ ordering_index (path_cmp q path)
later_answers_more p q path e = elim (path_cmp q path) as (λ o. path_cmp q path ≡ o → ordering_index (path_cmp p path) ≤ ordering_index o) [
  | Less ↦ λ l. let first : ordering_index (path_cmp p path) ≡ 0 = ap ordering_index (nat_list_cmp_total.trans p q path e l) in omega (arith, first)
  | Equal ↦ λ l. let first : ordering_index (path_cmp p path) ≡ 0 = ap ordering_index (subst (λ r. path_cmp p r ≡ Less) (same_path q path l) e) in omega (arith, first)
  | Greater ↦ λ _. at_most_two (path_cmp p path)
] refl

-- against one path, files that rise answer less, then equal, then greater
pub rising-against : (files : List (List ℕ × List ℕ)) (path : List ℕ) → is_sorted path_cmp files ≡ true → IsNonDecreasingBy (λ file. ordering_index (path_cmp file.0 path)) files
rising-against files path h i j d upto below =
    let first : slice_index_or files i ([], []) ≡ slice_index_or files i d = get_or_default files i ([], []) d (omega (arith, upto, below)) in
    let second : slice_index_or files j ([], []) ≡ slice_index_or files j d = get_or_default files j ([], []) d below in
    elim (cases_eq i j) as (λ _. ordering_index (path_cmp (slice_index_or files i d).0 path) ≤ ordering_index (path_cmp (slice_index_or files j d).0 path)) [
      | inl e ↦ subst (λ k. ordering_index (path_cmp (slice_index_or files i d).0 path) ≤ ordering_index (path_cmp (slice_index_or files k d).0 path)) e (omega arith)
      | inr apart ↦ subst (λ (f : List ℕ × List ℕ). ordering_index (path_cmp f.0 path) ≤ ordering_index (path_cmp (slice_index_or files j d).0 path)) first
          (subst (λ (g : List ℕ × List ℕ). ordering_index (path_cmp (path_at files i) path) ≤ ordering_index (path_cmp g.0 path)) second
          (later_answers_more _ _ path (rising-less files i j h (omega (arith, upto, apart)) below)))
    ]

-- what a binary search that found nothing says
pub find-from_gap : (files : List (List ℕ × List ℕ)) (path : List ℕ) (n : ℕ) → is_sorted path_cmp files ≡ true → (IsNonDecreasingBy (λ file. ordering_index (path_cmp file.0 path)) files → IsPartitionPoint (λ file. path_cmp file.0 path ≡ Less) (λ file. path_cmp file.0 path ≡ Greater) files n) → find path_cmp path files ≡ None
find-from_gap files path n h gap =
    let parts = gap (rising-against files path h) in
    find-from_no_tie files path (λ k below ties. elim (cases_lt k n) as (λ _. ⊥) [
      | inl before ↦ let e : Less ≡ Equal = sym (parts.0 k ([], []) (omega arith) before) ∙ ties in cc
      | inr after ↦ let e : Greater ≡ Equal = sym (parts.1 k ([], []) after below) ∙ ties in cc
    ])
