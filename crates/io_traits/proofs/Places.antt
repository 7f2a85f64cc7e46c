-- What a search among files in order finds, and what a change at that place makes of them.
use Rattle.std.proofs.Common.{map, ◌≡◌, ℕ, zero, suc, ◌+◌, ◌<◌, Bool, true, false, T, List, [], ◌∷◌, length, get_or, set, Some, None, Ok, Err, Result, MatchResult, refl, sym, ap, subst, ◌∙◌, arith, ◌&&◌}
use Rattle.std.specs.declared.cmp.Ordering.{Ordering}
use Rattle.std.specs.declared.cmp.Ordering.TheVariants.{Less, Equal, Greater}
use Rattle.std.specs.Ordering.{is_lt, ordering_index, ordering_reverse}
use Rattle.std.specs.Cmp.{IsTotalOrder, tied_itself}
use Rattle.std.specs.Cmp.Lexicographic.{nat_list_cmp_total}
use Rattle.std.specs.FinMap.{slice_cmp-IsAntisymmetric, nat_cmp-IsAntisymmetric}
use Rattle.std.specs.FinMap.Entries as entries
use Rattle.std.specs.List as list
use Rattle.std.specs.List.{AllByRecursion, IsAllAdjacentAnswer}
use Rattle.std.specs.Prelude.{◌↔◌, IsTrue}
use mathlib.Core.Bool.{false≢true}
use Rattle.std.specs.List.Sorted.{IsStrictlySortedBy, IsSearchInRange, IsBinarySearchResult, IsNonDecreasingBy}
use Rattle.std.proofs.lemmas.List.{get_or-map, length-map, map-id}
use Rattle.std.proofs.lemmas.List.Sorted.{searchable_from_sorted}
use Rattle.std.proofs.lemmas.Map.Keys.{Less-from_sorted, sorted_from_all_adjacent}
use Rattle.io_traits.specs.Files.{File, Files, get, insert, remove, names, IsInOrder}
use Rattle.tree_value.specs.Trees.{path_cmp}
use Rattle.io_traits.specs.Places.{IsAt, IsGap}

-- the order of bytes is total, and only equal names tie
order : IsTotalOrder path_cmp
order = nat_list_cmp_total

pub same_name : (a b : List ℕ) → path_cmp a b ≡ Equal → a ≡ b
same_name a b = slice_cmp-IsAntisymmetric nat_cmp-IsAntisymmetric a b

turned_less : (a b : List ℕ) → path_cmp a b ≡ Less → path_cmp b a ≡ Greater
turned_less a b e = order.antisymm b a ∙ ap ordering_reverse e

turned_greater : (a b : List ℕ) → path_cmp a b ≡ Greater → path_cmp b a ≡ Less
turned_greater a b e = order.antisymm b a ∙ ap ordering_reverse e

-- ---- a search

-- in order by a key, the key at an earlier place is less
pub rises : {X : Type 0} (key : X → List ℕ) (xs : List X) → IsInOrder (map key xs) → (i j : ℕ) (d : X) → i < j → j < length xs → path_cmp (key (get_or xs i d)) (key (get_or xs j d)) ≡ Less
rises key xs sorted i j d lt within =
    let long : j < length (map key xs) = simp length-map within in
    subst (λ a. path_cmp a (key (get_or xs j d)) ≡ Less) (get_or-map key xs i d (key d) (omega arith))
    (subst (λ b. path_cmp (get_or (map key xs) i (key d)) b ≡ Less) (get_or-map key xs j d (key d) within)
    (Less-from_sorted path_cmp (map key xs) i j (key d) sorted lt long))

-- the order of files by their names
module _ (files : Files) (sorted : IsInOrder (names files)) where
  files_rise : (i j : ℕ) (d : File) → i < j → j < length files → path_cmp (get_or files i d).0 (get_or files j d).0 ≡ Less
  files_rise = rises (λ (file : File). file.0) files sorted

module _ (files : Files) (sorted : IsInOrder (names files)) (name : List ℕ) where
  -- the comparisons with the name rise along the files, as a binary search asks
  comparisons_rise : IsNonDecreasingBy (λ file. ordering_index (path_cmp file.0 name)) files
  comparisons_rise = searchable_from_sorted order (λ file. file.0) files name (λ k d low lt. ap is_lt (turned_less (get_or files k d).0 (get_or files (k + 1) d).0 (files_rise files sorted k (k + 1) d (omega arith) lt)))

  -- a binary search ends at the name's place, or in the gap for it
  pub searched : (r : Result ℕ ℕ) → IsSearchInRange r (length files) → IsBinarySearchResult (λ file. path_cmp file.0 name) files r → MatchResult r (IsAt files name) (IsGap files name)
  searched (Ok i) within equal =
      let named : (d : File) → (get_or files i d).0 ≡ name = λ d. same_name (get_or files i d).0 name (equal d) in
      record {
        in_range = within;
        has_name = named;
        before = λ j d lt. subst (λ n. path_cmp (get_or files j d).0 n ≡ Less) (named d) (files_rise files sorted j i d lt within);
        behind = λ j d lt end. subst (λ n. path_cmp (get_or files j d).0 n ≡ Greater) (named d) (turned_less (get_or files i d).0 (get_or files j d).0 (files_rise files sorted i j d lt end));
      }
  searched (Err i) within parted =
      let parts = parted comparisons_rise in
      record {
        in_range = within;
        before = λ j d lt. parts.0 j d (omega arith) lt;
        behind = λ j d le lt. parts.1 j d le lt;
      }

-- ---- the first file aside, each place is one lower

at_tail : (file : File) (files : Files) (name : List ℕ) (i : ℕ) → IsAt (file ∷ files) name (suc i) → IsAt files name i
at_tail file files name i at = record {
  in_range = omega (arith, at.in_range);
  has_name = at.has_name;
  before = λ j d lt. at.before (suc j) d (omega arith);
  behind = λ j d lt end. at.behind (suc j) d (omega arith) (omega arith);
}

gap_tail : (file : File) (files : Files) (name : List ℕ) (i : ℕ) → IsGap (file ∷ files) name (suc i) → IsGap files name i
gap_tail file files name i gap = record {
  in_range = omega (arith, gap.in_range);
  before = λ j d lt. gap.before (suc j) d (omega arith);
  behind = λ j d le end. gap.behind (suc j) d (omega arith) (omega arith);
}

-- what stands behind the file with the name is a gap for it at the front
gap_behind : (file : File) (files : Files) (name : List ℕ) → IsAt (file ∷ files) name zero → IsGap files name zero
gap_behind file files name at = record {
  in_range = omega arith;
  before = λ j d lt. absurd (omega arith);
  behind = λ j d le end. at.behind (suc j) d (omega arith) (omega arith);
}

-- the first file's name against a name that stands, or would stand, later
first_before_at : (file : File) (files : Files) (name : List ℕ) (i : ℕ) → IsAt (file ∷ files) name (suc i) → path_cmp name file.0 ≡ Greater
first_before_at file files name i at = turned_less file.0 name (at.before zero file (omega arith))

first_before_gap : (file : File) (files : Files) (name : List ℕ) (i : ℕ) → IsGap (file ∷ files) name (suc i) → path_cmp name file.0 ≡ Greater
first_before_gap file files name i gap = turned_less file.0 name (gap.before zero file (omega arith))

first_behind_gap : (file : File) (files : Files) (name : List ℕ) → IsGap (file ∷ files) name zero → path_cmp name file.0 ≡ Less
first_behind_gap file files name gap = turned_greater file.0 name (gap.behind zero file (omega arith) (omega arith))

first_at : (file : File) (files : Files) (name : List ℕ) → IsAt (file ∷ files) name zero → path_cmp name file.0 ≡ Equal
first_at file files name at = subst (λ n. path_cmp name n ≡ Equal) (sym (at.has_name file)) (tied_itself order name)

-- ---- in a gap

pub get_gap : (files : Files) (name : List ℕ) (i : ℕ) → IsGap files name i → get files name ≡ None
get_gap [] name i gap = refl
get_gap (file ∷ files) name zero gap = rw (first_behind_gap file files name gap) (get_gap files name zero (record {
  in_range = omega arith;
  before = λ j d lt. absurd (omega arith);
  behind = λ j d le end. gap.behind (suc j) d (omega arith) (omega arith);
}))
get_gap (file ∷ files) name (suc i) gap = rw (first_before_gap file files name i gap) (get_gap files name i (gap_tail file files name i gap))

pub insert_gap : (files : Files) (name bytes : List ℕ) (i : ℕ) → IsGap files name i → list.insert files i (name, bytes) ≡ insert files name bytes
insert_gap [] name bytes zero gap = refl
insert_gap [] name bytes (suc i) gap = absurd (omega (arith, gap.in_range))
insert_gap (file ∷ files) name bytes zero gap = rw (first_behind_gap file files name gap)
insert_gap (file ∷ files) name bytes (suc i) gap = rw (first_before_gap file files name i gap) (ap (λ rest. file ∷ rest) (insert_gap files name bytes i (gap_tail file files name i gap)))

pub remove_gap : (files : Files) (name : List ℕ) (i : ℕ) → IsGap files name i → remove files name ≡ files
remove_gap [] name i gap = refl
remove_gap (file ∷ files) name zero gap = rw (first_behind_gap file files name gap) (ap (λ rest. file ∷ rest) (remove_gap files name zero (record {
  in_range = omega arith;
  before = λ j d lt. absurd (omega arith);
  behind = λ j d le end. gap.behind (suc j) d (omega arith) (omega arith);
})))
remove_gap (file ∷ files) name (suc i) gap = rw (first_before_gap file files name i gap) (ap (λ rest. file ∷ rest) (remove_gap files name i (gap_tail file files name i gap)))

-- ---- at the name's place

pub get_at : (files : Files) (name : List ℕ) (i : ℕ) → IsAt files name i → (d : File) → get files name ≡ Some (get_or files i d).1
get_at [] name i at d = absurd (omega (arith, at.in_range))
get_at (file ∷ files) name zero at d = rw (first_at file files name at)
get_at (file ∷ files) name (suc i) at d = rw (first_before_at file files name i at) (get_at files name i (at_tail file files name i at) d)

pub insert_at : (files : Files) (name bytes : List ℕ) (i : ℕ) → IsAt files name i → set files i (name, bytes) ≡ insert files name bytes
insert_at [] name bytes i at = absurd (omega (arith, at.in_range))
insert_at (file ∷ files) name bytes zero at = rw (first_at file files name at) (ap (λ n. (n, bytes) ∷ files) (sym (at.has_name file)))
insert_at (file ∷ files) name bytes (suc i) at = rw (first_before_at file files name i at) (ap (λ rest. file ∷ rest) (insert_at files name bytes i (at_tail file files name i at)))

-- the same where the file that stood there keeps its own name
pub insert_over : (files : Files) (name bytes : List ℕ) (i : ℕ) → IsAt files name i → (file : File) → file ≡ get_or files i file → set files i (file.0, bytes) ≡ insert files name bytes
insert_over files name bytes i at file stood =
    let named : file.0 ≡ name = ap (λ (f : File). f.0) stood ∙ at.has_name file in
    subst (λ n. set files i (n, bytes) ≡ insert files name bytes) (sym named) (insert_at files name bytes i at)

pub remove_at : (files : Files) (name : List ℕ) (i : ℕ) → IsAt files name i → list.remove files i ≡ remove files name
remove_at [] name i at = absurd (omega (arith, at.in_range))
remove_at (file ∷ files) name zero at = rw (first_at file files name at) (sym (remove_gap files name zero (gap_behind file files name at)))
remove_at (file ∷ files) name (suc i) at = rw (first_before_at file files name i at) (ap (λ rest. file ∷ rest) (remove_at files name i (at_tail file files name i at)))

-- ---- a change keeps the order

both : (a b : Bool) → T a → T b → T (a && b)
both true b p q = q
both false b p q = p

first : (a b : Bool) → T (a && b) → T a
first true b p = tt
first false b p = p

second : (a b : Bool) → T (a && b) → T b
second true b p = p
second false b p = absurd p

less : (o : Ordering) → T (is_lt o) → o ≡ Less
less Less p = refl
less Equal p = absurd p
less Greater p = absurd p

below_to : (name : List ℕ) (files : Files) → AllByRecursion (λ n. path_cmp name n ≡ Less) (names files) → T (entries.below_all path_cmp name files)
below_to name [] all = tt
below_to name (file ∷ files) all = both _ _ (subst (λ o. T (is_lt o)) (sym all.0) tt) (below_to name files all.1)

below_from : (name : List ℕ) (files : Files) → T (entries.below_all path_cmp name files) → AllByRecursion (λ n. path_cmp name n ≡ Less) (names files)
below_from name [] all = tt
below_from name (file ∷ files) all = (less _ (first _ _ all), below_from name files (second _ _ all))

to_test : (files : Files) → IsInOrder (names files) → T (entries.is_sorted path_cmp files)
unfolding IsStrictlySortedBy
to_test [] sorted = tt
to_test (file ∷ files) sorted = both _ _ (below_to file.0 files sorted.0) (to_test files sorted.1)

from_test : (files : Files) → T (entries.is_sorted path_cmp files) → IsInOrder (names files)
unfolding IsStrictlySortedBy
from_test [] sorted = tt
from_test (file ∷ files) sorted = (below_from file.0 files (first _ _ sorted), from_test files (second _ _ sorted))

pub IsInOrder-insert : (files : Files) (name bytes : List ℕ) → IsInOrder (names files) → IsInOrder (names (insert files name bytes))
IsInOrder-insert files name bytes sorted = from_test _ (entries.is_sorted-put path_cmp order name bytes files (to_test files sorted))

pub IsInOrder-remove : (files : Files) (name : List ℕ) → IsInOrder (names files) → IsInOrder (names (remove files name))
IsInOrder-remove files name sorted = from_test _ (entries.is_sorted-where_key path_cmp _ files (to_test files sorted))

-- ---- a test of the order, pair by pair

-- a test that answers for each two neighbours whether the first key is less says whether all keys rise
pub in_order_from_adjacent : {X : Type 0} (key : X → List ℕ) (xs : List X) (r : Bool) → IsAllAdjacentAnswer (λ a b answer. answer ≡ is_lt (path_cmp (key a) (key b))) xs r → IsTrue r ↔ IsInOrder (map key xs)
unfolding IsStrictlySortedBy
in_order_from_adjacent key [] true all = (λ yes. tt, λ sorted. refl)
in_order_from_adjacent key [] false some = absurd (omega (arith, some.1))
in_order_from_adjacent key (x ∷ xs) true all = (
  λ yes. sorted_from_all_adjacent order (map key (x ∷ xs)) [] (λ k lt.
      let within : k + 1 < length (x ∷ xs) = simp length-map at lt in
      let here = get_or-map key (x ∷ xs) k x [] (omega arith) in
      let next = get_or-map key (x ∷ xs) (k + 1) x [] within in
      rw (here, next) (less _ (subst T (all k x within) tt))),
  λ sorted. refl,
)
in_order_from_adjacent key (x ∷ xs) false some = (
  λ no. absurd (false≢true no),
  λ sorted.
      let rising = rises key (x ∷ xs) sorted some.0 (some.0 + 1) x (omega arith) some.1 in
      absurd (false≢true (some.2 x ∙ ap is_lt rising)),
)

-- the same of names themselves
pub names_in_order : (ns : List (List ℕ)) (r : Bool) → IsAllAdjacentAnswer (λ a b answer. answer ≡ is_lt (path_cmp a b)) ns r → IsTrue r ↔ IsInOrder ns
names_in_order ns r answer = subst (λ ms. IsTrue r ↔ IsInOrder ms) (map-id ns) (in_order_from_adjacent (λ (n : List ℕ). n) ns r answer)
