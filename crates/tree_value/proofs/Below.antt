-- The part of a path below another, and the files below a path.
use Rattle.std.proofs.Common.{◌≡◌, ◌≢◌, inl, inr, ℕ, ◌<◌, Bool, true, false, cond, List, [], ◌∷◌, ◌++◌, length, drop, refl, sym, ◌∙◌, ap, subst, arith, Some, None, option_map, eqb, nat_eq, ◌==◌}
use Rattle.std.specs.List.{All, slice_split, onto_first, starts_with, cons_option}
use Rattle.std.specs.declared.cmp.Ordering.TheVariants.{Less, Greater}
use Rattle.std.specs.Ordering.{is_lt, ordering_then}
use Rattle.std.specs.FinMap.Entries.{below_all, is_sorted}
use Rattle.std.proofs.lemmas.Bool.{and_parts, and_from, eqb-true, ne_eqb}
use Rattle.std.proofs.lemmas.Cmp.{nat_cmp_total, tied_itself}
use Rattle.std.proofs.lemmas.List.Elements.{All-tail, All-cons, All-nil}
use Rattle.std.proofs.lemmas.List.Splits.{length-slice_split}
use Rattle.std.proofs.lemmas.Slice.Eq.{starts_is}
use Rattle.std.proofs.lemmas.Option.{same_Some}
use Rattle.std.proofs.lemmas.Bool.Decides.{Decides-eqb}
use Rattle.std.proofs.lemmas.List.{length-append, append-nil}
use Rattle.tree_value.specs.Paths.{IsPath, IsSegment, segments}
use Rattle.tree_value.specs.Trees.{IsTree, path_cmp, path_below, after_slash, files_below}
use Rattle.tree_value.proofs.Rising.{less, not_less_itself, greater}

-- ---- segments

onto_first-append : {X : Type 0} (x : X) (parts more : List (List X)) → 0 < length parts → onto_first x (parts ++ more) ≡ onto_first x parts ++ more
onto_first-append x [] more some = absurd (omega (arith, some))
onto_first-append x (part ∷ parts) more some = refl

-- a cut at an element that separates
slice_split-append : {X : Type 0} (p : X → Bool) (xs : List X) (y : X) (ys : List X) → p y ≡ true → slice_split p (xs ++ y ∷ ys) ≡ slice_split p xs ++ slice_split p ys
slice_split-append p [] y ys cuts = ap (λ b. cond b ([] ∷ slice_split p ys) (onto_first y (slice_split p ys))) cuts
slice_split-append p (x ∷ xs) y ys cuts =
    let rest = slice_split-append p xs y ys cuts in
    elim (p x) as (λ b. cond b ([] ∷ slice_split p (xs ++ y ∷ ys)) (onto_first x (slice_split p (xs ++ y ∷ ys))) ≡ cond b ([] ∷ slice_split p xs) (onto_first x (slice_split p xs)) ++ slice_split p ys) [
      | true ↦ ap (λ parts. [] ∷ parts) rest
      | false ↦ ap (onto_first x) rest ∙ onto_first-append x (slice_split p xs) (slice_split p ys) (let some = length-slice_split p xs in omega (arith, some))
    ]

All-right : {X : Type 0} (P : X → Type 0) (xs ys : List X) → All P (xs ++ ys) → All P ys
All-right P [] ys all = all
All-right P (x ∷ xs) ys all = All-right P xs ys (All-tail P x (xs ++ ys) all)

no_empty_segment : (rest : List ℕ) → All IsSegment (segments rest) → rest ≢ []
no_empty_segment rest all e =
    let first : IsSegment [] = (subst (λ r. All IsSegment (segments r)) e all) 0 [] (omega arith) in
    let some : 0 < 0 = first.some in omega (arith, some)

-- what follows a slash in a path
segments_after_slash : (top rest : List ℕ) → IsPath (top ++ 47 ∷ rest) → All IsSegment (segments rest)
segments_after_slash top rest path = elim path.steps as (λ _. All IsSegment (segments rest)) [
  | inl empty ↦ absurd (let none : length (top ++ 47 ∷ rest) ≡ 0 = ap length empty in let some = length-append top (47 ∷ rest) in omega (arith, none, some))
  | inr all ↦ All-right IsSegment (segments top) (segments rest) (subst (All IsSegment) (slice_split-append (λ b. eqb b 47) top 47 rest refl) all)
]

-- ---- the part of a path below another

-- where a path lies below another that isn't empty: at it, or behind it and a slash
data Place (top path rest : List ℕ) : Type 0 where
  at : path ≡ top → rest ≡ [] → Place top path rest
  under : path ≡ top ++ 47 ∷ rest → Place top path rest

after_slash-cases : (top tail rest : List ℕ) → after_slash tail ≡ Some rest → Place top (top ++ tail) rest
after_slash-cases top [] rest is = at (append-nil top) (sym (same_Some [] rest is))
after_slash-cases top (c ∷ tail) rest is = elim (c == 47) as (λ b. (c == 47) ≡ b → cond b (Some tail) None ≡ Some rest → Place top (top ++ c ∷ tail) rest) [
  | true ↦ λ slash found. under (ap (λ x. top ++ x) (let first : c ≡ 47 = eqb-true c 47 slash in let more : tail ≡ rest = same_Some tail rest found in λ i. first i ∷ more i))
  | false ↦ λ _ found. cc
] refl is

place_under : (top path rest : List ℕ) → cond (starts_with nat_eq path top) (after_slash (drop (length top) path)) None ≡ Some rest → Place top path rest
place_under top path rest = elim (starts_with nat_eq path top) as (λ b. starts_with nat_eq path top ≡ b → cond b (after_slash (drop (length top) path)) None ≡ Some rest → Place top path rest) [
  | true ↦ λ starts found.
      let whole : path ≡ top ++ drop (length top) path = (starts_is Decides-eqb path top true (sym starts)).0 refl in
      subst (λ p. Place top p rest) (sym whole) (after_slash-cases top (drop (length top) path) rest found)
  | false ↦ λ _ found. cc
] refl

place : (t : ℕ) (top path rest : List ℕ) → path_below (t ∷ top) path ≡ Some rest → Place (t ∷ top) path rest
place t top path rest is =
    let some : (length (t ∷ top) == 0) ≡ false = ne_eqb (length (t ∷ top)) 0 (λ e. omega (arith, e)) in
    place_under (t ∷ top) path rest
    (subst (λ b. cond b (Some path) (cond (starts_with nat_eq path (t ∷ top)) (after_slash (drop (length (t ∷ top)) path)) None) ≡ Some rest) some is)

-- what is left of a path is a path
pub IsPath-below : (top path rest : List ℕ) → IsPath path → path_below top path ≡ Some rest → IsPath rest
IsPath-below [] path rest whole is = subst IsPath (same_Some path rest is) whole
IsPath-below (t ∷ top) path rest whole is = elim (place t top path rest is) as (λ _. IsPath rest) [
  | at _ none ↦ subst IsPath (sym none) (record { within = omega arith; steps = inl refl })
  | under split ↦
      let joined : IsPath (t ∷ top ++ 47 ∷ rest) = subst IsPath split whole in
      record { within = (let more = length-append (t ∷ top) (47 ∷ rest) in let within = joined.within in omega (arith, more, within)); steps = inr (segments_after_slash (t ∷ top) rest joined) }
]

-- ---- the order of what is left

cmp-append : (xs ys zs : List ℕ) → path_cmp (xs ++ ys) (xs ++ zs) ≡ path_cmp ys zs
cmp-append [] ys zs = refl
cmp-append (x ∷ xs) ys zs = ap (λ o. ordering_then o (path_cmp (xs ++ ys) (xs ++ zs))) (tied_itself nat_cmp_total x) ∙ cmp-append xs ys zs

less_than_longer : (xs : List ℕ) (y : ℕ) (ys : List ℕ) → path_cmp xs (xs ++ y ∷ ys) ≡ Less
less_than_longer [] y ys = refl
less_than_longer (x ∷ xs) y ys = ap (λ o. ordering_then o (path_cmp xs (xs ++ y ∷ ys))) (tied_itself nat_cmp_total x) ∙ less_than_longer xs y ys

nothing_less : (xs : List ℕ) → xs ≢ [] → path_cmp [] xs ≡ Less
nothing_less [] some = absurd (some refl)
nothing_less (x ∷ xs) some = refl

-- of two paths below one, the lesser leaves less
less_placed : (top p q r s : List ℕ) → Place top p r → Place top q s → IsPath q → path_cmp p q ≡ Less → path_cmp r s ≡ Less
less_placed top p q r s (at p_is r_is) (at q_is s_is) path e = absurd (not_less_itself top (subst (λ x. path_cmp x top ≡ Less) p_is (subst (λ x. path_cmp p x ≡ Less) q_is e)))
less_placed top p q r s (at p_is r_is) (under q_is) path e = subst (λ x. path_cmp x s ≡ Less) (sym r_is) (nothing_less s (no_empty_segment s (segments_after_slash top s (subst IsPath q_is path))))
less_placed top p q r s (under p_is) (at q_is s_is) path e =
    let less : path_cmp (top ++ 47 ∷ r) top ≡ Less = subst (λ x. path_cmp x top ≡ Less) p_is (subst (λ x. path_cmp p x ≡ Less) q_is e) in
    let more : path_cmp (top ++ 47 ∷ r) top ≡ Greater = greater top (top ++ 47 ∷ r) (less_than_longer top 47 r) in
    absurd (let never : Less ≡ Greater = sym less ∙ more in cc)
less_placed top p q r s (under p_is) (under q_is) path e =
    let both : path_cmp (top ++ 47 ∷ r) (top ++ 47 ∷ s) ≡ Less = subst (λ x. path_cmp x (top ++ 47 ∷ s) ≡ Less) p_is (subst (λ x. path_cmp p x ≡ Less) q_is e) in
    sym (cmp-append top (47 ∷ r) (47 ∷ s)) ∙ both

less_below : (top p q r s : List ℕ) → IsPath q → path_below top p ≡ Some r → path_below top q ≡ Some s → path_cmp p q ≡ Less → path_cmp r s ≡ Less
less_below [] p q r s path first second e = subst (λ x. path_cmp x s ≡ Less) (same_Some p r first) (subst (λ x. path_cmp p x ≡ Less) (same_Some q s second) e)
less_below (t ∷ top) p q r s path first second e = less_placed (t ∷ top) p q r s (place t top p r first) (place t top q s second) path e

-- ---- the files below a path

-- a path before all files leaves less than each of those that are below
below_all-files_below : (top p r : List ℕ) (files : List (List ℕ × List ℕ)) → All (λ file. IsPath file.0) files → path_below top p ≡ Some r → below_all path_cmp p files ≡ true → below_all path_cmp r (files_below top files) ≡ true
below_all-files_below top p r [] paths is h = refl
below_all-files_below top p r (f ∷ files) paths is h =
    let parts = and_parts (is_lt (path_cmp p f.0)) (below_all path_cmp p files) h in
    let rest = below_all-files_below top p r files (All-tail (λ file. IsPath file.0) f files paths) is parts.1 in
    elim (path_below top f.0) as (λ o. path_below top f.0 ≡ o → below_all path_cmp r (cons_option (option_map (λ s. (s, f.1)) o) (files_below top files)) ≡ true) [
      | None ↦ λ _. rest
      | Some s ↦ λ here. and_from _ _ (ap is_lt (less_below top p f.0 r s (paths 0 f (omega arith)) is here (less _ parts.0))) rest
    ] refl

rising_below : (top : List ℕ) (files : List (List ℕ × List ℕ)) → All (λ file. IsPath file.0) files → is_sorted path_cmp files ≡ true → is_sorted path_cmp (files_below top files) ≡ true
rising_below top [] paths h = refl
rising_below top (f ∷ files) paths h =
    let parts = and_parts (below_all path_cmp f.0 files) (is_sorted path_cmp files) h in
    let more = All-tail (λ file. IsPath file.0) f files paths in
    let rest = rising_below top files more parts.1 in
    elim (path_below top f.0) as (λ o. path_below top f.0 ≡ o → is_sorted path_cmp (cons_option (option_map (λ r. (r, f.1)) o) (files_below top files)) ≡ true) [
      | None ↦ λ _. rest
      | Some r ↦ λ is. and_from _ _ (below_all-files_below top f.0 r files more is parts.0) rest
    ] refl

paths_below : (top : List ℕ) (files : List (List ℕ × List ℕ)) → All (λ file. IsPath file.0) files → All (λ file. IsPath file.0) (files_below top files)
paths_below top [] paths = All-nil (λ file. IsPath file.0)
paths_below top (f ∷ files) paths =
    let rest = paths_below top files (All-tail (λ file. IsPath file.0) f files paths) in
    elim (path_below top f.0) as (λ o. path_below top f.0 ≡ o → All (λ file. IsPath file.0) (cons_option (option_map (λ r. (r, f.1)) o) (files_below top files))) [
      | None ↦ λ _. rest
      | Some r ↦ λ is. All-cons (λ file. IsPath file.0) (r, f.1) (files_below top files) (IsPath-below top f.0 r (paths 0 f (omega arith)) is) rest
    ] refl

-- the files of a tree below a path are a tree
pub IsTree-files_below : (top : List ℕ) (files : List (List ℕ × List ℕ)) → IsTree files → IsTree (files_below top files)
IsTree-files_below top files tree = record { paths = paths_below top files tree.paths; rising = rising_below top files tree.paths tree.rising }

-- below the empty path lies the whole tree
pub files_below-nothing : (files : List (List ℕ × List ℕ)) → files_below [] files ≡ files
files_below-nothing [] = refl
files_below-nothing (f ∷ files) = ap (λ more. f ∷ more) (files_below-nothing files)
