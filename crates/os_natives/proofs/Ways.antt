-- What is in the way of a file, by look-ups.
use Rattle.std.proofs.Common.{◌≡◌, ◌≢◌, ℕ, zero, suc, ◌+◌, ◌<◌, ◌≤◌, Bool, true, false, cond, List, [], ◌∷◌, ◌++◌, length, take, drop, map, inl, inr, refl, sym, subst, ap, ◌∙◌, append_assoc, length-take, arith}
use Rattle.std.specs.Prelude.{◌⊎◌, ◌==◌, ◌&&◌, ◌||◌, not, nat_eq, nat_lt, bytes_eq, slice_index, Some, None, is_some, if◌then◌else◌}
use Rattle.std.specs.List.{list_any, starts_with}
use Rattle.std.specs.FinMap.Entries as entries
use Rattle.std.specs.Ordering.{eq_by_cmp}
use Rattle.std.specs.Cmp.Lexicographic.{texts_ties, bytes_decides}
use Rattle.std.proofs.lemmas.Bool.Decides.{Decides-eqb, nat_tests}
use Rattle.std.proofs.lemmas.Slice.Eq.{starts_is}
use Rattle.std.proofs.lemmas.List.Prefix.{front_rest}
use Rattle.tree_value.specs.Trees.{path_cmp, path_below, after_slash}
use Rattle.native_model.specs.Outside.{stands_in, is_in_the_way}

-- ---- tests of many

shuffled : (a b c d : Bool) → ((a || b) || (c || d)) ≡ ((a || c) || (b || d))
shuffled true b c d = refl
shuffled false true true d = refl
shuffled false true false d = refl
shuffled false false c d = refl

any_or : {X : Type 0} (p q : X → Bool) (xs : List X) → list_any (λ x. p x || q x) xs ≡ (list_any p xs || list_any q xs)
any_or p q [] = refl
any_or p q (x ∷ xs) = ap (λ b. (p x || q x) || b) (any_or p q xs) ∙ shuffled (p x) (q x) (list_any p xs) (list_any q xs)

any_and : {X : Type 0} (s : Bool) (q : X → Bool) (xs : List X) → list_any (λ x. s && q x) xs ≡ (s && list_any q xs)
any_and true q xs = refl
any_and false q [] = refl
any_and false q (x ∷ xs) = any_and false q xs

any_same : {X : Type 0} (p q : X → Bool) → ((x : X) → p x ≡ q x) → (xs : List X) → list_any p xs ≡ list_any q xs
any_same p q same [] = refl
any_same p q same (x ∷ xs) = ap (λ b. b || list_any p xs) (same x) ∙ ap (λ b. q x || b) (any_same p q same xs)

any_map : {X Y : Type 0} (f : X → Y) (p : Y → Bool) (xs : List X) → list_any p (map f xs) ≡ list_any (λ x. p (f x)) xs
any_map f p [] = refl
any_map f p (x ∷ xs) = ap (λ b. p (f x) || b) (any_map f p xs)

same_number : (a b : ℕ) → nat_eq a b ≡ nat_eq b a
same_number a b = grind (arith, nat_tests)

same_bytes : (a b : List ℕ) → bytes_eq a b ≡ bytes_eq b a
same_bytes [] [] = refl
same_bytes [] (y ∷ b) = refl
same_bytes (x ∷ a) [] = refl
same_bytes (x ∷ a) (y ∷ b) = ap (λ t. t && bytes_eq a b) (same_number x y) ∙ ap (λ t. nat_eq y x && t) (same_bytes a b)

itself : (n : ℕ) → nat_eq n n ≡ true
itself n = (Decides-eqb n n).1 refl

found_any : (q : List ℕ) (es : List (List ℕ × List ℕ)) → is_some (entries.find path_cmp q es) ≡ list_any (λ f. bytes_eq q f.0) es
found_any q es =
    entries.is_some-find path_cmp q es ∙ (any_map (λ f. f.0) (eq_by_cmp path_cmp q) es
    ∙ any_same (λ f. eq_by_cmp path_cmp q f.0) (λ f. bytes_eq q f.0) (λ f. sym (texts_ties q f.0)) es)

-- ---- files above a path

-- a front of a path that ends before a slash, of fewer bytes than so many, or no bytes at all
abbrev is_front : List ℕ → List ℕ → Bool
is_front path other = starts_with nat_eq path other && (slice_index path (length other) == 47)

abbrev pub front_to : ℕ → List ℕ → List ℕ → Bool
front_to n path other = (length other == 0) || (nat_lt (length other) n && is_front path other)

no_bytes : (path other : List ℕ) → bytes_eq [] other ≡ front_to 0 path other
no_bytes path [] = refl
no_bytes path (o ∷ other) = by (length (o ∷ other) == 0) (nat_lt (length (o ∷ other)) 0) some none
  where
    some : (length (o ∷ other) == 0) ≡ false
    some = grind (arith, nat_tests)

    none : nat_lt (length (o ∷ other)) 0 ≡ false
    none = grind (arith, nat_tests)

    by : (a b : Bool) → a ≡ false → b ≡ false → false ≡ (a || (b && is_front path (o ∷ other)))
    by true b is least = cc
    by false true is least = cc
    by false false is least = refl

pub first_front : (path : List ℕ) (es : List (List ℕ × List ℕ)) → is_some (entries.find path_cmp [] es) ≡ list_any (λ f. front_to 0 path f.0) es
first_front path es = found_any [] es ∙ any_same (λ f. bytes_eq [] f.0) (λ f. front_to 0 path f.0) (λ f. no_bytes path f.0) es

at_front : (z b s : Bool) → (z || (b && s)) ≡ (z || (s && b))
at_front true b s = refl
at_front false true true = refl
at_front false true false = refl
at_front false false true = refl
at_front false false false = refl

or_false : (a s : Bool) → a ≡ (a || (s && false))
or_false true s = refl
or_false false true = refl
or_false false false = refl

front_here : (path other : List ℕ) → front_to (length other + 1) path other ≡ (front_to (length other) path other || ((slice_index path (length other) == 47) && bytes_eq (take (length other) path) other))
front_here path other = by (length other == 0) (nat_lt (length other) (length other + 1)) (nat_lt (length other) (length other)) within without
  where
    within : nat_lt (length other) (length other + 1) ≡ true
    within = grind (arith, nat_tests)

    without : nat_lt (length other) (length other) ≡ false
    without = grind (arith, nat_tests)

    same : starts_with nat_eq path other ≡ bytes_eq (take (length other) path) other
    same = same_bytes other (take (length other) path)

    by : (z a b : Bool) → a ≡ true → b ≡ false → (z || (a && is_front path other)) ≡ ((z || (b && is_front path other)) || ((slice_index path (length other) == 47) && bytes_eq (take (length other) path) other))
    by true a b is isn't = refl
    by false false b is isn't = cc
    by false true true is isn't = cc
    by false true false is isn't = at_front false (starts_with nat_eq path other) (slice_index path (length other) == 47) ∙ ap (λ t. (slice_index path (length other) == 47) && t) same

front_there : (path other : List ℕ) (at : ℕ) → at < length path → length other ≢ at → front_to (at + 1) path other ≡ (front_to at path other || ((slice_index path at == 47) && bytes_eq (take at path) other))
front_there path other at within differ =
    ap (λ b. (length other == 0) || (b && is_front path other)) less
    ∙ (or_false (front_to at path other) (slice_index path at == 47)
    ∙ ap (λ b. front_to at path other || ((slice_index path at == 47) && b)) (sym (unequal (bytes_eq (take at path) other) refl)))
  where
    less : nat_lt (length other) (at + 1) ≡ nat_lt (length other) at
    less = grind (arith, nat_tests, differ)

    unequal : (b : Bool) → bytes_eq (take at path) other ≡ b → b ≡ false
    unequal true is = let same : take at path ≡ other = (bytes_decides (take at path) other).0 is in absurd (differ (omega (arith, ap length same, length-take at path, within)))
    unequal false is = refl

front_step : (path other : List ℕ) (at : ℕ) → at < length path → front_to (at + 1) path other ≡ (front_to at path other || ((slice_index path at == 47) && bytes_eq (take at path) other))
front_step path other at within = by (places (length other) at)
  where
    places : (a b : ℕ) → (a ≡ b) ⊎ (a ≢ b)
    places a b = grind arith

    by : (length other ≡ at) ⊎ (length other ≢ at) → front_to (at + 1) path other ≡ (front_to at path other || ((slice_index path at == 47) && bytes_eq (take at path) other))
    by (inl same) = subst (λ n. front_to (n + 1) path other ≡ (front_to n path other || ((slice_index path n == 47) && bytes_eq (take n path) other))) same (front_here path other)
    by (inr differ) = front_there path other at within differ

-- a front more is looked for
pub front_more : (path : List ℕ) (es : List (List ℕ × List ℕ)) (at : ℕ) (found here : Bool) → at < length path → found ≡ list_any (λ f. front_to at path f.0) es → here ≡ ((slice_index path at == 47) && is_some (entries.find path_cmp (take at path) es)) → (found || here) ≡ list_any (λ f. front_to (at + 1) path f.0) es
front_more path es at found here within so_far is =
    ap (λ b. b || here) so_far ∙ (ap (λ b. list_any (λ f. front_to at path f.0) es || b) (is ∙ (ap (λ b. (slice_index path at == 47) && b) (found_any (take at path) es)
    ∙ sym (any_and (slice_index path at == 47) (λ f. bytes_eq (take at path) f.0) es)))
    ∙ (sym (any_or (λ f. front_to at path f.0) (λ f. (slice_index path at == 47) && bytes_eq (take at path) f.0) es)
    ∙ sym (any_same (λ f. front_to (at + 1) path f.0) (λ f. front_to at path f.0 || ((slice_index path at == 47) && bytes_eq (take at path) f.0)) (λ f. front_step path f.0 at within) es)))

slash_behind : (c : ℕ) (more : List ℕ) → is_some (if c == 47 then Some more else None) ≡ (c == 47)
slash_behind c more = by (c == 47)
  where
    by : (b : Bool) → is_some (if b then Some more else None) ≡ b
    by true = refl
    by false = refl

above_rest : (other rest : List ℕ) → (nat_lt (length other) (length (other ++ rest)) && (slice_index (other ++ rest) (length other) == 47)) ≡ (not (bytes_eq other (other ++ rest)) && is_some (after_slash rest))
above_rest [] [] = refl
above_rest [] (c ∷ more) = rw (some (length more)) (sym (slash_behind c more))
  where
    some : (n : ℕ) → nat_lt 0 (suc n) ≡ true
    some n = grind (arith, nat_tests)
above_rest (o ∷ other) rest =
    ap (λ b. b && (slice_index (other ++ rest) (length other) == 47)) (shifted (length other) (length (other ++ rest)))
    ∙ (above_rest other rest ∙ ap (λ b. not (b && bytes_eq other (other ++ rest)) && is_some (after_slash rest)) (sym (itself o)))
  where
    shifted : (a b : ℕ) → nat_lt (suc a) (suc b) ≡ nat_lt a b
    shifted a b = grind (arith, nat_tests)

front_stands : (path other : List ℕ) → 0 < length path → front_to (length path) path other ≡ stands_in other path
front_stands [] other some = absurd (omega arith)
front_stands (p ∷ path) [] some = refl
front_stands (p ∷ path) (o ∷ other) some =
    rw nonempty (by (starts_with nat_eq (p ∷ path) (o ∷ other)) refl)
  where
    nonempty : (length (o ∷ other) == 0) ≡ false
    nonempty = grind (arith, nat_tests)

    neither : (a b : Bool) → (a && false) ≡ (b && false)
    neither true true = refl
    neither true false = refl
    neither false true = refl
    neither false false = refl

    by : (t : Bool) → starts_with nat_eq (p ∷ path) (o ∷ other) ≡ t → (nat_lt (length (o ∷ other)) (length (p ∷ path)) && (t && (slice_index (p ∷ path) (length (o ∷ other)) == 47))) ≡ (not (bytes_eq (o ∷ other) (p ∷ path)) && is_some (if t then after_slash (drop (length (o ∷ other)) (p ∷ path)) else None))
    by true begins =
        let rest : List ℕ = drop (length (o ∷ other)) (p ∷ path) in
        let whole : p ∷ path ≡ (o ∷ other) ++ rest = (starts_is Decides-eqb (p ∷ path) (o ∷ other) (starts_with nat_eq (p ∷ path) (o ∷ other)) refl).0 begins in
        subst (λ l. (nat_lt (length (o ∷ other)) (length l) && (slice_index l (length (o ∷ other)) == 47)) ≡ (not (bytes_eq (o ∷ other) l) && is_some (after_slash rest))) (sym whole) (above_rest (o ∷ other) rest)
    by false begins = neither (nat_lt (length (o ∷ other)) (length (p ∷ path))) (not (bytes_eq (o ∷ other) (p ∷ path)))

-- all fronts are looked for
pub all_fronts : (path : List ℕ) (es : List (List ℕ × List ℕ)) (at : ℕ) → 0 < length path → at ≡ length path → list_any (λ f. front_to at path f.0) es ≡ list_any (λ f. stands_in f.0 path) es
all_fronts path es at some all =
    any_same (λ f. front_to at path f.0) (λ f. stands_in f.0 path) (λ f. ap (λ n. front_to n path f.0) all ∙ front_stands path f.0 some) es

-- ---- files below a path

below_rest : (path rest : List ℕ) → (not (bytes_eq path (path ++ rest)) && is_some (after_slash rest)) ≡ starts_with nat_eq (path ++ rest) (path ++ 47 ∷ [])
below_rest [] [] = refl
below_rest [] (c ∷ more) = slash_behind c more ∙ (same_number c 47 ∙ and_true (nat_eq 47 c))
  where
    and_true : (b : Bool) → b ≡ (b && true)
    and_true true = refl
    and_true false = refl
below_rest (p ∷ path) rest =
    rw (itself p) (below_rest path rest)

folder_told : (path other : List ℕ) → 0 < length path → starts_with nat_eq other (path ++ 47 ∷ []) ≡ stands_in path other
folder_told [] other some = absurd (omega arith)
folder_told (p ∷ path) other some = rw nonempty (by (starts_with nat_eq other (p ∷ path)) refl)
  where
    nonempty : (length (p ∷ path) == 0) ≡ false
    nonempty = grind (arith, nat_tests)

    no_more : (b : Bool) → starts_with nat_eq other ((p ∷ path) ++ 47 ∷ []) ≡ b → starts_with nat_eq other (p ∷ path) ≡ false → b ≡ false
    no_more true longer begins =
        let more : List ℕ = drop (length ((p ∷ path) ++ 47 ∷ [])) other in
        let whole : other ≡ ((p ∷ path) ++ 47 ∷ []) ++ more = (starts_is Decides-eqb other ((p ∷ path) ++ 47 ∷ []) (starts_with nat_eq other ((p ∷ path) ++ 47 ∷ [])) refl).0 longer in
        let there : starts_with nat_eq other (p ∷ path) ≡ true = (starts_is Decides-eqb other (p ∷ path) (starts_with nat_eq other (p ∷ path)) refl).1 (47 ∷ more) (whole ∙ append_assoc (p ∷ path) (47 ∷ []) more) in
        let never : false ≡ true = sym begins ∙ there in cc
    no_more false longer begins = refl

    neither : (a : Bool) → (a && false) ≡ false
    neither true = refl
    neither false = refl

    by : (t : Bool) → starts_with nat_eq other (p ∷ path) ≡ t → starts_with nat_eq other ((p ∷ path) ++ 47 ∷ []) ≡ (not (bytes_eq (p ∷ path) other) && is_some (if t then after_slash (drop (length (p ∷ path)) other) else None))
    by true begins =
        let rest : List ℕ = drop (length (p ∷ path)) other in
        let whole : other ≡ (p ∷ path) ++ rest = (starts_is Decides-eqb other (p ∷ path) (starts_with nat_eq other (p ∷ path)) refl).0 begins in
        subst (λ l. starts_with nat_eq l ((p ∷ path) ++ 47 ∷ []) ≡ (not (bytes_eq (p ∷ path) l) && is_some (after_slash rest))) (sym whole) (sym (below_rest (p ∷ path) rest))
    by false begins = no_more (starts_with nat_eq other ((p ∷ path) ++ 47 ∷ [])) refl begins ∙ sym (neither (not (bytes_eq (p ∷ path) other)))

pub folders_told : (path : List ℕ) (es : List (List ℕ × List ℕ)) → 0 < length path → list_any (λ f. starts_with nat_eq f.0 (path ++ 47 ∷ [])) es ≡ list_any (λ f. stands_in path f.0) es
folders_told path es some =
    any_same (λ f. starts_with nat_eq f.0 (path ++ 47 ∷ [])) (λ f. stands_in path f.0) (λ f. folder_told path f.0 some) es

-- ---- both

pub way_told : (path : List ℕ) (es : List (List ℕ × List ℕ)) → 0 < length path → is_in_the_way path (map (λ f. f.0) es) ≡ (list_any (λ f. stands_in f.0 path) es || list_any (λ f. stands_in path f.0) es)
way_told path es some =
    ap (λ b. b || list_any (λ other. stands_in other path || stands_in path other) (map (λ f. f.0) es)) nonempty
    ∙ (any_map (λ f. f.0) (λ other. stands_in other path || stands_in path other) es ∙ any_or (λ f. stands_in f.0 path) (λ f. stands_in path f.0) es)
  where
    nonempty : (length path == 0) ≡ false
    nonempty = grind (arith, nat_tests)

pub ruleset ways = (way_told)
