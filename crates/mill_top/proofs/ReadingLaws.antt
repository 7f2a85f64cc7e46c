-- Laws of files in order and of reading them one by one.
use Rattle.std.proofs.Common.{◌≡◌, ℕ, zero, suc, ◌+◌, ◌-◌, ◌<◌, ◌≤◌, false, cond, List, [], ◌∷◌, ◌++◌, length, get_or, take, Option, Some, None, IfSome, refl, sym, ap, subst, ◌∙◌, append_assoc, arith}
use Rattle.std.specs.declared.cmp.Ordering.TheVariants.{Less}
use Rattle.std.specs.Ordering.{is_eq, ordering_reverse, eq_by_cmp}
use Rattle.std.specs.Cmp.{tied_itself}
use Rattle.std.specs.List.{AllByRecursion}
use Rattle.std.specs.List.Sorted.{IsStrictlySortedBy}
use Rattle.std.proofs.lemmas.Cmp.{nat_list_cmp_total}
use Rattle.std.proofs.lemmas.List.{take_more, take_all, append-nil, map-append}
use Rattle.tree_value.specs.Trees.{path_cmp, path_at, IsFirstOutOfOrder}
use Rattle.io_traits.specs.Files.{File, Files, get, names, IsInOrder}
use Rattle.mill_top.specs.Scratch.{file_of}

all_without : (P : List ℕ → Type 0) (front : List (List ℕ)) (x : List ℕ) (rest : List (List ℕ)) → AllByRecursion P (front ++ x ∷ rest) → AllByRecursion P (front ++ rest)
all_without P [] x rest all = all.1
all_without P (y ∷ front) x rest all = (all.0, all_without P front x rest all.1)

in_order_without : (front : List (List ℕ)) (x : List ℕ) (rest : List (List ℕ)) → IsInOrder (front ++ x ∷ rest) → IsInOrder (front ++ rest)
unfolding IsStrictlySortedBy
in_order_without [] x rest up = up.1
in_order_without (y ∷ front) x rest up = (all_without (λ z. path_cmp y z ≡ Less) front x rest up.0, in_order_without front x rest up.1)

-- the names so far and those that are left stay in order, whether the file at the front of these was found or not
pub order_more : (files : Files) (found : Option (List ℕ)) (x : List ℕ) (rest : List (List ℕ)) → IsInOrder (names files ++ x ∷ rest)
    → IsInOrder (names (files ++ file_of x found) ++ rest)
order_more files None x rest up = rw (append-nil files) (in_order_without (names files) x rest up)
order_more files (Some bytes) x rest up = rw (map-append (λ (file : File). file.0) files ((x, bytes) ∷ []), append_assoc (names files) (x ∷ []) rest) up

all_at : (P : List ℕ → Type 0) (xs : List (List ℕ)) (i : ℕ) (d : List ℕ) → AllByRecursion P xs → i < length xs → P (get_or xs i d)
all_at P [] i d all within = absurd (omega arith)
all_at P (x ∷ xs) zero d all within = all.0
all_at P (x ∷ xs) (suc i) d all within = all_at P xs i d all.1 (omega arith)

name_at : (files : Files) (i : ℕ) (d : File) → get_or (names files) i d.0 ≡ (get_or files i d).0
name_at [] i d = refl
name_at (file ∷ files) zero d = refl
name_at (file ∷ files) (suc i) d = name_at files i d

length-names : (files : Files) → length (names files) ≡ length files
length-names [] = refl
length-names (file ∷ files) = ap suc (length-names files)

greater : (x y : List ℕ) → path_cmp x y ≡ Less → eq_by_cmp path_cmp y x ≡ false
greater x y less = ap is_eq (nat_list_cmp_total.antisymm y x ∙ ap ordering_reverse less)

-- files in order have at each name the bytes that stand beside it
get_at : (files : Files) (i : ℕ) (d : File) → IsInOrder (names files) → i < length files → get files (get_or files i d).0 ≡ Some (get_or files i d).1
unfolding IsStrictlySortedBy
get_at [] i d up within = absurd (omega arith)
get_at (file ∷ files) zero d up within = ap (λ o. cond (is_eq o) (Some file.1) (get files file.0)) (tied_itself nat_list_cmp_total file.0)
get_at (file ∷ files) (suc i) d up within =
    let inside : i < length files = omega arith in
    let less : path_cmp file.0 (get_or files i d).0 ≡ Less =
    subst (λ n. path_cmp file.0 n ≡ Less) (name_at files i d) (all_at (λ n. path_cmp file.0 n ≡ Less) (names files) i d.0 up.0 (omega (arith, length-names files))) in
    ap (λ b. cond b (Some file.1) (get files (get_or files i d).0)) (greater file.0 (get_or files i d).0 less) ∙ get_at files i d up.1 inside

rising_at : (files : Files) (k : ℕ) → IsInOrder (names files) → suc k < length files → path_cmp (path_at files k) (path_at files (suc k)) ≡ Less
unfolding IsStrictlySortedBy
rising_at [] k up within = absurd (omega arith)
rising_at (file ∷ files) zero up within =
    let inside : 0 < length files = omega arith in
    subst (λ n. path_cmp file.0 n ≡ Less) (name_at files zero ([], [])) (all_at (λ n. path_cmp file.0 n ≡ Less) (names files) zero [] up.0 (omega (arith, length-names files)))
rising_at (file ∷ files) (suc k) up within = rising_at files k up.1 (omega arith)

-- of files in order none is out of order
pub none_out_of_order : (files : Files) (n : ℕ) → IsInOrder (names files) → IsFirstOutOfOrder files n → ⊥
none_out_of_order files n up out =
    let above : 1 < n = out.within.0 in
    let inside : n ≤ length files = out.within.1 in
    let next : suc (n - 2) ≡ n - 1 = omega arith in
    out.here (subst (λ k. path_cmp (path_at files (n - 2)) (path_at files k) ≡ Less) next (rising_at files (n - 2) up (omega arith)))

add_at : (files : Files) (i : ℕ) (d : File) (found : Option (List ℕ)) → IsInOrder (names files) → i < length files → found ≡ get files (get_or files i d).0
    → take i files ++ file_of (get_or files i d).0 found ≡ take (i + 1) files
add_at files i d found up within is =
    rw (is ∙ get_at files i d up within) (sym (take_more files i d within))

-- after the file at the next name, the files are those told up to there
pub told_more : (content : Option Files) (listed : List (List ℕ)) (files : Files) (i : ℕ) (x : List ℕ) (found : Option (List ℕ))
    → IsInOrder listed → i < length listed → x ≡ get_or listed i x
    → IfSome content (λ told. listed ≡ names told) → IfSome content (λ told. found ≡ get told x) → IfSome content (λ told. files ≡ take i told)
    → IfSome content (λ told. files ++ file_of x found ≡ take (i + 1) told)
told_more None listed files i x found up within here all is so_far = tt
told_more (Some told) listed files i x found up within here all is so_far =
    let d : File = (x, []) in
    let inside : i < length told = omega (arith, length-names told, ap length all) in
    let at : x ≡ (get_or told i d).0 = here ∙ ap (λ ns. get_or ns i x) all ∙ name_at told i d in
    rw (so_far, at) (add_at told i d found (subst IsInOrder all up) inside (is ∙ ap (get told) at))

-- after the last name they are all of them
pub told_all : (content : Option Files) (listed : List (List ℕ)) (files : Files) (i : ℕ)
    → length listed ≤ i → IfSome content (λ told. listed ≡ names told) → IfSome content (λ told. files ≡ take i told) → IfSome content (λ told. files ≡ told)
told_all None listed files i past all so_far = tt
told_all (Some told) listed files i past all so_far = so_far ∙ take_all i told (omega (arith, length-names told, ap length all))
