-- The least of names.
use Rattle.std.proofs.Common.{◌≡◌, ℕ, zero, suc, ◌+◌, ◌<◌, ◌⊎◌, Bool, true, false, cond, List, [], ◌∷◌, ◌++◌, length, drop, get_or, Option, Some, None, slice_get, refl, sym, ◌∙◌, ap, subst, inl, inr}
use Rattle.std.specs.Cmp.Lexicographic.{slice_cmp, nat_list_cmp_total}
use Rattle.std.specs.Ordering.{nat_cmp, is_gt, ordering_reverse}
use Rattle.std.specs.declared.cmp.Ordering.{Ordering}
use Rattle.std.specs.declared.cmp.Ordering.TheVariants.{Less, Equal, Greater}
use Rattle.std.proofs.lemmas.Bool.{cases_Bool}
use Rattle.std.proofs.lemmas.Cmp.{upto, tied_itself}
use Rattle.class_index.specs.declared.outline.Outline.{Outline}
use Rattle.class_index.specs.Hierarchy.{names}
use Rattle.class_index.specs.Least.{IsIn, IsLeast, lesser_of, least_from}
use Rattle.std.proofs.lemmas.List.{drop_more}
use Rattle.class_index.specs.Supers.{marked_names, lacks, missing_by}

-- a is not above b
abbrev pub UpTo : List ℕ → List ℕ → Type 0
UpTo a b = is_gt (slice_cmp nat_cmp a b) ≡ false

itself : (a : List ℕ) → UpTo a a
itself a = ap is_gt (tied_itself nat_list_cmp_total a)

not_above : (r s : Ordering) → r ≡ ordering_reverse s → is_gt s ≡ true → is_gt r ≡ false
not_above r Less e g = cc
not_above r Equal e g = cc
not_above r Greater e g = ap is_gt e

pub lesser_first : (least name : List ℕ) → UpTo (lesser_of (Some least) name) least
lesser_first least name = elim (cases_Bool (is_gt (slice_cmp nat_cmp least name))) [
  | inl t ↦ rw t (not_above (slice_cmp nat_cmp name least) (slice_cmp nat_cmp least name) (nat_list_cmp_total.antisymm name least) t)
  | inr f ↦ rw f (itself least)
]

pub lesser_second : (least : Option (List ℕ)) (name : List ℕ) → UpTo (lesser_of least name) name
lesser_second None name = itself name
lesser_second (Some least) name = elim (cases_Bool (is_gt (slice_cmp nat_cmp least name))) [
  | inl t ↦ rw t (itself name)
  | inr f ↦ rw f f
]

lesser_among : (least : Option (List ℕ)) (name : List ℕ) → (Some (lesser_of least name) ≡ least) ⊎ (name ≡ lesser_of least name)
lesser_among None name = inr refl
lesser_among (Some least) name = elim (cases_Bool (is_gt (slice_cmp nat_cmp least name))) [
  | inl t ↦ inr (rw t refl)
  | inr f ↦ inl (rw f refl)
]

-- what the least of names before and names is
record IsLeastFrom (least : Option (List ℕ)) (xs : List (List ℕ)) (n : List ℕ) : Type 0 where
  among : (least ≡ Some n) ⊎ IsIn n xs
  before : (m : List ℕ) → least ≡ Some m → UpTo n m
  each : (m : List ℕ) → IsIn m xs → UpTo n m

least_from_is : (least : Option (List ℕ)) (xs : List (List ℕ)) (n : List ℕ) → least_from least xs ≡ Some n → IsLeastFrom least xs n
least_from_is least [] n e = record {
  among = inl e;
  before = λ m f. let same : Some n ≡ Some m = sym e ∙ f in let s : n ≡ m = cc in subst (UpTo n) s (itself n);
  each = λ m none. absurd none;
}
least_from_is least (x ∷ xs) n e =
    let rest = least_from_is (Some (lesser_of least x)) xs n e in
    let low : UpTo n (lesser_of least x) = rest.before (lesser_of least x) refl in
    record {
      among = elim rest.among [
        | inl f ↦
            let is : lesser_of least x ≡ n = cc in
            elim (lesser_among least x) [ inl g ↦ inl (sym g ∙ f) | inr g ↦ inr (inl (g ∙ is)) ]
        | inr m ↦ inr (inr m)
      ];
      before = λ m f. upto nat_list_cmp_total n (lesser_of least x) m low (rw f (lesser_first m x));
      each = λ m among. elim among [
        | inl f ↦ subst (UpTo n) f (upto nat_list_cmp_total n (lesser_of least x) x low (lesser_second least x))
        | inr more ↦ rest.each m more
      ];
    }

-- the least of names is one of them, and none of them is lesser
pub least_is : (xs : List (List ℕ)) (n : List ℕ) → least_from None xs ≡ Some n → IsLeast (λ m. IsIn m xs) n
least_is xs n e =
    let is = least_from_is None xs n e in
    record {
      among = elim is.among [ inl f ↦ cc | inr m ↦ m ];
      least = is.each;
    }

some_from : (least : List ℕ) (xs : List (List ℕ)) → least_from (Some least) xs ≡ None → ⊥
some_from least [] e = cc
some_from least (x ∷ xs) e = some_from (lesser_of (Some least) x) xs e

-- no names have no least
pub least_none : (xs : List (List ℕ)) → least_from None xs ≡ None → xs ≡ []
least_none [] e = refl
least_none (x ∷ xs) e = absurd (some_from x xs e)

pub least_more : (least : Option (List ℕ)) (xs : List (List ℕ)) (x : List ℕ) → least_from least (xs ++ x ∷ []) ≡ Some (lesser_of (least_from least xs) x)
least_more least [] x = refl
least_more least (y ∷ xs) x = least_more (Some (lesser_of least y)) xs x

-- the marked names
pub marked_at : (all : List Outline) (marks : List Bool) (name : List ℕ) → IsIn name (marked_names all marks)
    → (at : ℕ) × (slice_get (names all) at ≡ Some name) × (get_or marks at false ≡ true)
marked_at [] marks name m = absurd m
marked_at (o ∷ all) [] name m = absurd m
marked_at (o ∷ all) (true ∷ marks) name m = elim m [
  | inl e ↦ (0, ap Some e, refl)
  | inr more ↦ let found = marked_at all marks name more in (suc found.0, found.1, found.2)
]
marked_at (o ∷ all) (false ∷ marks) name m = let found = marked_at all marks name m in (suc found.0, found.1, found.2)

pub at_marked : (all : List Outline) (marks : List Bool) (at : ℕ) (name : List ℕ) → slice_get (names all) at ≡ Some name → get_or marks at false ≡ true → IsIn name (marked_names all marks)
at_marked [] marks at name e t = cc
at_marked (o ∷ all) [] at name e t = cc
at_marked (o ∷ all) (true ∷ marks) zero name e t = let same : o.name ≡ name = cc in inl same
at_marked (o ∷ all) (false ∷ marks) zero name e t = cc
at_marked (o ∷ all) (true ∷ marks) (suc at) name e t = inr (at_marked all marks at name e t)
at_marked (o ∷ all) (false ∷ marks) (suc at) name e t = at_marked all marks at name e t

marked_cons : (least : Option (List ℕ)) (o : Outline) (all : List Outline) (mark : Bool) (marks : List Bool)
    → least_from least (marked_names (o ∷ all) (mark ∷ marks)) ≡ least_from (cond mark (Some (lesser_of least o.name)) least) (marked_names all marks)
marked_cons least o all true marks = refl
marked_cons least o all false marks = refl

-- one more place, which may be marked
pub marked_more : (least next : Option (List ℕ)) (all : List Outline) (marks : List Bool) (at : ℕ) (o : Outline) (mark : Bool) → at < length all → at < length marks
    → o ≡ get_or all at o → mark ≡ get_or marks at mark → next ≡ cond mark (Some (lesser_of least o.name)) least
    → least_from least (marked_names (drop at all) (drop at marks)) ≡ least_from next (marked_names (drop (at + 1) all) (drop (at + 1) marks))
marked_more least next all marks at o mark within marked is t e =
    rw (drop_more all at o within, drop_more marks at mark marked, ← is, ← t, e) (marked_cons least o (drop (at + 1) all) mark (drop (at + 1) marks))

missing_cons : (find : List ℕ → Option ℕ) (own : ℕ) (least : Option (List ℕ)) (o : Outline) (classes : List Outline)
    → least_from least (missing_by find own (o ∷ classes)) ≡ least_from (least_from least (missing_by find own (o ∷ []))) (missing_by find own classes)
missing_cons find own least o classes = go o.super_class refl
  where
    with_name : (name : List ℕ) (b : Bool) → lacks own (find name) ≡ b → o.super_class ≡ Some name
        → least_from least (missing_by find own (o ∷ classes)) ≡ least_from (least_from least (missing_by find own (o ∷ []))) (missing_by find own classes)
    with_name name true l e = rw (e, l) refl
    with_name name false l e = rw (e, l) refl

    go : (s : Option (List ℕ)) → o.super_class ≡ s → least_from least (missing_by find own (o ∷ classes)) ≡ least_from (least_from least (missing_by find own (o ∷ []))) (missing_by find own classes)
    go None e = rw e refl
    go (Some name) e = with_name name (lacks own (find name)) refl e

-- one more class, whose superclass may be missing
pub missing_more : (find : List ℕ → Option ℕ) (own : ℕ) (least next : Option (List ℕ)) (classes : List Outline) (at : ℕ) (o : Outline) → at < length classes → o ≡ get_or classes at o
    → next ≡ least_from least (missing_by find own (o ∷ []))
    → least_from least (missing_by find own (drop at classes)) ≡ least_from next (missing_by find own (drop (at + 1) classes))
missing_more find own least next classes at o within is e =
    rw (drop_more classes at o within, ← is, e) (missing_cons find own least o (drop (at + 1) classes))
