-- Files whose paths begin with some bytes stand one behind the other.
use Rattle.std.proofs.Common.{◌≡◌, ℕ, Bool, true, false, cond, List, [], ◌∷◌, ◌++◌, length, take, drop, refl, sym, subst, ap, ◌∙◌}
use Rattle.std.specs.Prelude.{◌&&◌, ◌||◌, not, nat_eq, filter}
use Rattle.std.specs.List.{AllByRecursion, list_any, starts_with}
use Rattle.std.specs.declared.cmp.Ordering.{Ordering}
use Rattle.std.specs.declared.cmp.Ordering.TheVariants.{Less, Equal, Greater}
use Rattle.std.specs.declared.ops.Bound.TheVariants.{Included, Unbounded}
use Rattle.std.specs.Ordering.{is_le, nat_cmp, ordering_then, ordering_reverse}
use Rattle.std.specs.List.Sorted.{IsStrictlySortedBy}
use Rattle.std.specs.Map.{keys_of}
use Rattle.std.specs.BTreeMap.Range.{entries_between}
use Rattle.std.specs.FinMap.{nat_cmp-IsAntisymmetric}
use Rattle.std.proofs.lemmas.Bool.{and_parts, and_from, eqb-true}
use Rattle.std.proofs.lemmas.Bool.Decides.{Decides-eqb}
use Rattle.std.proofs.lemmas.Cmp.{nat_cmp_total, tied_itself}
use Rattle.std.proofs.lemmas.Slice.Eq.{starts_is}
use Rattle.std.proofs.lemmas.Map.Keys.{sorted_head, sorted_tail}
use Rattle.tree_value.specs.Trees.{path_cmp}

greater : (x y : ℕ) → nat_cmp x y ≡ Less → nat_cmp y x ≡ Greater
greater x y e = nat_cmp_total.antisymm y x ∙ ap ordering_reverse e

-- what lies between bytes and what begins with them begins with them
between : (front a b : List ℕ) → is_le (path_cmp front a) ≡ true → path_cmp a b ≡ Less → starts_with nat_eq b front ≡ true → starts_with nat_eq a front ≡ true
between [] a b from before begins = refl
between (x ∷ xs) [] b from before begins = cc
between (x ∷ xs) (y ∷ ys) [] from before begins = cc
between (x ∷ xs) (y ∷ ys) (z ∷ zs) from before begins =
    by (nat_cmp x y) refl from (subst (λ k. ordering_then (nat_cmp y k) (path_cmp ys zs) ≡ Less) (sym same) before) (between xs ys zs)
  where
    parts : (nat_eq x z ≡ true) × (starts_with nat_eq zs xs ≡ true)
    parts = and_parts (nat_eq x z) (starts_with nat_eq zs xs) begins

    same : x ≡ z
    same = eqb-true x z parts.0

    by : (o : Ordering) → nat_cmp x y ≡ o → is_le (ordering_then o (path_cmp xs ys)) ≡ true → ordering_then (nat_cmp y x) (path_cmp ys zs) ≡ Less → (is_le (path_cmp xs ys) ≡ true → path_cmp ys zs ≡ Less → starts_with nat_eq zs xs ≡ true → starts_with nat_eq ys xs ≡ true) → starts_with nat_eq (y ∷ ys) (x ∷ xs) ≡ true
    by Less o from before later = let never : Greater ≡ Less = subst (λ r. ordering_then r (path_cmp ys zs) ≡ Less) (greater x y o) before in cc
    by Equal o from before later =
        let alike : x ≡ y = nat_cmp-IsAntisymmetric x y o in
        let tied : nat_cmp y x ≡ Equal = subst (λ k. nat_cmp k x ≡ Equal) alike (tied_itself nat_cmp_total x) in
        and_from (nat_eq x y) (starts_with nat_eq ys xs) ((Decides-eqb x y).1 alike) (later from (subst (λ r. ordering_then r (path_cmp ys zs) ≡ Less) tied before) parts.1)
    by Greater o from before later = cc

le_longer : (xs rest : List ℕ) → path_cmp xs (xs ++ rest) ≡ Greater → ⊥
le_longer [] [] e = cc
le_longer [] (y ∷ rest) e = cc
le_longer (x ∷ xs) rest e = le_longer xs rest (subst (λ o. ordering_then o (path_cmp xs (xs ++ rest)) ≡ Greater) (tied_itself nat_cmp_total x) e)

-- what stands before some bytes doesn't begin with them
not_front : (front a : List ℕ) → path_cmp front a ≡ Greater → starts_with nat_eq a front ≡ false
not_front front a e = by (starts_with nat_eq a front) refl
  where
    by : (b : Bool) → starts_with nat_eq a front ≡ b → b ≡ false
    by true begins =
        let whole : a ≡ front ++ drop (length front) a = (starts_is Decides-eqb a front (starts_with nat_eq a front) refl).0 begins in
        absurd (le_longer front (drop (length front) a) (subst (λ l. path_cmp front l ≡ Greater) whole e))
    by false begins = refl

abbrev pub Files : Type 0
Files = List (List ℕ × List ℕ)

abbrev pub fronted : List ℕ → Files → Bool
fronted front es = list_any (λ f. starts_with nat_eq f.0 front) es

abbrev pub from : List ℕ → Files → Files
from front es = entries_between path_cmp (Included front) Unbounded es

none_behind : (front a : List ℕ) (es : List (List ℕ × List ℕ)) → is_le (path_cmp front a) ≡ true → starts_with nat_eq a front ≡ false → AllByRecursion (λ k. path_cmp a k ≡ Less) (keys_of es) → fronted front es ≡ false
none_behind front a [] is_from other before = refl
none_behind front a (e ∷ es) is_from other before = by (starts_with nat_eq e.0 front) refl (none_behind front a es is_from other before.1)
  where
    by : (b : Bool) → starts_with nat_eq e.0 front ≡ b → fronted front es ≡ false → (b || fronted front es) ≡ false
    by true begins later = let never : false ≡ true = sym other ∙ between front a e.0 is_from before.0 begins in cc
    by false begins later = later

pub front_none : (front : List ℕ) (es : List (List ℕ × List ℕ)) → from front es ≡ [] → fronted front es ≡ false
front_none front [] none = refl
front_none front (e ∷ es) none = by (path_cmp front e.0) refl none (front_none front es)
  where
    by : (o : Ordering) → path_cmp front e.0 ≡ o → cond (is_le o && true) (e ∷ from front es) (from front es) ≡ [] → (from front es ≡ [] → fronted front es ≡ false) → (starts_with nat_eq e.0 front || fronted front es) ≡ false
    by Less o none later = cc
    by Equal o none later = cc
    by Greater o none later = rw (not_front front e.0 o) (later none)

pub front_first : (front : List ℕ) (es : List (List ℕ × List ℕ)) (first : List ℕ × List ℕ) (more : List (List ℕ × List ℕ)) → IsStrictlySortedBy path_cmp (keys_of es) → from front es ≡ first ∷ more → fronted front es ≡ starts_with nat_eq first.0 front
front_first front [] first more sorted is = cc
front_first front (e ∷ es) first more sorted is = by (path_cmp front e.0) refl is (front_first front es first more (sorted_tail path_cmp e.0 (keys_of es) sorted))
  where
    here : (b : Bool) → starts_with nat_eq e.0 front ≡ b → is_le (path_cmp front e.0) ≡ true → (b || fronted front es) ≡ b
    here true begins is_from = refl
    here false begins is_from = none_behind front e.0 es is_from begins (sorted_head path_cmp e.0 (keys_of es) sorted)

    at_first : e ∷ from front es ≡ first ∷ more → is_le (path_cmp front e.0) ≡ true → (starts_with nat_eq e.0 front || fronted front es) ≡ starts_with nat_eq first.0 front
    at_first is is_from =
        let same : e ≡ first = cc in here (starts_with nat_eq e.0 front) refl is_from ∙ ap (λ f. starts_with nat_eq f.0 front) same

    by : (o : Ordering) → path_cmp front e.0 ≡ o → cond (is_le o && true) (e ∷ from front es) (from front es) ≡ first ∷ more → (from front es ≡ first ∷ more → fronted front es ≡ starts_with nat_eq first.0 front) → (starts_with nat_eq e.0 front || fronted front es) ≡ starts_with nat_eq first.0 front
    by Less o is later = at_first is (ap is_le o)
    by Equal o is later = at_first is (ap is_le o)
    by Greater o is later = rw (not_front front e.0 o) (later is)
