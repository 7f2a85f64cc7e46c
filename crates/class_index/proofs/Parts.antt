-- The parts of an index, as its questions see them.
use Rattle.std.proofs.Common.{◌≡◌, ℕ, ◌<◌, ◌≤◌, ◌⊎◌, inl, inr, true, List, [], ◌∷◌, length, map, get_or, Option, Some, None, option_map, option_and_then, refl, sym, ◌∙◌, ap, subst, arith}
use Rattle.std.proofs.Math.Path.{fun_ext}
use Rattle.std.specs.List.{All, flat_map}
use Rattle.std.specs.Option.{IfSome}
use Rattle.std.specs.Prelude.{codes}
use Rattle.std.proofs.lemmas.Bool.{cases_lt}
use Rattle.std.proofs.lemmas.List.{get_or_past, length-map}
use Rattle.std.proofs.lemmas.List.Elements.{All-nil, All-cons, All-from_get_or}
use Rattle.jvm_tables.specs.Externals.{External, externals, external_of}
use Rattle.place_graph.specs.Graphs.{edges_of, is_among, Reaches, edge, further, AreWithin, IsGraph, walk, once, beyond}
use Rattle.place_graph.specs.Orders.{IsClosed}
use Rattle.place_graph.proofs.Marks.{among_at}
use Rattle.place_graph.proofs.Settled.{edges_within}
use Rattle.place_graph.proofs.Searched.{among_within}
use Rattle.class_index.specs.declared.outline.Outline.{Outline}
use Rattle.class_index.specs.Hierarchy.{names, place_of, super_by, supers, hierarchy}
use Rattle.class_index.specs.Lookups.{AreSupers}
use Rattle.class_index.proofs.PlaceLemmas.{hierarchy_graph, length-hierarchy, place_within}

ends_within : (graph : List (List ℕ)) (a b : ℕ) → IsGraph graph → Reaches graph a b → b < length graph
ends_within graph a b is (edge p q t) = among_within (length graph) q (edges_of graph p) (edges_within (length graph) graph p is) t
ends_within graph a b is (further p q r t more) = ends_within graph q r is more

-- what is above a class are classes
pub above_within : (all : List Outline) (above : List (List ℕ)) → IsClosed (hierarchy all) above → (place : ℕ) → AreWithin (length all) (edges_of above place)
above_within all above closed place =
    All-from_get_or (λ p. p < length all) (edges_of above place) 0 (λ i h. each i h (cases_lt place (length (hierarchy all))))
  where
    each : (i : ℕ) → i < length (edges_of above place) → (place < length (hierarchy all)) ⊎ (length (hierarchy all) ≤ place) → get_or (edges_of above place) i 0 < length all
    each i h (inl within) =
        let is : edges_of above place ≡ beyond (hierarchy all) place = closed.each place within in
        let x = get_or (edges_of above place) i 0 in
        let t : is_among x (beyond (hierarchy all) place) ≡ true = subst (λ (xs : List ℕ). is_among x xs ≡ true) is (among_at (edges_of above place) i 0 h) in
        let less : x < length (hierarchy all) = ends_within (hierarchy all) place x (hierarchy_graph all) (closed.only place x t) in
        omega (arith, less, length-hierarchy all)
    each i h (inr past) =
        let none : edges_of above place ≡ [] = get_or_past above place [] (omega (arith, past, closed.rows)) in
        let count : length (edges_of above place) ≡ 0 = ap length none in
        absurd (omega (arith, h, count))

nothing_beyond : (graph : List (List ℕ)) (place : ℕ) → length graph ≤ place → beyond graph place ≡ []
unfolding beyond
nothing_beyond graph place h = ap (λ row. once (flat_map (walk (length graph) graph) row)) (get_or_past graph place [] h)

-- the rows of the index are what is above each class
pub rows_are : (all : List Outline) (above : List (List ℕ)) → IsClosed (hierarchy all) above → edges_of above ≡ beyond (hierarchy all)
rows_are all above closed = fun_ext (λ place. at place (cases_lt place (length (hierarchy all))))
  where
    at : (place : ℕ) → (place < length (hierarchy all)) ⊎ (length (hierarchy all) ≤ place) → edges_of above place ≡ beyond (hierarchy all) place
    at place (inl within) = closed.each place within
    at place (inr past) = get_or_past above place [] (omega (arith, past, closed.rows)) ∙ sym (nothing_beyond (hierarchy all) place past)

-- superclasses are classes
pub supers_within : (all : List Outline) → AreSupers (length all) (supers all)
supers_within all = go all
  where
    one : (o : Outline) → IfSome (super_by (place_of (names all)) o) (λ p. p < length all)
    one o = by_name o.super_class
      where
        by_name : (s : Option (List ℕ)) → IfSome (option_and_then (place_of (names all)) s) (λ p. p < length all)
        by_name None = tt
        by_name (Some x) = by_place x (place_of (names all) x) refl
          where
            by_place : (x : List ℕ) (o : Option ℕ) → place_of (names all) x ≡ o → IfSome o (λ p. p < length all)
            by_place x None e = tt
            by_place x (Some p) e = place_within all x p e

    go : (os : List Outline) → All (λ (s : Option ℕ). IfSome s (λ p. p < length all)) (map (super_by (place_of (names all))) os)
    go [] = All-nil (λ (s : Option ℕ). IfSome s (λ p. p < length all))
    go (o ∷ os) = All-cons (λ (s : Option ℕ). IfSome s (λ p. p < length all)) (super_by (place_of (names all)) o) (map (super_by (place_of (names all))) os) (one o) (go os)

pub length-supers : (all : List Outline) → length (supers all) ≡ length all
length-supers all = length-map all (super_by (place_of (names all)))

pub named_within : (all : List Outline) (x : List ℕ) (o : Option ℕ) → o ≡ place_of (names all) x → IfSome o (λ p. p < length all)
named_within all x None e = tt
named_within all x (Some p) e = place_within all x p (sym e)

-- the row of Object
pub object_row : option_map (λ row. row.0) (external_of (codes "java/lang/Object")) ≡ Some 31
unfolding externals
object_row = refl

pub object_there : None ≡ external_of (codes "java/lang/Object") → ⊥
object_there e = go (external_of (codes "java/lang/Object")) e object_row
  where
    go : (o : Option (ℕ × External)) → None ≡ o → option_map (λ row. row.0) o ≡ Some 31 → ⊥
    go None e f = cc
    go (Some row) e f = cc
