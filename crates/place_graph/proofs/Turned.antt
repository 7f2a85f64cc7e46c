-- Edges are turned.
use Rattle.std.proofs.Common.{◌≡◌, ℕ, zero, suc, ◌+◌, ◌<◌, ◌≤◌, ◌⊎◌, Bool, true, false, ◌||◌, List, [], ◌∷◌, ◌++◌, length, get_or, set, take, drop, replicate, eqb, refl, sym, ◌∙◌, ap, subst, arith, get_or-set_same, get_or-set_other, length-set, inl, inr}
use Rattle.std.specs.List.{All}
use Rattle.std.proofs.lemmas.Bool.{cases_eq, cases_lt, eq-eqb, eqb-true, or_cases}
use Rattle.std.proofs.lemmas.List.{get_or_past, get_or-replicate, length-replicate, take-append-le}
use Rattle.std.proofs.Math.Seq.{take-length}
use Rattle.std.proofs.lemmas.List.Elements.{All-push, All-set, All-nil}
use Rattle.place_graph.specs.Graphs.{edges_of, is_among, AreWithin, IsGraph, Reaches, edge, further}
use Rattle.place_graph.specs.Searches.{IsReached, IsReaching}
use Rattle.place_graph.specs.Turning.{AddsEdges, IsTurned}
use Rattle.place_graph.proofs.Marks.{is_among-append, or_true, or_false}
use Rattle.place_graph.proofs.Settled.{edges_within}
use Rattle.place_graph.proofs.Searched.{reaches_then, among_within}

pub edge_added : (old : List (List ℕ)) (from to : ℕ) → from < length old → AddsEdges old to (from ∷ []) (set old from (edges_of old from ++ to ∷ []))
edge_added old from to within = record {
  rows = length-set old from (edges_of old from ++ to ∷ []);
  keeps = λ x y t. keeps x y (cases_eq y from) t;
  adds = λ y h t. adds y (eqb-true from y (sym (or_false (eqb from y)) ∙ t));
  only = λ x y t. only x y (cases_eq y from) t;
  within = λ n h all. All-set (AreWithin n) old from (edges_of old from ++ to ∷ []) (All-push (λ p. p < n) (edges_of old from) to (edges_within n old from all) h) all;
}
  where
    new : List (List ℕ)
    new = set old from (edges_of old from ++ to ∷ [])

    here : edges_of new from ≡ edges_of old from ++ to ∷ []
    here = get_or-set_same old from (edges_of old from ++ to ∷ []) [] within

    other : (y : ℕ) → (y ≡ from → ⊥) → edges_of new y ≡ edges_of old y
    other y n = get_or-set_other old from y (edges_of old from ++ to ∷ []) [] n

    split : (x : ℕ) → is_among x (edges_of new from) ≡ (is_among x (edges_of old from) || is_among x (to ∷ []))
    split x = ap (is_among x) here ∙ is_among-append x (edges_of old from) (to ∷ [])

    keeps : (x y : ℕ) → (y ≡ from) ⊎ (y ≡ from → ⊥) → is_among x (edges_of old y) ≡ true → is_among x (edges_of new y) ≡ true
    keeps x y (inl e) t =
        let u : is_among x (edges_of old from) ≡ true = subst (λ (z : ℕ). is_among x (edges_of old z) ≡ true) e t in
        subst (λ (z : ℕ). is_among x (edges_of new z) ≡ true) (sym e) (split x ∙ rw u refl)
    keeps x y (inr n) t = ap (is_among x) (other y n) ∙ t

    adds : (y : ℕ) → from ≡ y → is_among to (edges_of new y) ≡ true
    adds y e = subst (λ (z : ℕ). is_among to (edges_of new z) ≡ true) e (split to ∙ rw (eq-eqb to to refl) (or_true (is_among to (edges_of old from))))

    only : (x y : ℕ) → (y ≡ from) ⊎ (y ≡ from → ⊥) → is_among x (edges_of new y) ≡ true → (is_among x (edges_of old y) ≡ true) ⊎ ((x ≡ to) × (is_among y (from ∷ []) ≡ true))
    only x y (inl e) t =
        let u : is_among x (edges_of new from) ≡ true = subst (λ (z : ℕ). is_among x (edges_of new z) ≡ true) e t in
        elim (or_cases (is_among x (edges_of old from)) (is_among x (to ∷ [])) (sym (split x) ∙ u)) [
          | inl v ↦ inl (subst (λ (z : ℕ). is_among x (edges_of old z) ≡ true) (sym e) v)
          | inr v ↦ inr (sym (eqb-true to x (sym (or_false (eqb to x)) ∙ v)), rw (eq-eqb from y (sym e)) refl)
        ]
    only x y (inr n) t = inl (sym (ap (is_among x) (other y n)) ∙ t)

pub edges_then : (a b c : List (List ℕ)) (to : ℕ) (xs ys : List ℕ) → AddsEdges a to xs b → AddsEdges b to ys c → AddsEdges a to (xs ++ ys) c
edges_then a b c to xs ys one two = record {
  rows = two.rows ∙ one.rows;
  keeps = λ x y t. two.keeps x y (one.keeps x y t);
  adds = λ y h t. elim (or_cases (is_among y xs) (is_among y ys) (sym (is_among-append y xs ys) ∙ t)) [
    | inl u ↦ two.keeps to y (one.adds y h u)
    | inr u ↦ two.adds y (omega (arith, h, one.rows)) u
  ];
  only = λ x y t. elim (two.only x y t) [
    | inl s ↦ elim (one.only x y s) [ inl u ↦ inl u | inr u ↦ inr (u.0, is_among-append y xs ys ∙ rw u.1 refl) ]
    | inr s ↦ inr (s.0, is_among-append y xs ys ∙ rw s.1 (or_true (is_among y xs)))
  ];
  within = λ n h all. two.within n h (one.within n h all);
}

pub edges_none : (a : List (List ℕ)) (to : ℕ) → AddsEdges a to [] a
edges_none a to = record {
  rows = refl;
  keeps = λ x y t. t;
  adds = λ y h t. cc;
  only = λ x y t. inl t;
  within = λ n h all. all;
}

abbrev empty : List ℕ
empty = []

no_edges : (n y : ℕ) → edges_of (replicate n []) y ≡ []
no_edges n y = elim (cases_lt y n) [
  | inl h ↦ get_or-replicate n y [] [] h
  | inr h ↦ get_or_past (replicate n []) y [] (omega (arith, h, length-replicate n empty))
]

bare_within : (m n : ℕ) → All (AreWithin m) (replicate n [])
bare_within m n i d h = rw (get_or-replicate n i [] d (omega (arith, h, length-replicate n empty))) (All-nil (λ p. p < m))

pub turned_none : (graph rows : List (List ℕ)) → rows ≡ replicate (length graph) [] → IsTurned graph 0 rows
turned_none graph rows e = rw e record {
  rows = length-replicate (length graph) [];
  each = λ x y h t. absurd (omega (arith, h));
  only = λ x y t. let no : is_among x (edges_of (replicate (length graph) []) y) ≡ false = ap (is_among x) (no_edges (length graph) y) in cc;
  within = bare_within (length graph) (length graph);
}

pub turned_more : (graph old new : List (List ℕ)) (n : ℕ) → n < length graph → AreWithin (length graph) (edges_of graph n) → IsTurned graph n old → AddsEdges old n (edges_of graph n) new
    → IsTurned graph (n + 1) new
turned_more graph old new n h edges is step = record {
  rows = step.rows ∙ is.rows;
  each = λ x y less t. each x y (cases_eq x n) less t;
  only = λ x y t. elim (step.only x y t) [
    | inl s ↦ is.only x y s
    | inr s ↦ subst (λ (z : ℕ). is_among y (edges_of graph z) ≡ true) (sym s.0) s.1
  ];
  within = step.within (length graph) h is.within;
}
  where
    each : (x y : ℕ) → (x ≡ n) ⊎ (x ≡ n → ⊥) → x < n + 1 → is_among y (edges_of graph x) ≡ true → is_among x (edges_of new y) ≡ true
    each x y (inl e) less t =
        let u : is_among y (edges_of graph n) ≡ true = subst (λ (z : ℕ). is_among y (edges_of graph z) ≡ true) e t in
        subst (λ (z : ℕ). is_among z (edges_of new y) ≡ true) (sym e) (step.adds y (omega (arith, is.rows, among_within (length graph) y (edges_of graph n) edges u)) u)
    each x y (inr other) less t = step.keeps x y (is.each x y (omega (arith, other, less)) t)

-- what is reached by turned edges leads there
back : (graph rows : List (List ℕ)) → ((x y : ℕ) → is_among x (edges_of rows y) ≡ true → is_among y (edges_of graph x) ≡ true) → (a b : ℕ) → Reaches rows a b → Reaches graph b a
back graph rows turn a b (edge p q t) = edge q p (turn q p t)
back graph rows turn a b (further p q r t more) = reaches_then graph r q p (back graph rows turn q r more) (turn q p t)

-- a place with an edge is a place
has_edge : (graph : List (List ℕ)) (x y : ℕ) → is_among y (edges_of graph x) ≡ true → x < length graph
has_edge graph x y t = elim (cases_lt x (length graph)) [
  | inl h ↦ h
  | inr h ↦ let no : is_among y (edges_of graph x) ≡ false = ap (is_among y) (get_or_past graph x [] h) in cc
]

pub reaching_by : (graph rows : List (List ℕ)) (to : ℕ) (marks : List Bool) → IsTurned graph (length graph) rows → IsReached rows to marks → IsReaching graph to marks
reaching_by graph rows to marks is reached = record {
  all = reached.all ∙ is.rows;
  only = λ x t. back graph rows is.only to x (reached.only x t);
  each = λ x r. reached.each x (back rows graph (λ p q t. is.each q p (has_edge graph q p t) t) x to r);
}

-- a slice of all rows, written back
pub written : (n : ℕ) (new old : List (List ℕ)) → length new ≡ n → take n (new ++ drop (length new) old) ≡ new
written n new old e = take-append-le n new (drop (length new) old) (omega (arith, e)) ∙ subst (λ (m : ℕ). take m new ≡ new) e (take-length new)

-- what one more place adds, where its edges were read as a row
pub turned_by : (graph old lent new : List (List ℕ)) (row : List ℕ) (n : ℕ) → n < length graph → IsGraph graph → row ≡ edges_of graph n → lent ≡ old → IsTurned graph n old
    → AddsEdges lent n row new → IsTurned graph (n + 1) new
turned_by graph old lent new row n h is_graph e same is step =
    turned_more graph old new n h (edges_within (length graph) graph n is_graph) is
    (subst (λ (xs : List ℕ). AddsEdges old n xs new) e (subst (λ (rows : List (List ℕ)). AddsEdges rows n row new) same step))
