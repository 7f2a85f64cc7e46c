-- Walks that are added to what was found.
use Rattle.std.proofs.Common.{◌≡◌, ℕ, zero, suc, ◌+◌, ◌-◌, ◌<◌, ◌⊎◌, true, List, [], ◌∷◌, length, eqb, flat_map, refl, sym, ◌∙◌, ap, subst, arith, inl, inr, take, get_or, append-nil}
use Rattle.std.proofs.lemmas.Bool.{eq-eqb, eqb-true, or_cases}
use Rattle.place_graph.specs.Graphs.{edges_of, is_among, with_place, with_places}
use Rattle.place_graph.proofs.Marks.{or_true, or_false, is_among-append}
use Rattle.place_graph.proofs.Walks.{with_places-append, is_among-with_place, is_among-with_places, from_flat_map, among_flat_map}
use Rattle.task_graph.specs.PostOrders.{EndsWithin, AllEndWithin, IsClosedUnder, late_walk, late_walks, post_order}

pub with_places_same : (found ys : List ℕ) → ((z : ℕ) → is_among z ys ≡ true → is_among z found ≡ true) → with_places found ys ≡ found
with_places_same found [] h = refl
with_places_same found (y ∷ ys) h =
    let here : is_among y found ≡ true = h y (rw (eq-eqb y y refl) refl) in
    rw here (with_places_same found ys (λ z t. h z (rw t (or_true (eqb y z)))))

-- what a walk from a place that was found comes to was found
pub walk_found : (graph : List (List ℕ)) (found : List ℕ) → IsClosedUnder graph found → (depth x y : ℕ) → is_among x found ≡ true → is_among y (late_walk depth graph x) ≡ true
    → is_among y found ≡ true
unfolding late_walk
walk_found graph found closed zero x y t u = cc
walk_found graph found closed (suc depth) x y t u =
    elim (or_cases (is_among y (flat_map (late_walk depth graph) (edges_of graph x))) (is_among y (x ∷ [])) (sym (is_among-append y (flat_map (late_walk depth graph) (edges_of graph x)) (x ∷ [])) ∙ u)) [
      | inl e ↦
          let from = from_flat_map (late_walk depth graph) y (edges_of graph x) e in
          walk_found graph found closed depth from.0 y (closed x from.0 t from.1) from.2
      | inr e ↦
          let same : x ≡ y = eqb-true x y (sym (or_false (eqb x y)) ∙ e) in
          subst (λ (z : ℕ). is_among z found ≡ true) same t
    ]

-- nothing is new beyond a place that was found
pub walked_before : (graph : List (List ℕ)) (found : List ℕ) → IsClosedUnder graph found → (depth x : ℕ) → is_among x found ≡ true → with_places found (late_walk depth graph x) ≡ found
walked_before graph found closed depth x t = with_places_same found (late_walk depth graph x) (λ y u. walk_found graph found closed depth x y t u)

-- after what its edges lead to, the place itself
pub walk_added : (graph : List (List ℕ)) (depth place : ℕ) (found row : List ℕ) → 0 < depth → row ≡ edges_of graph place
    → with_place (with_places found (late_walks (depth - 1) graph row)) place ≡ with_places found (late_walk depth graph place)
unfolding late_walk
walk_added graph zero place found row h e = absurd (omega arith)
walk_added graph (suc depth) place found row h e =
    let less : suc depth - 1 ≡ depth = omega arith in
    rw (less, e) (sym (with_places-append found (flat_map (late_walk depth graph) (edges_of graph place)) (place ∷ [])))

pub walk_has_itself : (graph : List (List ℕ)) (depth place : ℕ) → EndsWithin graph depth place → is_among place (late_walk depth graph place) ≡ true
unfolding late_walk
walk_has_itself graph zero place ends = absurd ends
walk_has_itself graph (suc depth) place ends =
    is_among-append place (flat_map (late_walk depth graph) (edges_of graph place)) (place ∷ [])
    ∙ rw (eq-eqb place place refl) (or_true (is_among place (flat_map (late_walk depth graph) (edges_of graph place))))

pub some_depth : (graph : List (List ℕ)) (depth place : ℕ) → EndsWithin graph depth place → 0 < depth
some_depth graph zero place ends = absurd ends
some_depth graph (suc depth) place ends = omega arith

pub ends_next : (graph : List (List ℕ)) (depth place : ℕ) → EndsWithin graph depth place → AllEndWithin graph (depth - 1) (edges_of graph place)
ends_next graph zero place ends = absurd ends
ends_next graph (suc depth) place ends = let less : suc depth - 1 ≡ depth = omega arith in rw less ends

-- With what its edges lead to, a place may be added.
pub closed_added : (graph : List (List ℕ)) (depth place : ℕ) (found row : List ℕ) → EndsWithin graph depth place → row ≡ edges_of graph place
    → IsClosedUnder graph (with_places found (late_walks (depth - 1) graph row))
    → IsClosedUnder graph (with_place (with_places found (late_walks (depth - 1) graph row)) place)
closed_added graph depth place found row ends e closed x next t u =
    let before : List ℕ = with_places found (late_walks (depth - 1) graph row) in
    is_among-with_place next before place ∙ rw (there (or_cases (is_among x before) (eqb place x) (sym (is_among-with_place x before place) ∙ t))) refl
  where
    there : (is_among x (with_places found (late_walks (depth - 1) graph row)) ≡ true) ⊎ (eqb place x ≡ true) → is_among next (with_places found (late_walks (depth - 1) graph row)) ≡ true
    there (inl a) = closed x next a u
    there (inr a) =
        let same : place ≡ x = eqb-true place x a in
        let edge : is_among next (edges_of graph place) ≡ true = subst (λ (z : ℕ). is_among next (edges_of graph z) ≡ true) (sym same) u in
        let walked : is_among next (late_walks (depth - 1) graph row) ≡ true =
        rw e (among_flat_map (late_walk (depth - 1) graph) next next (edges_of graph place) edge (walk_has_itself graph (depth - 1) next (ends_next graph depth place ends next edge))) in
        is_among-with_places next found (late_walks (depth - 1) graph row) ∙ rw walked (or_true (is_among next found))

-- one more place of a list is walked from
pub walks_more : (graph : List (List ℕ)) (depth : ℕ) (found places : List ℕ) (i : ℕ) → i < length places
    → with_places (with_places found (late_walks depth graph (take i places))) (late_walk depth graph (get_or places i 0)) ≡ with_places found (late_walks depth graph (take (i + 1) places))
walks_more graph depth found [] i h = absurd (omega arith)
walks_more graph depth found (p ∷ places) zero h =
    ap (λ xs. with_places found xs) (sym (append-nil (late_walk depth graph p)))
walks_more graph depth found (p ∷ places) (suc i) h =
    let e : suc i + 1 ≡ suc (i + 1) = omega arith in
    rw e (ap (λ b. with_places b (late_walk depth graph (get_or places i 0))) (with_places-append found (late_walk depth graph p) (late_walks depth graph (take i places)))
    ∙ walks_more graph depth (with_places found (late_walk depth graph p)) places i (omega arith)
    ∙ sym (with_places-append found (late_walk depth graph p) (late_walks depth graph (take (i + 1) places))))

pub post_order_is : (graph : List (List ℕ)) (places : List ℕ) → post_order graph places ≡ with_places [] (late_walks (length graph) graph places)
unfolding post_order
post_order_is graph places = refl
