-- Post-order over a graph in which paths end: what the edges of a place lead to comes before the place.
use Rattle.std.specs.Prelude.{ℕ, zero, suc, List, [], ◌∷◌, ◌++◌, length, flat_map, IsTrue}
use Rattle.place_graph.specs.Graphs.{edges_of, is_among, with_places, once}

-- no path from a place has more than so many places
abbrev pub EndsWithin : List (List ℕ) → ℕ → ℕ → Type 0
EndsWithin graph zero place = ⊥
EndsWithin graph (suc depth) place = (next : ℕ) → IsTrue (is_among next (edges_of graph place)) → EndsWithin graph depth next

abbrev pub AllEndWithin : List (List ℕ) → ℕ → List ℕ → Type 0
AllEndWithin graph depth places = (x : ℕ) → IsTrue (is_among x places) → EndsWithin graph depth x

-- With a place that was found, the places to which its edges lead were found.
abbrev pub IsClosedUnder : List (List ℕ) → List ℕ → Type 0
IsClosedUnder graph found =
    (x next : ℕ) → IsTrue (is_among x found) → IsTrue (is_among next (edges_of graph x)) → IsTrue (is_among next found)

-- the places to which the edges of a place lead, each after those to which its own lead, and then the place
unfoldable pub late_walk : ℕ → List (List ℕ) → ℕ → List ℕ
late_walk zero graph place = []
late_walk (suc depth) graph place = flat_map (late_walk depth graph) (edges_of graph place) ++ place ∷ []

abbrev pub late_walks : ℕ → List (List ℕ) → List ℕ → List ℕ
late_walks depth graph places = flat_map (late_walk depth graph) places

-- what was found with what a walk, or walks one after another, come to, each place where it first comes
abbrev pub with_walk : ℕ → List (List ℕ) → List ℕ → ℕ → List ℕ
with_walk depth graph found place = with_places found (late_walk depth graph place)

abbrev pub with_walks : ℕ → List (List ℕ) → List ℕ → List ℕ → List ℕ
with_walks depth graph found places = with_places found (late_walks depth graph places)

-- The post-order from places, each place where it first comes. Where no path returns, no path has more places than there
-- are.
unfoldable pub post_order : List (List ℕ) → List ℕ → List ℕ
post_order graph places = once (late_walks (length graph) graph places)
