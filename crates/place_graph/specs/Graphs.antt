-- Directed graphs: for each place, from 0, the places to which its edges lead, in order.
use Rattle.std.specs.Prelude.{ℕ, zero, suc, ◌<◌, ◌==◌, Bool, false, ◌||◌, List, [], ◌∷◌, ◌++◌, length, flat_map, slice_index_or, All, IsTrue, if◌then◌else◌}

abbrev pub edges_of : List (List ℕ) → ℕ → List ℕ
edges_of graph place = slice_index_or graph place []

abbrev pub is_among : ℕ → List ℕ → Bool
is_among x [] = false
is_among x (y ∷ ys) = (y == x) || is_among x ys

-- edges lead to places
abbrev pub AreWithin : ℕ → List ℕ → Type 0
AreWithin n = All (λ place. place < n)

abbrev pub IsGraph : List (List ℕ) → Type 0
IsGraph graph = All (AreWithin (length graph)) graph

-- c is reached from a by one edge or more
pub data Reaches (graph : List (List ℕ)) : ℕ → ℕ → Type 0 where
  edge : (a b : ℕ) → IsTrue (is_among b (edges_of graph a)) → Reaches graph a b
  further : (a b c : ℕ) → IsTrue (is_among b (edges_of graph a)) → Reaches graph b c → Reaches graph a c

-- depth first: a place, then in the same way each place to which its edges lead
unfoldable pub walk : ℕ → List (List ℕ) → ℕ → List ℕ
walk zero graph place = []
walk (suc depth) graph place = place ∷ flat_map (walk depth graph) (edges_of graph place)

-- with a place at its end that isn't there yet
abbrev pub with_place : List ℕ → ℕ → List ℕ
with_place found x = if is_among x found then found else found ++ x ∷ []

abbrev pub with_places : List ℕ → List ℕ → List ℕ
with_places found [] = found
with_places found (x ∷ xs) = with_places (with_place found x) xs

-- each place once, where it first comes
abbrev pub once : List ℕ → List ℕ
once places = with_places [] places

-- What the edges of a place lead to, depth first, each place once. Where no path returns, no path has more edges
-- than there are places.
unfoldable pub beyond : List (List ℕ) → ℕ → List ℕ
beyond graph place = once (flat_map (walk (length graph) graph) (edges_of graph place))
