-- A graph with its edges turned.
use Rattle.std.specs.Prelude.{◌≡◌, ℕ, ◌<◌, true, List, length, All, ◌⊎◌}
use Rattle.place_graph.specs.Graphs.{edges_of, is_among, AreWithin}

-- from each of the places an edge to one is added
pub record AddsEdges (old : List (List ℕ)) (to : ℕ) (places : List ℕ) (new : List (List ℕ)) : Type 0 where
  pub rows : length new ≡ length old
  pub keeps : (x y : ℕ) → is_among x (edges_of old y) ≡ true → is_among x (edges_of new y) ≡ true
  pub adds : (y : ℕ) → y < length old → is_among y places ≡ true → is_among to (edges_of new y) ≡ true
  pub only : (x y : ℕ) → is_among x (edges_of new y) ≡ true → (is_among x (edges_of old y) ≡ true) ⊎ ((x ≡ to) × (is_among y places ≡ true))
  pub within : (n : ℕ) → to < n → All (AreWithin n) old → All (AreWithin n) new

-- The edges are those from the first n places, turned.
pub record IsTurned (graph : List (List ℕ)) (n : ℕ) (turned : List (List ℕ)) : Type 0 where
  pub rows : length turned ≡ length graph
  pub each : (x y : ℕ) → x < n → is_among y (edges_of graph x) ≡ true → is_among x (edges_of turned y) ≡ true
  pub only : (x y : ℕ) → is_among x (edges_of turned y) ≡ true → is_among y (edges_of graph x) ≡ true
  pub within : All (AreWithin (length graph)) turned
