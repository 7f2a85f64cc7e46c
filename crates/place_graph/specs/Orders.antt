-- What is told of a graph: what is beyond each place, or the places from which a path returns.
use Rattle.std.specs.Prelude.{◌≡◌, ℕ, ◌<◌, List, length, IsTrue}
use Rattle.place_graph.specs.Graphs.{edges_of, is_among, Reaches, beyond}

-- No path returns, and what is beyond a place is all that is reached from it.
pub record IsClosed (graph above : List (List ℕ)) : Type 0 where
  pub rows : length above ≡ length graph
  pub each : (place : ℕ) → place < length graph → edges_of above place ≡ beyond graph place
  pub only : (place x : ℕ) → IsTrue (is_among x (beyond graph place)) → Reaches graph place x
  pub reached : (place x : ℕ) → Reaches graph place x → IsTrue (is_among x (beyond graph place))
  pub ends : (place : ℕ) → Reaches graph place place → ⊥
