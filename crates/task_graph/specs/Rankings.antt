-- Ranks of the places of a graph, which fall along its edges.
use Rattle.std.specs.Prelude.{◌≡◌, ℕ, ◌<◌, ◌≤◌, List, length, slice_index, IsTrue}
use Rattle.place_graph.specs.Graphs.{edges_of, is_among}

-- A place has a rank from 1, or none, which is 0. The edges of a ranked place lead to ranked places of lesser rank, and no
-- rank is above so much.
pub record IsRankedTo (graph : List (List ℕ)) (ranks : List ℕ) (most : ℕ) : Type 0 where
  pub all : length ranks ≡ length graph
  pub small : (place : ℕ) → slice_index ranks place ≤ most
  pub ranked : (place next : ℕ) → 0 < slice_index ranks place → IsTrue (is_among next (edges_of graph place)) → 0 < slice_index ranks next
  pub lower : (place next : ℕ) → 0 < slice_index ranks place → IsTrue (is_among next (edges_of graph place)) → slice_index ranks next < slice_index ranks place

abbrev pub AllRanked : List ℕ → List ℕ → Type 0
AllRanked ranks places = (x : ℕ) → IsTrue (is_among x places) → 0 < slice_index ranks x

abbrev pub EachIsRanked : List ℕ → Type 0
EachIsRanked ranks = (place : ℕ) → place < length ranks → 0 < slice_index ranks place
