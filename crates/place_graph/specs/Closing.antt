-- How what is beyond each place becomes known, place by place.
use Rattle.std.specs.Prelude.{◌≡◌, ℕ, ◌<◌, ◌≤◌, ◌==◌, nat_lt, List, [], ◌∷◌, length, count_by, slice_index, All, IsTrue}
use Rattle.place_graph.specs.Graphs.{edges_of, is_among, AreWithin, Reaches, with_place, with_places, beyond}

-- The places that are marked with the round are those that are found; all marks are of this round or an earlier one.
pub record IsMarking (marks : List ℕ) (round : ℕ) (found : List ℕ) : Type 0 where
  pub marked : (x : ℕ) → x < length marks → (slice_index marks x == round) ≡ is_among x found
  pub earlier : (x : ℕ) → slice_index marks x ≤ round

-- each place, and after it what is beyond it
abbrev pub gathered : List (List ℕ) → List ℕ → List ℕ → List ℕ
gathered above found [] = found
gathered above found (x ∷ xs) = gathered above (with_places (with_place found x) (edges_of above x)) xs

-- Whatever is reached from a place that is found is found.
abbrev pub IsFull : List (List ℕ) → List ℕ → Type 0
IsFull graph found = (y z : ℕ) → IsTrue (is_among y found) → Reaches graph y z → IsTrue (is_among z found)

-- What is listed for a place is all that is reached from it.
pub record IsListed (graph above : List (List ℕ)) (place : ℕ) : Type 0 where
  pub only : (z : ℕ) → IsTrue (is_among z (edges_of above place)) → Reaches graph place z
  pub each : (z : ℕ) → Reaches graph place z → IsTrue (is_among z (edges_of above place))

-- A place is known once it has a rank, from 1: its edges lead to places of lesser ranks.
pub record IsKnown (graph above : List (List ℕ)) (ranks : List ℕ) (known place : ℕ) : Type 0 where
  pub ranked : (next : ℕ) → IsTrue (is_among next (edges_of graph place)) → 0 < slice_index ranks next
  pub lower : (next : ℕ) → IsTrue (is_among next (edges_of graph place)) → slice_index ranks next < slice_index ranks place
  pub small : slice_index ranks place ≤ known
  pub beyond : edges_of above place ≡ beyond graph place

-- so many places are known
pub record IsClosing (graph above : List (List ℕ)) (ranks : List ℕ) (known : ℕ) : Type 0 where
  pub rows : length above ≡ length graph
  pub ranked : length ranks ≡ length graph
  pub count : count_by (λ rank. nat_lt 0 rank) ranks ≡ known
  pub each : (place : ℕ) → 0 < slice_index ranks place → IsKnown graph above ranks known place
  pub within : All (AreWithin (length graph)) above

-- an edge leads to a place that isn't known
abbrev pub IsWaiting : List (List ℕ) → List ℕ → ℕ → Type 0
IsWaiting graph ranks place =
    (next : ℕ) × IsTrue (is_among next (edges_of graph place)) × (slice_index ranks next ≡ 0)

-- No further place can become known: each that isn't known waits.
abbrev pub AllWait : List (List ℕ) → List ℕ → ℕ → Type 0
AllWait graph ranks n = (place : ℕ) → place < n → slice_index ranks place ≡ 0 → IsWaiting graph ranks place

-- marks for each of n places, from before the next round
pub record IsFresh (n : ℕ) (marks : List ℕ) (round : ℕ) : Type 0 where
  pub all : length marks ≡ n
  pub earlier : (x : ℕ) → slice_index marks x ≤ round

-- No rank changes, and the place waits unless it is known.
pub record StaysAt (graph : List (List ℕ)) (old new : List ℕ) (place : ℕ) : Type 0 where
  pub unchanged : new ≡ old
  pub waits : slice_index old place ≡ 0 → IsWaiting graph old place
