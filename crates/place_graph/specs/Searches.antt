-- Searching a graph by marks.
use Rattle.std.specs.Prelude.{◌≡◌, ℕ, ◌+◌, ◌<◌, Bool, true, false, not, ◌||◌, List, length, count_by, slice_index_or, ◌⊎◌}
use Rattle.place_graph.specs.Graphs.{is_among, Reaches}

abbrev pub is_marked : List Bool → ℕ → Bool
is_marked marks x = slice_index_or marks x false

-- From the marks and the list of what is to be looked at, to those after these places were marked
pub record MarksAll (old : List Bool) (queue_old places : List ℕ) (new : List Bool) (queue_new : List ℕ) : Type 0 where
  pub marks : (x : ℕ) → x < length old → is_marked new x ≡ (is_marked old x || is_among x places)
  pub covers : (x : ℕ) → is_marked new x ≡ true → (is_marked old x ≡ true) ⊎ (is_among x queue_new ≡ true)
  pub keeps : (x : ℕ) → is_among x queue_old ≡ true → is_among x queue_new ≡ true
  pub from : (x : ℕ) → is_among x queue_new ≡ true → (is_among x queue_old ≡ true) ⊎ (is_marked new x ≡ true)
  pub work : count_by not new + length queue_new ≡ count_by not old + length queue_old

-- The marked places are those that are reached from a place.
pub record IsReached (graph : List (List ℕ)) (from : ℕ) (marks : List Bool) : Type 0 where
  pub all : length marks ≡ length graph
  pub only : (x : ℕ) → is_marked marks x ≡ true → Reaches graph from x
  pub each : (x : ℕ) → Reaches graph from x → is_marked marks x ≡ true

-- The marked places are those from which a place is reached.
pub record IsReaching (graph : List (List ℕ)) (to : ℕ) (marks : List Bool) : Type 0 where
  pub all : length marks ≡ length graph
  pub only : (x : ℕ) → is_marked marks x ≡ true → Reaches graph x to
  pub each : (x : ℕ) → Reaches graph x to → is_marked marks x ≡ true

-- Of the first n places those are marked that are reached from themselves.
pub record AreReturning (graph : List (List ℕ)) (n : ℕ) (marks : List Bool) : Type 0 where
  pub all : length marks ≡ n
  pub only : (x : ℕ) → is_marked marks x ≡ true → Reaches graph x x
  pub each : (x : ℕ) → x < n → Reaches graph x x → is_marked marks x ≡ true

-- what is reached from each of the first n places is known
abbrev pub AreSearched : List (List ℕ) → ℕ → Type 0
AreSearched graph n = (from : ℕ) → from < n → (marks : List Bool) × IsReached graph from marks
