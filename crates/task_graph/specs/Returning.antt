-- The least place from which a path returns.
use Rattle.std.specs.Prelude.{ℕ, ◌<◌, ◌≤◌, List, length, Option, Some, None}
use Rattle.place_graph.specs.Graphs.{Reaches}

pub record IsLeastReturning (graph : List (List ℕ)) (place : ℕ) : Type 0 where
  pub within : place < length graph
  pub returns : Reaches graph place place
  pub least : (other : ℕ) → Reaches graph other other → place ≤ other

abbrev pub NoneReturns : List (List ℕ) → Type 0
NoneReturns graph = (place : ℕ) → Reaches graph place place → ⊥

-- the least one, if there is any
abbrev pub IsFoundReturning : List (List ℕ) → Option ℕ → Type 0
IsFoundReturning graph None = NoneReturns graph
IsFoundReturning graph (Some place) = IsLeastReturning graph place
