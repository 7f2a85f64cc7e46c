-- The answer on a graph.
use Rattle.std.specs.Prelude.{◌≡◌, ℕ, true, List, length}
use Rattle.place_graph.specs.declared.order.Order.{Order}
use Rattle.place_graph.specs.declared.order.Order.TheVariants.{Above, Returning}
use Rattle.place_graph.specs.Orders.{IsClosed}
use Rattle.place_graph.specs.Searches.{is_marked, AreReturning}

abbrev pub IsOrder : List (List ℕ) → Order → Type 0
IsOrder graph (Above above) = IsClosed graph above
IsOrder graph (Returning marks) = AreReturning graph (length graph) marks.items × (place : ℕ) × (is_marked marks.items place ≡ true)
