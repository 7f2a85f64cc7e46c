-- What a refusal of drawn tasks says of them.
use Rattle.std.specs.Prelude.{◌≡◌, ℕ, List}
use Rattle.task_model.specs.declared.task_row.TaskRow.{TaskRow}
use Rattle.task_graph.specs.declared.fault.GraphFault.{GraphFault}
use Rattle.task_graph.specs.declared.fault.GraphFault.TheVariants.{Cycle, Memory}
use Rattle.task_graph.specs.TaskGraphs.{edges, name_at}
use Rattle.task_graph.specs.Returning.{IsLeastReturning}

-- the least name of a task whose inputs lead back to it; names are in the order of places
abbrev pub IsCycleFault : List TaskRow → GraphFault → Type 0
IsCycleFault rows (Cycle name) = (place : ℕ) × IsLeastReturning (edges rows) place × (name ≡ name_at rows place)
IsCycleFault rows Memory = Unit {0}
IsCycleFault rows _ = ⊥
