use Rattle.std.proofs.Common.{◌≡◌, take}
use Rattle.task_graph.specs.TaskGraphs.{edges}
use Rattle.task_graph.proofs.edges.edges_of.Given as goal

abbrev pub invariant-loop-row : goal.invariant-loop-row
invariant-loop-row l = l.found ≡ edges (take l.row-index l.rows)
