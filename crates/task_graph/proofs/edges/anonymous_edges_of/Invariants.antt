use Rattle.std.proofs.Common.{◌≡◌, take, map}
use Rattle.std.specs.List.{filter}
use Rattle.task_graph.specs.TaskGraphs.{inputs_of, is_anonymous}
use Rattle.task_graph.proofs.edges.anonymous_edges_of.Given as goal

abbrev pub invariant-loop-row : goal.invariant-loop-row
invariant-loop-row l = l.found ≡ map (λ row. filter (is_anonymous l.rows) (inputs_of row)) (take l.row-index l.rows)
