use Rattle.std.proofs.Common.{◌≡◌, take}
use Rattle.std.specs.List.{filter}
use Rattle.task_graph.specs.TaskGraphs.{places, is_anonymous}
use Rattle.task_graph.proofs.edges.anonymous_of.Given as goal

abbrev pub invariant-loop-id : goal.invariant-loop-id
invariant-loop-id l = l.found ≡ filter (is_anonymous l.rows) (places (take l.id-index l.ids))
