use Rattle.std.proofs.Common.{◌≡◌, take}
use Rattle.task_graph.specs.TaskGraphs.{places}
use Rattle.task_graph.proofs.edges.places_of.Given as goal

abbrev pub invariant-loop-id : goal.invariant-loop-id
invariant-loop-id l = l.found ≡ places (take l.id-index l.ids)
