use Rattle.std.proofs.Common.{◌≡◌}
use Rattle.task_graph.specs.Plans.{marked_places}
use Rattle.task_graph.proofs.plans.marked.Given as goal

abbrev pub invariant-loop-place : goal.invariant-loop-place
invariant-loop-place l = l.found ≡ marked_places l.marks l.place
