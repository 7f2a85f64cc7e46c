use Rattle.std.proofs.Common.{◌≡◌, take}
use Rattle.std.specs.List.{filter}
use Rattle.task_graph.specs.TaskGraphs.{places}
use Rattle.task_graph.specs.Plans.{is_named}
use Rattle.task_graph.proofs.plans.named.Given as goal

abbrev pub invariant-loop-task : goal.invariant-loop-task
invariant-loop-task l = places l.found.items ≡ filter (is_named l.rows) (take l.task-index l.tasks)
