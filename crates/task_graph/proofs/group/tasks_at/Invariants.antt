use Rattle.std.proofs.Common.{◌≡◌, take}
use Rattle.task_graph.specs.TaskGraphs.{places}
use Rattle.task_graph.proofs.group.tasks_at.Given as goal

abbrev pub invariant-loop-task : goal.invariant-loop-task
invariant-loop-task l = places l.ids.items ≡ take l.task-index l.tasks
