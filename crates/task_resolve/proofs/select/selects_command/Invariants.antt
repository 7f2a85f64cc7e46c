use Rattle.std.proofs.Common.{◌≡◌, drop}
use Rattle.task_resolve.specs.Selected.{is_selected_command, selects_command}
use Rattle.std.specs.List.{list_any}
use Rattle.task_resolve.proofs.select.selects_command.Given as goal

abbrev pub invariant-loop-task : goal.invariant-loop-task
invariant-loop-task l = list_any (is_selected_command l.selector) (drop l.task-index l.tasks) ≡ selects_command l.selector l.tasks
