use Rattle.std.proofs.Common.{◌≡◌, ◌++◌, drop}
use Rattle.task_resolve.specs.Selected.{selected, selected_from}
use Rattle.task_resolve.proofs.select.selected.Given as goal

abbrev pub invariant-loop-place : goal.invariant-loop-place
invariant-loop-place l = l.found.items ++ selected_from l.selector l.place (drop l.place l.tasks) ≡ selected l.selector l.tasks
