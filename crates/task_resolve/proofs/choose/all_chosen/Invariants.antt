use Rattle.std.proofs.Common.{◌≡◌, ◌++◌, drop}
use Rattle.task_resolve.specs.Chosen.{chosen, chosen_from}
use Rattle.task_resolve.proofs.choose.all_chosen.Given as goal

abbrev pub invariant-loop-place : goal.invariant-loop-place
invariant-loop-place l = l.found.items ++ chosen_from l.selectors l.place (drop l.place l.tasks) ≡ chosen l.selectors l.tasks
