use Rattle.std.proofs.Common.{◌≡◌, drop}
use Rattle.task_resolve.specs.Chosen.{first_selecting}
use Rattle.task_resolve.proofs.choose.first_selecting.Given as goal

abbrev pub invariant-loop-selector : goal.invariant-loop-selector
invariant-loop-selector l = first_selecting (drop l.selector-index l.selectors) l.task ≡ first_selecting l.selectors l.task
