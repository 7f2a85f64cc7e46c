use Rattle.std.proofs.Common.{◌≡◌, drop}
use Rattle.task_resolve.specs.Options.{defaults, behind_options}
use Rattle.task_resolve.proofs.options.behind_options.Given as goal

abbrev pub invariant-loop-at : goal.invariant-loop-at
invariant-loop-at l = behind_options l.settings (drop l.at l.words) ≡ behind_options defaults l.words
