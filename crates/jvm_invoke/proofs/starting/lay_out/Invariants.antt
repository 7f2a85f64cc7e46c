use Rattle.std.proofs.Common.{◌≡◌, ◌++◌, length}
use Rattle.jvm_model.specs.Frames.{laid_out}
use Rattle.jvm_invoke.proofs.starting.lay_out.Given as goal

abbrev pub invariant-laid : goal.invariant-laid
invariant-laid l = l.fn.locals.items ++ laid_out l.arguments ≡ l.locals.items ++ laid_out l.rest

abbrev pub decreases-laid : goal.decreases-laid
decreases-laid l = length l.rest
