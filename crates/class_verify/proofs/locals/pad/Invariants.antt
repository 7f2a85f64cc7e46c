use Rattle.std.proofs.Common.{◌≡◌, ◌-◌, length}
use Rattle.class_verify.specs.Padding.{padded}
use Rattle.class_verify.proofs.locals.pad.Given as goal

abbrev pub invariant-loop-slots : goal.invariant-loop-slots
invariant-loop-slots l = padded l.count l.slots ≡ padded l.count l.fn.slots

abbrev pub decreases-loop-slots : goal.decreases-loop-slots
decreases-loop-slots l = l.count - length l.slots
