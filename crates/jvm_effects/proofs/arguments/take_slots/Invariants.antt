use Rattle.std.proofs.Common.{◌≡◌, length}
use Rattle.std.specs.Prelude.{reverse}
use Rattle.jvm_model.specs.Frames.{arguments_taken, taken_before}
use Rattle.jvm_effects.proofs.arguments.take_slots.Given as goal

abbrev pub invariant-loop-last : goal.invariant-loop-last
invariant-loop-last l =
    (arguments_taken l.kinds l.fn.operands ≡ taken_before (reverse l.rest) (reverse l.slots.items) l.operands)
    × (l.operands.limit ≡ l.fn.operands.limit)

abbrev pub decreases-loop-last : goal.decreases-loop-last
decreases-loop-last l = length l.rest
