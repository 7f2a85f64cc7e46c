use Rattle.std.proofs.Common.{◌+◌, ◌++◌, drop, reverse, sym, ap, ◌∙◌, arith}
use Rattle.class_verify.specs.Frames.{all_slots}
use Rattle.class_verify.proofs.Slots.{pile_step}
use Rattle.class_verify.proofs.stack.Stack.push_types.Goals as goal

pub loop-t-preserved : goal.loop-t-preserved
loop-t-preserved c =
    ap (λ s. reverse (all_slots (drop (c.loop-t.t-index + 1) c.args.types.now)) ++ s) c.in_ok-push_type.ensures
    ∙ sym (pile_step c.args.types.now c.loop-t.t-index _ c.loop-t.self (omega arith)) ∙ c.loop-t.invariant
