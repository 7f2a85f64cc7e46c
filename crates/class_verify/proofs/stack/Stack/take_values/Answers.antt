use Rattle.std.proofs.Common.{◌+◌, drop, reverse, sym, ap, ◌∙◌, arith}
use Rattle.std.specs.Prelude.{option_and_then}
use Rattle.class_verify.specs.Stacks.{below_values}
use Rattle.class_verify.proofs.Stacking.{take_step}
use Rattle.class_verify.proofs.stack.Stack.take_values.Goals as goal

pub returns-then-not-take_value : goal.returns-then-not-take_value
returns-then-not-take_value c =
    sym c.loop-at.invariant ∙ take_step c.args.kinds.now c.loop-at.at _ c.loop-at.self (omega arith)
    ∙ ap (option_and_then (below_values (drop (c.loop-at.at + 1) (reverse c.args.kinds.now)))) c.if-not-take_value.ensures

pub loop-at-preserved : goal.loop-at-preserved
loop-at-preserved c =
    sym (ap (option_and_then (below_values (drop (c.loop-at.at + 1) (reverse c.args.kinds.now)))) c.if-not-take_value.ensures)
    ∙ sym (take_step c.args.kinds.now c.loop-at.at _ c.loop-at.self (omega arith)) ∙ c.loop-at.invariant
