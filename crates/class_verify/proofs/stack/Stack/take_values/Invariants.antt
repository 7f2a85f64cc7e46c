use Rattle.std.proofs.Common.{◌≡◌, drop, reverse}
use Rattle.class_verify.specs.Stacks.{below_values}
use Rattle.class_verify.proofs.stack.Stack.take_values.Given as goal

abbrev pub invariant-loop-at : goal.invariant-loop-at
invariant-loop-at l = below_values (drop l.at (reverse l.kinds)) l.self ≡ below_values (reverse l.kinds) l.fn.self
