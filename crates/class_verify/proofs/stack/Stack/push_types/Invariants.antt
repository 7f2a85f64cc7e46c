use Rattle.std.proofs.Common.{◌≡◌, ◌++◌, drop, reverse}
use Rattle.class_verify.specs.Frames.{all_slots}
use Rattle.class_verify.proofs.stack.Stack.push_types.Given as goal

abbrev pub invariant-loop-t : goal.invariant-loop-t
invariant-loop-t l = reverse (all_slots (drop l.t-index l.types)) ++ l.self ≡ reverse (all_slots l.types) ++ l.fn.self
