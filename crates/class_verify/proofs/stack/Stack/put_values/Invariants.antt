use Rattle.std.proofs.Common.{◌≡◌, drop}
use Rattle.class_verify.specs.Stacks.{with_values}
use Rattle.class_verify.proofs.stack.Stack.put_values.Given as goal

abbrev pub invariant-loop-kind : goal.invariant-loop-kind
invariant-loop-kind l = with_values (drop l.kind-index l.kinds) l.self ≡ with_values l.kinds l.fn.self
