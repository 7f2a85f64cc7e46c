use Rattle.std.proofs.Common.{take}
use Rattle.std.specs.Prelude.{All}
use Rattle.class_verify.specs.Verified.{MethodFits}
use Rattle.class_verify.proofs.verification.verify_methods.Given as goal

abbrev pub invariant-loop-method : goal.invariant-loop-method
invariant-loop-method l = All (MethodFits l.class) (take l.method-index l.methods)
