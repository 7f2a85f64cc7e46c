use Rattle.std.proofs.Common.{◌≡◌, length}
use Rattle.class_code.specs.Sites.{are_arguments}
use Rattle.class_code.proofs.lambdas.are_arguments.Given as goal

abbrev pub invariant-loop-value : goal.invariant-loop-value
invariant-loop-value l = are_arguments l.fn.values l.fn.kinds ≡ are_arguments l.values l.kinds

abbrev pub decreases-loop-value : goal.decreases-loop-value
decreases-loop-value l = length l.values
