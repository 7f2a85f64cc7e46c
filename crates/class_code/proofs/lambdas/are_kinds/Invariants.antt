use Rattle.std.proofs.Common.{◌≡◌, length}
use Rattle.class_code.specs.Sites.{are_kinds}
use Rattle.class_code.proofs.lambdas.are_kinds.Given as goal

abbrev pub invariant-loop-kind : goal.invariant-loop-kind
invariant-loop-kind l = are_kinds l.fn.kinds l.fn.others ≡ are_kinds l.kinds l.others

abbrev pub decreases-loop-kind : goal.decreases-loop-kind
decreases-loop-kind l = length l.kinds
