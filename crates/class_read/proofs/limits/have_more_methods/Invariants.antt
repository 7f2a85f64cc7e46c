use Rattle.std.proofs.Common.{◌≡◌, ◌+◌, take}
use Rattle.std.specs.Prelude.{sum_by}
use Rattle.class_read.specs.Limits.{code_count}
use Rattle.class_read.proofs.limits.have_more_methods.Given as goal

abbrev pub invariant-loop-class : goal.invariant-loop-class
invariant-loop-class l = l.left + sum_by code_count (take l.class-index l.classes) ≡ l.most
