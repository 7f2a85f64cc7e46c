use Rattle.std.proofs.Common.{◌≡◌, length}
use Rattle.class_code.proofs.DescriptorLemmas.{result_on}
use Rattle.class_code.proofs.types.returned_behind.Given as goal

abbrev pub invariant-loop-first : goal.invariant-loop-first
invariant-loop-first l = result_on l.bytes ≡ result_on l.rest

abbrev pub decreases-loop-first : goal.decreases-loop-first
decreases-loop-first l = length l.rest
