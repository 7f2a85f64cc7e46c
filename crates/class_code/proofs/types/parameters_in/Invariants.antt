use Rattle.std.proofs.Common.{◌≡◌, length}
use Rattle.class_code.proofs.DescriptorLemmas.{read_on}
use Rattle.class_code.proofs.types.parameters_in.Given as goal

abbrev pub invariant-loop-first : goal.invariant-loop-first
invariant-loop-first l = read_on l.fn.kinds.items l.bytes ≡ read_on l.kinds.items l.rest

abbrev pub decreases-loop-first : goal.decreases-loop-first
decreases-loop-first l = length l.rest
