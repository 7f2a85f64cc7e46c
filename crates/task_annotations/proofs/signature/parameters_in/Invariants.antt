use Rattle.std.proofs.Common.{◌≡◌, length}
use Rattle.task_annotations.proofs.Parameters.{read_on}
use Rattle.task_annotations.proofs.signature.parameters_in.Given as goal

abbrev pub invariant-loop-first : goal.invariant-loop-first
invariant-loop-first l = read_on l.fn.parameters.items l.bytes ≡ read_on l.parameters.items l.rest

abbrev pub decreases-loop-first : goal.decreases-loop-first
decreases-loop-first l = length l.rest
