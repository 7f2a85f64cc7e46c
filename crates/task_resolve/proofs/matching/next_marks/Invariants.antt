use Rattle.std.proofs.Common.{map}
use Rattle.task_resolve.proofs.MarkLaws.{AreFilled}
use Rattle.task_resolve.proofs.matching.next_marks.Given as goal

abbrev pub invariant-loop-count : goal.invariant-loop-count
invariant-loop-count l = AreFilled l.segment (map (λ name. name.now) l.names) l.marks l.next.items l.count l.last
