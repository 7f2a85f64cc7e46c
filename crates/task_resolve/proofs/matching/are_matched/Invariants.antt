use Rattle.std.proofs.Common.{◌-◌, drop, length, map}
use Rattle.task_resolve.specs.Marks.{AreMarks}
use Rattle.task_resolve.proofs.matching.are_matched.Given as goal

abbrev pub invariant-loop-done : goal.invariant-loop-done
invariant-loop-done l = AreMarks (drop (length l.segments - l.done) l.segments) (map (λ name. name.now) l.names) l.marks.items
