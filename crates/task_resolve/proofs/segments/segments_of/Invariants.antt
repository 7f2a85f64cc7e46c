use Rattle.std.proofs.Common.{◌≡◌, map, take}
use Rattle.task_resolve.specs.Segments.{segment}
use Rattle.task_resolve.proofs.segments.segments_of.Given as goal

abbrev pub invariant-loop-part : goal.invariant-loop-part
invariant-loop-part l = l.made.items ≡ map segment (map (λ part. part.now) (take l.part-index l.parts))
