use Rattle.std.proofs.Common.{[]}
use Rattle.task_resolve.specs.Segments.{is_segment}
use Rattle.task_resolve.proofs.ListLaws.{each}
use Rattle.task_resolve.proofs.segments.segments_of.Goals as goal

pub segment-requires : goal.segment-requires
segment-requires c =
    each is_segment (λ part. part.now) c.args.parts.now c.loop-part.part-index (record { ref_ptr = (0, 0); now = [] }) c.loop-part-test.true c.requires
