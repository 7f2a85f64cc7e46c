use Rattle.std.proofs.Common.{◌≡◌, ◌+◌, length, arith}
use Rattle.task_resolve.proofs.MarkLaws.{started}
use Rattle.task_resolve.proofs.matching.first_marks.Goals as goal

pub returns : goal.returns
returns c names is =
    let all : c.loop-count.count ≡ length names + 1 = omega (arith, is, c.loop-count-test.false, c.loop-count.auto.count-end) in
    started names c.loop-count.marks.items c.loop-count.count all c.loop-count.invariant.0 c.loop-count.invariant.1
