use Rattle.std.proofs.Common.{map, length, sym, ◌-◌, drop}
use Rattle.std.proofs.lemmas.List.{length-map}
use Rattle.task_resolve.proofs.MarkLaws.{before, last_mark}
use Rattle.task_resolve.proofs.matching.are_matched.Goals as goal

pub loop-done-preserved : goal.loop-done-preserved
loop-done-preserved c =
    before c.args.segments.now c.loop-done.done c.index-segments-segments.result (map (λ name. name.now) c.args.names.now) c.in_ok-marks-2.marks.items c.loop-done-test.true c.index-segments-segments.is
    (c.in_ok-marks-2.ensures.right (drop (length c.args.segments.now - c.loop-done.done) c.args.segments.now) (rw c.deref.ensures.value c.loop-done.invariant))

pub returns : goal.returns
returns c =
    last_mark c.args.segments.now c.loop-done.done (map (λ name. name.now) c.args.names.now) c.loop-done.marks.items (length c.args.names.now) c.index.result.now c.loop-done-test.false
    (sym (length-map c.args.names.now (λ name. name.now))) c.index.ensures c.loop-done.invariant
