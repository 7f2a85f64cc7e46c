use Rattle.std.proofs.Common.{arith}
use Rattle.std.proofs.lemmas.List.{take_more}
use Rattle.place_graph.proofs.Searched.{mark_then}
use Rattle.place_graph.proofs.reach.mark_all.Goals as goal

pub loop-place-preserved : goal.loop-place-preserved
loop-place-preserved c =
    rw (take_more c.args.places.now c.loop-place.place-index 0 (omega arith))
    (mark_then c.args.marks.now c.loop-place.marks c.mark.new.marks c.args.queue.now.items c.loop-place.queue.items c.mark.new.queue.items _ _ (omega arith) c.loop-place.invariant c.in_ok-mark.ensures)
