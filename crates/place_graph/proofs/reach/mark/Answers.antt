use Rattle.place_graph.proofs.Searched.{mark_new}
use Rattle.place_graph.proofs.reach.mark.Goals as goal

pub returns : goal.returns
returns c = rw c.in_ok-push.ensures.items (mark_new c.args.marks.now c.args.queue.now.items c.args.place c.requires c.if-marks-place.false)
