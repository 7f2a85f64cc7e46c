use Rattle.std.proofs.Common.{◌∙◌}
use Rattle.task_graph.proofs.Choosing.{marked_next}
use Rattle.task_graph.proofs.plans.marked.Goals as goal

pub loop-place-preserved : goal.loop-place-preserved
loop-place-preserved c = c.in_ok-push_marked.ensures ∙ marked_next c.args.marks.now c.loop-place.found c.loop-place.place c.loop-place.invariant
