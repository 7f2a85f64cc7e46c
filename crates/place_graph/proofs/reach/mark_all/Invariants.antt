use Rattle.std.proofs.Common.{take}
use Rattle.place_graph.specs.Searches.{MarksAll}
use Rattle.place_graph.proofs.reach.mark_all.Given as goal

abbrev pub invariant-loop-place : goal.invariant-loop-place
invariant-loop-place l = MarksAll l.fn.marks l.fn.queue.items (take l.place-index l.places) l.marks l.queue.items
