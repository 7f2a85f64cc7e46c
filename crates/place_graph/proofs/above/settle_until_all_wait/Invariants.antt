use Rattle.std.proofs.Common.{◌-◌, length}
use Rattle.place_graph.specs.Closing.{IsClosing, IsFresh}
use Rattle.place_graph.proofs.above.settle_until_all_wait.Given as goal

abbrev pub invariant-loop-more : goal.invariant-loop-more
invariant-loop-more l = IsClosing l.graph l.above l.ranks l.known × IsFresh (length l.graph) l.marks l.known

abbrev pub decreases-loop-more : goal.decreases-loop-more
decreases-loop-more l = length l.graph - l.known
