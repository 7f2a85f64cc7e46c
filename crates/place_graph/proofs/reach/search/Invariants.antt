use Rattle.std.proofs.Common.{◌+◌, not, length, count_by}
use Rattle.place_graph.proofs.Searched.{IsSearch}
use Rattle.place_graph.proofs.reach.search.Given as goal

abbrev pub invariant-loop-place : goal.invariant-loop-place
invariant-loop-place l = IsSearch l.graph l.from l.marks l.queue.items

abbrev pub decreases-loop-place : goal.decreases-loop-place
decreases-loop-place l = count_by not l.marks + length l.queue.items
