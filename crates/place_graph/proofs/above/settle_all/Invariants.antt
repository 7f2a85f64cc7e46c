use Rattle.std.proofs.Common.{◌≡◌, ◌≤◌, length}
use Rattle.place_graph.specs.Closing.{IsClosing, IsFresh}
use Rattle.place_graph.proofs.Settled.{WaitBefore}
use Rattle.place_graph.proofs.above.settle_all.Given as goal

abbrev pub invariant-loop-place : goal.invariant-loop-place
invariant-loop-place l =
    IsClosing l.graph l.above l.ranks l.more × IsFresh (length l.graph) l.marks l.more × (l.known ≤ l.more)
    × (l.more ≡ l.known → WaitBefore l.graph l.fn.ranks l.ranks l.place)
