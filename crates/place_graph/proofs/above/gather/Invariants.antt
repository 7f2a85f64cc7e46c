use Rattle.std.proofs.Common.{◌≡◌, [], drop}
use Rattle.place_graph.specs.Closing.{IsMarking, gathered, IsFull}
use Rattle.place_graph.proofs.above.gather.Given as goal

abbrev pub invariant-loop-place : goal.invariant-loop-place
invariant-loop-place l =
    IsMarking l.marks l.round l.found × (gathered l.above l.found (drop l.place-index l.places) ≡ gathered l.above [] l.places)
    × IsFull l.graph l.found
