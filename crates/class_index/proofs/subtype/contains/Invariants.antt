use Rattle.std.proofs.Common.{◌≡◌, false, take}
use Rattle.place_graph.specs.Graphs.{is_among}
use Rattle.class_index.proofs.subtype.contains.Given as goal

abbrev pub invariant-loop-other : goal.invariant-loop-other
invariant-loop-other l = is_among l.place (take l.other-index l.places) ≡ false
