use Rattle.std.proofs.Common.{take}
use Rattle.place_graph.specs.Turning.{AddsEdges}
use Rattle.place_graph.proofs.turn.add_edges.Given as goal

abbrev pub invariant-loop-place : goal.invariant-loop-place
invariant-loop-place l = AddsEdges l.fn.rows l.to (take l.place-index l.places) l.rows
