use Rattle.std.proofs.Common.{arith}
use Rattle.std.proofs.lemmas.List.{take_more}
use Rattle.place_graph.proofs.Turned.{edges_none, edges_then}
use Rattle.place_graph.proofs.turn.add_edges.Goals as goal

pub loop-place-preserved : goal.loop-place-preserved
loop-place-preserved c =
    rw (take_more c.args.places.now c.loop-place.place-index 0 (omega arith))
    (edges_then c.args.rows.now c.loop-place.rows c.add_edge.new.rows c.args.to _ _ c.loop-place.invariant c.in_ok-add_edge.ensures)
