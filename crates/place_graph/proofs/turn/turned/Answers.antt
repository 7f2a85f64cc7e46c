use Rattle.std.proofs.Common.{◌≡◌, ◌+◌, sym, ◌∙◌, ap, arith, length, []}
use Rattle.std.proofs.lemmas.List.{get_or_read}
use Rattle.place_graph.specs.Graphs.{edges_of}
use Rattle.place_graph.specs.Turning.{AddsEdges, IsTurned}
use Rattle.place_graph.proofs.Turned.{turned_by, written}
use Rattle.place_graph.proofs.turn.turned.Goals as goal

pub loop-place-preserved : goal.loop-place-preserved
loop-place-preserved c =
    let graph = c.args.graph.now in
    let row : c.as_slice.result.now ≡ edges_of graph c.loop-place.place =
    c.as_slice.ensures ∙ get_or_read graph c.loop-place.place c.index-graph-place.result (omega arith) c.index-graph-place.is [] in
    let step = c.in_ok-add_edges.ensures in
    let more : IsTurned graph (c.loop-place.place + 1) c.add_edges.new.rows =
    turned_by graph c.loop-place.rows.items c.deref_mut.result.now c.add_edges.new.rows c.as_slice.result.now c.loop-place.place (omega arith) c.requires.graph row c.deref_mut.ensures.value c.loop-place.invariant step in
    rw (written c.loop-place.rows.len c.add_edges.new.rows c.loop-place.rows.items (step.rows ∙ ap length c.deref_mut.ensures.value ∙ sym c.loop-place.rows.ok.0)) more
