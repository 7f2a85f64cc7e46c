use Rattle.std.proofs.Common.{◌≡◌, ℕ, ◌<◌, List, [], length, true, get_or, sym, ◌∙◌, ap, subst, arith}
use Rattle.std.proofs.lemmas.List.{get_or_read}
use Rattle.place_graph.specs.Graphs.{edges_of, is_among, AreWithin, with_place, with_places}
use Rattle.place_graph.specs.Closing.{IsFull}
use Rattle.place_graph.proofs.Settled.{edges_within}
use Rattle.place_graph.proofs.Covered.{covered_by_marks, full_more, on_ok}
use Rattle.place_graph.proofs.above.add_reached.Goals as goal

pub returns-then-all_found-clause-found : goal.returns-then-all_found-clause-found
returns-then-all_found-clause-found c =
    let graph = c.args.graph.now in
    let row : c.as_slice.result.now ≡ edges_of graph c.args.place = c.as_slice.ensures ∙ get_or_read graph c.args.place c.index-graph-place.result c.requires.place c.index-graph-place.is [] in
    let within : AreWithin (length c.args.marks.now) c.as_slice.result.now =
    rw (row, c.requires.all) (edges_within (length graph) graph c.args.place c.requires.graph) in
    let same : with_places (with_place c.args.found.now c.args.place) (edges_of c.args.above.now c.args.place) ≡ with_place c.args.found.now c.args.place =
    covered_by_marks graph c.args.above.now c.args.marks.now c.args.found.now c.as_slice.result.now c.args.round c.args.place row within c.requires.marking c.requires.full c.requires.listed c.if-all_found.ensures in
    on_ok c.add_place.result (c.add_place.new.found ≡ with_place c.args.found.now c.args.place)
    (c.add_place.new.found ≡ with_places (with_place c.args.found.now c.args.place) (edges_of c.args.above.now c.args.place)) (λ e. e ∙ sym same) c.add_place.ensures.found

pub returns-then-all_found-clause-full : goal.returns-then-all_found-clause-full
returns-then-all_found-clause-full c =
    let graph = c.args.graph.now in
    let row : c.as_slice.result.now ≡ edges_of graph c.args.place = c.as_slice.ensures ∙ get_or_read graph c.args.place c.index-graph-place.result c.requires.place c.index-graph-place.is [] in
    let within : AreWithin (length c.args.marks.now) c.as_slice.result.now =
    rw (row, c.requires.all) (edges_within (length graph) graph c.args.place c.requires.graph) in
    let same : with_places (with_place c.args.found.now c.args.place) (edges_of c.args.above.now c.args.place) ≡ with_place c.args.found.now c.args.place =
    covered_by_marks graph c.args.above.now c.args.marks.now c.args.found.now c.as_slice.result.now c.args.round c.args.place row within c.requires.marking c.requires.full c.requires.listed c.if-all_found.ensures in
    on_ok c.add_place.result (c.add_place.new.found ≡ with_place c.args.found.now c.args.place) (IsFull graph c.add_place.new.found)
    (λ e. subst (IsFull graph) (same ∙ sym e) (full_more graph c.args.above.now c.args.found.now c.args.place c.requires.full c.requires.listed)) c.add_place.ensures.found

pub returns-clause-full : goal.returns-clause-full
returns-clause-full c =
    let graph = c.args.graph.now in
    let row : c.as_slice-2.result.now ≡ edges_of c.args.above.now c.args.place =
    c.as_slice-2.ensures ∙ get_or_read c.args.above.now c.args.place c.index-above-place.result (omega (arith, c.requires.place, c.requires.rows)) c.index-above-place.is [] in
    on_ok c.add_places.result (c.add_places.new.found ≡ with_places c.add_place-2.new.found c.as_slice-2.result.now) (IsFull graph c.add_places.new.found)
    (λ e. subst (IsFull graph) (sym (e ∙ ap (λ xs. with_places xs c.as_slice-2.result.now) c.in_ok-add_place.ensures.found ∙ ap (with_places (with_place c.args.found.now c.args.place)) row))
    (full_more graph c.args.above.now c.args.found.now c.args.place c.requires.full c.requires.listed)) c.add_places.ensures.found
