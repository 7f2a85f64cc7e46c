use Rattle.std.proofs.Common.{rules, ◌≡◌, ℕ, true, List, [], get_or, sym, ◌∙◌, ap, subst, arith}
use Rattle.std.proofs.lemmas.Bool.{eq-eqb}
use Rattle.std.proofs.lemmas.List.{get_or_read}
use Rattle.place_graph.specs.Graphs.{edges_of, is_among, with_place, with_places}
use Rattle.place_graph.proofs.Covered.{on_ok}
use Rattle.place_graph.proofs.Marks.{among_at}
use Rattle.task_graph.specs.PostOrders.{EndsWithin, IsClosedUnder, late_walk}
use Rattle.task_graph.proofs.Walking.{walked_before, walk_added, some_depth, closed_added, walks_more}
use Rattle.task_graph.proofs.post_order.+visit.Goals as goal

pub visit-returns-then-marks-place-eq-FOUND-clause-found :
    goal.visit-returns-then-marks-place-eq-FOUND-clause-found
visit-returns-then-marks-place-eq-FOUND-clause-found t c =
    let graph = c.args.graph.now in
    let is : is_among c.args.place c.args.found.now ≡ true =
    sym (c.requires.marking.marked c.args.place (omega (arith, c.requires.all, c.requires.place))) ∙ eq-eqb (get_or c.args.marks.now c.args.place 0) 1 c.if-marks-place-eq-FOUND.true in
    sym (walked_before graph c.args.found.now c.requires.closed c.args.depth c.args.place is)

pub visit-returns-clause-found : goal.visit-returns-clause-found
visit-returns-clause-found t c =
    let graph = c.args.graph.now in
    let row : c.as_slice-next.result.now ≡ edges_of graph c.args.place = c.as_slice-next.ensures ∙ get_or_read graph c.args.place c.index-graph-place.result c.requires.place c.index-graph-place.is [] in
    let whole = walk_added graph c.args.depth c.args.place c.args.found.now c.as_slice-next.result.now (some_depth graph c.args.depth c.args.place c.requires.ends) row in
    on_ok c.add.result (c.add.new.found ≡ with_place c.visit_all.new.found c.args.place) (c.add.new.found ≡ with_places c.args.found.now (late_walk c.args.depth graph c.args.place))
    (λ e. e ∙ ap (λ xs. with_place xs c.args.place) c.in_ok-visit_all.ensures.found ∙ whole) c.add.ensures.found

pub visit-returns-clause-closed : goal.visit-returns-clause-closed
visit-returns-clause-closed t c =
    let graph = c.args.graph.now in
    let row : c.as_slice-next.result.now ≡ edges_of graph c.args.place = c.as_slice-next.ensures ∙ get_or_read graph c.args.place c.index-graph-place.result c.requires.place c.index-graph-place.is [] in
    let found = c.in_ok-visit_all.ensures.found in
    let closed : IsClosedUnder graph (with_place c.visit_all.new.found c.args.place) =
    subst (λ (xs : List ℕ). IsClosedUnder graph (with_place xs c.args.place)) (sym found)
    (closed_added graph c.args.depth c.args.place c.args.found.now c.as_slice-next.result.now c.requires.ends row (subst (IsClosedUnder graph) found c.in_ok-visit_all.ensures.closed)) in
    on_ok c.add.result (c.add.new.found ≡ with_place c.visit_all.new.found c.args.place) (IsClosedUnder graph c.add.new.found)
    (λ e. subst (IsClosedUnder graph) (sym e) closed) c.add.ensures.found

pub visit_all-visit-requires : goal.visit_all-visit-requires
visit_all-visit-requires t c =
    let n = c.loop-place.place-index in
    let ends : EndsWithin c.args.graph.now c.args.depth (get_or c.args.places.now n 0) = c.requires.end (get_or c.args.places.now n 0) (among_at c.args.places.now n 0 (omega arith)) in
    search rules

pub visit_all-loop-place-preserved : goal.visit_all-loop-place-preserved
visit_all-loop-place-preserved t c =
    let l = c.loop-place in
    let more = walks_more c.args.graph.now c.args.depth c.args.found.now c.args.places.now l.place-index (omega arith) in (
      c.in_ok-visit.ensures.marking,
      c.in_ok-visit.ensures.closed,
      c.in_ok-visit.ensures.found ∙ ap (λ xs. with_places xs (late_walk c.args.depth c.args.graph.now (get_or c.args.places.now l.place-index 0))) l.invariant.2 ∙ more,
    )
