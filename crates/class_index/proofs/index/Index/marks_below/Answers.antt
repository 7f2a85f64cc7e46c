use Rattle.std.proofs.Common.{ℕ, ◌<◌, ◌^◌, List, length, sym, subst}
use Rattle.place_graph.specs.Graphs.{IsGraph}
use Rattle.place_graph.specs.Searches.{IsReaching}
use Rattle.class_index.specs.Hierarchy.{all_of, place}
use Rattle.class_index.specs.Places.{place_in}
use Rattle.class_index.proofs.PlaceLemmas.{hierarchy_graph, length-hierarchy}
use Rattle.class_index.proofs.Questions.{id_within}
use Rattle.class_index.proofs.Belows.{graph_is}
use Rattle.class_index.proofs.index.Index.marks_below.Goals as goal

pub reaching-requires-clause-graph : goal.reaching-requires-clause-graph
reaching-requires-clause-graph c =
    let is = graph_is c.self.inside.own c.self.inside.all c.args.self.now c.outlines-all.result.now (place_in c.self.inside.places) c.in_ok-graph.graph c.as_slice.result.now
    c.self.invariant.classes c.self.view_is c.self.invariant.places c.outlines-all.ensures.value c.in_ok-graph.ensures c.as_slice.ensures in
    subst IsGraph (sym is) (hierarchy_graph (all_of c.args.self.now))

pub reaching-requires-clause-few : goal.reaching-requires-clause-few
reaching-requires-clause-few c =
    let is = graph_is c.self.inside.own c.self.inside.all c.args.self.now c.outlines-all.result.now (place_in c.self.inside.places) c.in_ok-graph.graph c.as_slice.result.now
    c.self.invariant.classes c.self.view_is c.self.invariant.places c.outlines-all.ensures.value c.in_ok-graph.ensures c.as_slice.ensures in
    let few : length (all_of c.args.self.now) < 2 ^ 32 = rw c.outlines-all.ensures.value at c.outlines-all.ensures.few in
    rw (is, length-hierarchy (all_of c.args.self.now)) few

pub reaching-requires-clause-to : goal.reaching-requires-clause-to
reaching-requires-clause-to c =
    let is = graph_is c.self.inside.own c.self.inside.all c.args.self.now c.outlines-all.result.now (place_in c.self.inside.places) c.in_ok-graph.graph c.as_slice.result.now
    c.self.invariant.classes c.self.view_is c.self.invariant.places c.outlines-all.ensures.value c.in_ok-graph.ensures c.as_slice.ensures in
    rw (is, length-hierarchy (all_of c.args.self.now), c.place.ensures) (id_within c.args.self.now c.args.high c.requires)

pub returns : goal.returns
returns c =
    let is = graph_is c.self.inside.own c.self.inside.all c.args.self.now c.outlines-all.result.now (place_in c.self.inside.places) c.in_ok-graph.graph c.as_slice.result.now
    c.self.invariant.classes c.self.view_is c.self.invariant.places c.outlines-all.ensures.value c.in_ok-graph.ensures c.as_slice.ensures in
    subst (λ (g : List (List ℕ)). IsReaching g (place c.args.self.now c.args.high) c.in_ok-marks.marks.items) is
    (subst (λ (p : ℕ). IsReaching c.as_slice.result.now p c.in_ok-marks.marks.items) c.place.ensures c.in_ok-marks.ensures)
