use Rattle.std.proofs.Common.{◌≡◌, ℕ, Bool, List, length, map, sym, ◌∙◌, ap, subst}
use Rattle.class_index.specs.Places.{place_in}
use Rattle.place_graph.specs.Graphs.{IsGraph}
use Rattle.place_graph.specs.Orders.{IsClosed}
use Rattle.place_graph.specs.Searches.{AreReturning}
use Rattle.class_index.specs.declared.outline.Outline.{Outline}
use Rattle.class_index.specs.Hierarchy.{super_by, directs_by, hierarchy}
use Rattle.class_index.specs.Least.{IsLeast}
use Rattle.class_index.specs.Supers.{Returns}
use Rattle.class_index.proofs.PlaceLemmas.{hierarchy_graph, built_hierarchy}
use Rattle.class_index.proofs.Built.{index_is, whole, cyclic_fault, returning_is}
use Rattle.class_index.proofs.index.closed.Goals as goal

pub order_of-requires : goal.order_of-requires
order_of-requires c =
    let find = place_in c.args.places in
    let graph : c.in_ok-graph.graph ≡ map (directs_by find) c.args.all = c.in_ok-graph.ensures ∙ ap (map (directs_by find)) c.as_slice-2.ensures in
    let is : c.as_slice-3.result.now ≡ hierarchy c.args.all = c.as_slice-3.ensures ∙ built_hierarchy c.args.all find c.in_ok-graph.graph c.requires.places graph in
    subst IsGraph (sym is) (hierarchy_graph c.args.all)

pub invariant_of-result : goal.invariant_of-result
invariant_of-result c =
    let find = place_in c.args.places in
    let graph : c.in_ok-graph.graph ≡ map (directs_by find) c.args.all = c.in_ok-graph.ensures ∙ ap (map (directs_by find)) c.as_slice-2.ensures in
    let supers : c.in_ok-supers.supers ≡ map (super_by find) c.args.all = c.in_ok-supers.ensures ∙ ap (map (super_by find)) c.as_slice.ensures in
    let done : IsClosed c.as_slice-3.result.now c.in-Above.above = rw c.in-Above.is at c.in_ok-above.ensures in
    index_is c.args.own c.args.all find c.in_ok-supers.supers c.in_ok-graph.graph c.in-Above.above c.requires.all c.requires.few c.requires.places supers graph
    (subst (λ (g : List (List ℕ)). IsClosed g c.in-Above.above) c.as_slice-3.ensures done)

pub returns-in-Above-clause-whole : goal.returns-in-Above-clause-whole
returns-in-Above-clause-whole c =
    let find = place_in c.args.places in
    let graph : c.in_ok-graph.graph ≡ map (directs_by find) c.args.all = c.in_ok-graph.ensures ∙ ap (map (directs_by find)) c.as_slice-2.ensures in
    let done : IsClosed c.as_slice-3.result.now c.in-Above.above = rw c.in-Above.is at c.in_ok-above.ensures in
    whole c.args.own c.args.all find c.in_ok-graph.graph c.in-Above.above c.requires.all c.requires.places c.requires.supers graph
    (subst (λ (g : List (List ℕ)). IsClosed g c.in-Above.above) c.as_slice-3.ensures done)

pub returning_name-requires-clause-marks : goal.returning_name-requires-clause-marks
returning_name-requires-clause-marks c =
    let find = place_in c.args.places in
    let graph : c.in_ok-graph.graph ≡ map (directs_by find) c.args.all = c.in_ok-graph.ensures ∙ ap (map (directs_by find)) c.as_slice-2.ensures in
    let told = rw c.in-Returning.is at c.in_ok-above.ensures in
    let are : AreReturning c.in_ok-graph.graph (length c.in_ok-graph.graph) c.in-Returning.marks.items =
    subst (λ (g : List (List ℕ)). AreReturning g (length g) c.in-Returning.marks.items) c.as_slice-3.ensures told.0 in
    let of_all : AreReturning (hierarchy c.args.all) (length (hierarchy c.args.all)) c.in-Returning.marks.items =
    returning_is c.args.all find c.in_ok-graph.graph c.in-Returning.marks.items c.requires.places graph are in
    let here : AreReturning (hierarchy c.args.all) (length (hierarchy c.args.all)) c.as_slice-in-Returning-2.result.now =
    subst (λ (m : List Bool). AreReturning (hierarchy c.args.all) (length (hierarchy c.args.all)) m) (sym c.as_slice-in-Returning-2.ensures.value) of_all in
    subst (λ (xs : List Outline). AreReturning (hierarchy xs) (length (hierarchy xs)) c.as_slice-in-Returning-2.result.now) (sym c.as_slice-in-Returning.ensures) here

pub returns-in_ok-name-in-Returning-clause-fault : goal.returns-in_ok-name-in-Returning-clause-fault
returns-in_ok-name-in-Returning-clause-fault c =
    let find = place_in c.args.places in
    let least : IsLeast (Returns c.args.all) c.in_ok-name-in-Returning.name =
    subst (λ (xs : List Outline). IsLeast (Returns xs) c.in_ok-name-in-Returning.name) c.as_slice-in-Returning.ensures c.in_ok-name-in-Returning.ensures in
    cyclic_fault c.args.own c.args.all find c.in_ok-name-in-Returning.name c.requires.all c.requires.places c.requires.supers least
