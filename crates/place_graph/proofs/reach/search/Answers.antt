use Rattle.std.proofs.Common.{rules, ◌≡◌, ℕ, ◌<◌, List, [], length, ◌∙◌, subst, arith}
use Rattle.std.proofs.lemmas.List.{get_or_read, nil_from_length}
use Rattle.place_graph.specs.Graphs.{edges_of}
use Rattle.place_graph.specs.Searches.{MarksAll}
use Rattle.place_graph.proofs.Settled.{edges_within}
use Rattle.place_graph.proofs.Searched.{search_begins, search_goes_on, search_ends, taken_within}
use Rattle.place_graph.proofs.reach.search.Goals as goal

pub loop-place-init : goal.loop-place-init
loop-place-init c =
    let row : c.as_slice.result.now ≡ edges_of c.args.graph.now c.args.from =
    c.as_slice.ensures ∙ get_or_read c.args.graph.now c.args.from c.index-graph-from.result c.requires.from c.index-graph-from.is [] in
    let marked : MarksAll c.args.marks.now [] (edges_of c.args.graph.now c.args.from) c.mark_all.new.marks c.mark_all.new.queue.items =
    subst (λ (xs : List ℕ). MarksAll c.args.marks.now [] xs c.mark_all.new.marks c.mark_all.new.queue.items) row
    (subst (λ (q : List ℕ). MarksAll c.args.marks.now q c.as_slice.result.now c.mark_all.new.marks c.mark_all.new.queue.items) c.new-queue.ensures.items c.in_ok-mark_all.ensures) in
    search_begins c.args.graph.now c.args.from c.args.marks.now c.mark_all.new.marks c.mark_all.new.queue.items c.requires.graph c.requires.marks (omega arith) marked

pub bounds-graph-place : goal.bounds-graph-place
bounds-graph-place c =
    taken_within c.args.graph.now c.args.from c.loop-place.marks c.loop-place.queue.items c.pop.new.self.items c.in-Some.place c.loop-place.invariant c.in-Some.ensures.items

pub offset_bounds-graph-place : goal.offset_bounds-graph-place
offset_bounds-graph-place c =
    let within : c.in-Some.place < length c.args.graph.now =
    taken_within c.args.graph.now c.args.from c.loop-place.marks c.loop-place.queue.items c.pop.new.self.items c.in-Some.place c.loop-place.invariant c.in-Some.ensures.items in
    search rules

pub mark_all-requires-in-Some : goal.mark_all-requires-in-Some
mark_all-requires-in-Some c =
    let within : c.in-Some.place < length c.args.graph.now =
    taken_within c.args.graph.now c.args.from c.loop-place.marks c.loop-place.queue.items c.pop.new.self.items c.in-Some.place c.loop-place.invariant c.in-Some.ensures.items in
    let row : c.as_slice-in-Some.result.now ≡ edges_of c.args.graph.now c.in-Some.place =
    c.as_slice-in-Some.ensures ∙ get_or_read c.args.graph.now c.in-Some.place c.index-graph-place.result within c.index-graph-place.is [] in
    rw (row, c.loop-place.invariant.all) (edges_within (length c.args.graph.now) c.args.graph.now c.in-Some.place c.requires.graph)

pub loop-place-preserved : goal.loop-place-preserved
loop-place-preserved c =
    let within : c.in-Some.place < length c.args.graph.now =
    taken_within c.args.graph.now c.args.from c.loop-place.marks c.loop-place.queue.items c.pop.new.self.items c.in-Some.place c.loop-place.invariant c.in-Some.ensures.items in
    let row : c.as_slice-in-Some.result.now ≡ edges_of c.args.graph.now c.in-Some.place =
    c.as_slice-in-Some.ensures ∙ get_or_read c.args.graph.now c.in-Some.place c.index-graph-place.result within c.index-graph-place.is [] in
    let marked : MarksAll c.loop-place.marks c.pop.new.self.items (edges_of c.args.graph.now c.in-Some.place) c.mark_all-in-Some.new.marks c.mark_all-in-Some.new.queue.items =
    subst (λ (xs : List ℕ). MarksAll c.loop-place.marks c.pop.new.self.items xs c.mark_all-in-Some.new.marks c.mark_all-in-Some.new.queue.items) row c.in_ok-mark_all-2.ensures in
    search_goes_on c.args.graph.now c.args.from c.loop-place.marks c.mark_all-in-Some.new.marks c.loop-place.queue.items c.pop.new.self.items c.mark_all-in-Some.new.queue.items
    c.in-Some.place c.requires.graph c.loop-place.invariant c.in-Some.ensures.items (omega arith) marked

pub returns : goal.returns
returns c =
    let empty : c.loop-place.queue.items ≡ [] = nil_from_length c.loop-place.queue.items (omega (arith, c.in_default.ensures.cases)) in
    search_ends c.args.graph.now c.args.from c.loop-place.marks c.loop-place.queue.items empty c.loop-place.invariant
