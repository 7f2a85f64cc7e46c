use Rattle.std.proofs.Common.{◌≡◌, ℕ, ◌<◌, List, [], length, true, sym, ◌∙◌, ap, subst, arith}
use Rattle.std.proofs.lemmas.List.{get_or_read}
use Rattle.place_graph.specs.Graphs.{edges_of, is_among, AreWithin}
use Rattle.place_graph.specs.Closing.{gathered}
use Rattle.place_graph.proofs.Settled.{rank_of, settled, gathered_beyond, gathered_within, edges_within}
use Rattle.std.proofs.lemmas.List.Elements.{All-nil}
use Rattle.place_graph.specs.Closing.{IsListed}
use Rattle.place_graph.proofs.Covered.{listed_known}
use Rattle.place_graph.proofs.above.settle.Goals as goal

pub returns-clause-closing : goal.returns-clause-closing
returns-clause-closing c =
    let graph = c.args.graph.now in
    let place = c.args.place in
    let row : c.index-graph-place.result ≡ edges_of graph place = get_or_read graph place c.index-graph-place.result c.requires.place c.index-graph-place.is [] in
    let asked : c.as_slice.result.now ≡ edges_of graph place = c.as_slice.ensures ∙ row in
    let row_again : c.index-graph-place-2.result ≡ edges_of graph place = get_or_read graph place c.index-graph-place-2.result c.requires.place c.index-graph-place-2.is [] in
    let given : c.as_slice-3.result.now ≡ edges_of graph place = c.as_slice-3.ensures ∙ row_again in
    let all : (next : ℕ) → is_among next (edges_of graph place) ≡ true → 0 < rank_of c.args.ranks.now next =
    subst (λ (xs : List ℕ). (next : ℕ) → is_among next xs ≡ true → 0 < rank_of c.args.ranks.now next) asked c.if-not-all_known.ensures in
    let got : c.in_ok-found.found ≡ gathered c.args.above.now [] (edges_of graph place) =
    c.in_ok-found.ensures.found ∙ ap (λ a. gathered a [] c.as_slice-3.result.now) c.as_slice-2.ensures ∙ ap (gathered c.args.above.now []) given in
    let within : AreWithin (length graph) c.in_ok-found.found =
    subst (AreWithin (length graph)) (sym got) (gathered_within (length graph) c.args.above.now [] (edges_of graph place) c.requires.closing.within (All-nil (λ p. p < length graph)) (edges_within (length graph) graph place c.requires.graph)) in
    rw c.set.ensures
    (settled graph c.args.above.now c.args.ranks.now c.args.known place c.in_ok-found.found c.requires.closing c.requires.place (omega (arith, c.if-ranks-place-gt0.false))
    all (got ∙ gathered_beyond graph c.args.above.now c.args.ranks.now c.args.known place c.requires.closing all) within)

pub gather-requires-clause-listed : goal.gather-requires-clause-listed
gather-requires-clause-listed c =
    let graph = c.args.graph.now in
    let place = c.args.place in
    let row : c.index-graph-place.result ≡ edges_of graph place = get_or_read graph place c.index-graph-place.result c.requires.place c.index-graph-place.is [] in
    let asked : c.as_slice.result.now ≡ edges_of graph place = c.as_slice.ensures ∙ row in
    let row_again : c.index-graph-place-2.result ≡ edges_of graph place = get_or_read graph place c.index-graph-place-2.result c.requires.place c.index-graph-place-2.is [] in
    let given : c.as_slice-3.result.now ≡ edges_of graph place = c.as_slice-3.ensures ∙ row_again in
    let all : (next : ℕ) → is_among next c.as_slice-3.result.now ≡ true → 0 < rank_of c.args.ranks.now next =
    subst (λ (xs : List ℕ). (next : ℕ) → is_among next xs ≡ true → 0 < rank_of c.args.ranks.now next) (asked ∙ sym given) c.if-not-all_known.ensures in
    λ x t. subst (λ (rows : List (List ℕ)). IsListed graph rows x) (sym c.as_slice-2.ensures)
    (listed_known graph c.args.above.now c.args.ranks.now c.args.known x c.requires.closing (all x t))
