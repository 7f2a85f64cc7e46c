use Rattle.std.proofs.Common.{◌≡◌, ℕ, List, [], ◌∷◌, ◌++◌, get_or, set, subst, sym, ◌∙◌, ap}
use Rattle.std.proofs.lemmas.List.{get_or_read}
use Rattle.place_graph.specs.Graphs.{edges_of}
use Rattle.place_graph.specs.Turning.{AddsEdges}
use Rattle.place_graph.proofs.Covered.{on_ok}
use Rattle.place_graph.proofs.Turned.{edge_added}
use Rattle.place_graph.proofs.turn.add_edge.Goals as goal

pub returns : goal.returns
returns c =
    let rows = c.args.rows.now in
    let row : get_or rows c.args.from c.index-rows-from.result ≡ edges_of rows c.args.from =
    sym c.index-rows-from.is ∙ get_or_read rows c.args.from c.index-rows-from.result c.requires c.index-rows-from.is [] in
    on_ok c.push.result (c.push.new.self ≡ get_or rows c.args.from c.index-rows-from.result ++ c.args.to ∷ [])
    (AddsEdges rows c.args.to (c.args.from ∷ []) (set rows c.args.from c.push.new.self))
    (λ e. subst (λ (xs : List ℕ). AddsEdges rows c.args.to (c.args.from ∷ []) (set rows c.args.from xs)) (sym (e ∙ ap (λ xs. xs ++ c.args.to ∷ []) row))
    (edge_added rows c.args.from c.args.to c.requires)) c.push.ensures.ok
