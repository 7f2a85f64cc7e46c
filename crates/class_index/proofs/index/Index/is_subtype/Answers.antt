use Rattle.std.proofs.Common.{◌≡◌, ℕ, List, get_or, ◌∙◌, ap, arith}
use Rattle.place_graph.specs.Graphs.{is_among}
use Rattle.class_index.proofs.PlaceLemmas.{length-hierarchy}
use Rattle.class_index.proofs.Questions.{place_within, subtype_by, subtype_value}
use Rattle.class_index.proofs.index.Index.is_subtype.Goals as goal

pub bounds-above-low : goal.bounds-above-low
bounds-above-low c =
    let within = place_within c.self.inside.own c.self.inside.all c.args.self.now c.args.low c.place-low.result c.self.invariant.classes c.self.view_is c.requires.low c.place-low.ensures in
    rw c.as_slice-above.ensures (omega (arith, within, c.self.invariant.closed.rows, length-hierarchy c.self.inside.all))

pub returns-clause-means : goal.returns-clause-means
returns-clause-means c =
    let read : c.index-above-low.result ≡ get_or c.self.inside.above c.place-low.result c.index-above-low.result =
    c.index-above-low.is ∙ ap (λ (xs : List (List ℕ)). get_or xs c.place-low.result c.index-above-low.result) c.as_slice-above.ensures in
    subtype_by c.self.inside.own c.self.inside.all c.args.self.now c.self.inside.above c.args.low c.args.high c.place-low.result c.place-high.result c.index-above-low.result c.contains.result
    c.self.invariant.classes c.self.view_is c.self.invariant.closed c.requires.low c.place-low.ensures c.place-high.ensures c.if-low-high.false read
    (c.contains.ensures ∙ ap (is_among c.place-high.result) c.as_slice.ensures)

pub returns-clause-value : goal.returns-clause-value
returns-clause-value c =
    let read : c.index-above-low.result ≡ get_or c.self.inside.above c.place-low.result c.index-above-low.result =
    c.index-above-low.is ∙ ap (λ (xs : List (List ℕ)). get_or xs c.place-low.result c.index-above-low.result) c.as_slice-above.ensures in
    subtype_value c.self.inside.own c.self.inside.all c.args.self.now c.self.inside.above c.args.low c.args.high c.place-low.result c.place-high.result c.index-above-low.result c.contains.result
    c.self.invariant.classes c.self.view_is c.self.invariant.closed c.requires.low c.place-low.ensures c.place-high.ensures c.if-low-high.false read
    (c.contains.ensures ∙ ap (is_among c.place-high.result) c.as_slice.ensures)
