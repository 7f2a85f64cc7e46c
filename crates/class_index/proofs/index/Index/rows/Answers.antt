use Rattle.std.proofs.Common.{ℕ, List, length, sym, ◌∙◌, ap, subst}
use Rattle.place_graph.specs.Graphs.{edges_of, AreWithin, beyond}
use Rattle.class_index.specs.declared.outline.Outline.{Outline}
use Rattle.class_index.specs.Hierarchy.{hierarchy}
use Rattle.class_index.proofs.PlaceLemmas.{length-hierarchy}
use Rattle.class_index.proofs.Questions.{all_are}
use Rattle.class_index.proofs.Parts.{rows_are, above_within}
use Rattle.class_index.proofs.index.Index.rows.Goals as goal

pub returns-clause-same : goal.returns-clause-same
returns-clause-same c =
    ap length c.as_slice.ensures ∙ c.self.invariant.closed.rows ∙ length-hierarchy c.self.inside.all ∙ ap length (all_are c.self.inside.own c.self.inside.all c.args.self.now c.self.invariant.classes c.self.view_is)

pub returns-clause-above : goal.returns-clause-above
returns-clause-above c =
    ap (λ (rows : List (List ℕ)). edges_of rows) c.as_slice.ensures ∙ rows_are c.self.inside.all c.self.inside.above c.self.invariant.closed
    ∙ ap (λ (xs : List Outline). beyond (hierarchy xs)) (all_are c.self.inside.own c.self.inside.all c.args.self.now c.self.invariant.classes c.self.view_is)

pub returns-clause-within : goal.returns-clause-within
returns-clause-within c = λ place.
    subst (λ (xs : List Outline). AreWithin (length xs) (edges_of c.as_slice.result.now place)) (all_are c.self.inside.own c.self.inside.all c.args.self.now c.self.invariant.classes c.self.view_is)
    (subst (λ (rows : List (List ℕ)). AreWithin (length c.self.inside.all) (edges_of rows place)) (sym c.as_slice.ensures)
    (above_within c.self.inside.all c.self.inside.above c.self.invariant.closed place))
