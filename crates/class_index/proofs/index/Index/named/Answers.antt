use Rattle.std.proofs.Common.{List, ◌∙◌, ap}
use Rattle.class_index.specs.declared.outline.Outline.{Outline}
use Rattle.class_index.specs.Hierarchy.{all_of, names, place_of}
use Rattle.class_index.proofs.Questions.{all_are}
use Rattle.class_index.proofs.Parts.{named_within}
use Rattle.class_index.proofs.index.Index.named.Goals as goal

pub returns-clause-value : goal.returns-clause-value
returns-clause-value c =
    c.find.ensures ∙ c.self.invariant.places c.args.name.now ∙ ap (λ (xs : List Outline). place_of (names xs) c.args.name.now) (all_are c.self.inside.own c.self.inside.all c.args.self.now c.self.invariant.classes c.self.view_is)

pub returns-clause-within : goal.returns-clause-within
returns-clause-within c =
    named_within (all_of c.args.self.now) c.args.name.now c.find.result
    (c.find.ensures ∙ c.self.invariant.places c.args.name.now ∙ ap (λ (xs : List Outline). place_of (names xs) c.args.name.now) (all_are c.self.inside.own c.self.inside.all c.args.self.now c.self.invariant.classes c.self.view_is))
