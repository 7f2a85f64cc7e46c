use Rattle.std.proofs.Common.{ℕ, List, length, Option, sym, ◌∙◌, subst}
use Rattle.class_index.specs.declared.outline.Outline.{Outline}
use Rattle.class_index.specs.Lookups.{AreSupers}
use Rattle.class_index.proofs.Questions.{all_are}
use Rattle.class_index.proofs.Parts.{supers_within}
use Rattle.class_index.proofs.index.Index.superclasses.Goals as goal

pub returns-clause-within : goal.returns-clause-within
returns-clause-within c =
    subst (λ (xs : List Outline). AreSupers (length xs) c.as_slice.result.now) (all_are c.self.inside.own c.self.inside.all c.args.self.now c.self.invariant.classes c.self.view_is)
    (subst (λ (found : List (Option ℕ)). AreSupers (length c.self.inside.all) found) (sym (c.as_slice.ensures ∙ c.self.invariant.supers)) (supers_within c.self.inside.all))
