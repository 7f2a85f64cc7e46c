use Rattle.std.proofs.Common.{rules, tests, eqb, ◌∙◌}
use Rattle.std.proofs.lemmas.Iterator.Search.{all_from_yields_List}
use Rattle.std.proofs.lemmas.Iterator.Splits.{YieldsList-from_slice_split}
use Rattle.task_model.specs.TaskNames.{is_name_segment}
use Rattle.task_resolve.specs.Segments.{inner}
use Rattle.task_resolve.proofs.segments.are_choices.Goals as goal

pub returns : goal.returns
returns c =
    all_from_yields_List is_name_segment _ _ c.all.result c.all.ensures.ran
    (YieldsList-from_slice_split _ (λ b. eqb b 44) (inner c.args.text.now) (c.split.ensures.rest ∙ c.inner.ensures) c.split.ensures.done c.split.ensures.closure (λ x r q k. search (rules, tests)))
    (λ x b q k. search (rules, tests))
