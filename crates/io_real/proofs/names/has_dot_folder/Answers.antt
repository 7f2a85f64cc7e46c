use Rattle.std.proofs.Common.{rules, tests, eqb, ap, ◌∙◌, ◌-◌, length, nat_eq, codes}
use Rattle.std.specs.List.{starts_with}
use Rattle.std.specs.Slice.Iter.{split_rest, split_done, split_callee}
use Rattle.std.proofs.lemmas.Iterator.{YieldsList-from_take}
use Rattle.std.proofs.lemmas.Iterator.Search.{any_from_yields_List}
use Rattle.std.proofs.lemmas.Iterator.Splits.{YieldsList-from_slice_split}
use Rattle.tree_value.specs.Paths.{segments}
use Rattle.io_real.proofs.names.has_dot_folder.Goals as goal

-- the parts of the name but for the last, each tested
pub returns : goal.returns
returns c =
    any_from_yields_List (λ folder. starts_with nat_eq folder (codes ".")) _ _ _ c.any.ensures.ran
    (YieldsList-from_take (length (segments c.args.name.now) - 1)
    (YieldsList-from_slice_split _ (λ b. eqb b 47) c.args.name.now
    (ap split_rest c.take.ensures.source ∙ c.split.ensures.rest) (ap split_done c.take.ensures.source ∙ c.split.ensures.done) (ap split_callee c.take.ensures.source ∙ c.split.ensures.closure)
    (λ x r q k. search (rules, tests)))
    (c.take.ensures.count ∙ c.folder_count.ensures))
    (λ x b q k. search (rules, tests))
