use Rattle.std.proofs.Common.{rules, tests, arith, eqb, ap, ◌∙◌}
use Rattle.std.specs.Slice.Iter.{iter_rest}
use Rattle.std.proofs.lemmas.Iterator.{YieldsList-from_slice}
use Rattle.std.proofs.lemmas.Iterator.Consumers.{count_from_yields_List, YieldsList-from_filter}
use Rattle.std.proofs.lemmas.List.Splits.{length-slice_split}
use Rattle.std.proofs.lemmas.List.Sums.{length-filter}
use Rattle.io_real.proofs.names.folder_count.Goals as goal

-- one folder for each slash
pub returns : goal.returns
returns c =
    let counted = count_from_yields_List _ _ c.count.ensures.ran
    (YieldsList-from_filter {ys = c.args.name.now} _ (λ b. eqb b 47) (YieldsList-from_slice c.args.name.now (ap iter_rest c.filter.ensures.source ∙ c.iter.ensures.rest)) c.filter.ensures.closure (λ x b q k. search (rules, tests))) in
    omega (arith, counted, length-filter (λ b. eqb b 47) c.args.name.now, length-slice_split (λ b. eqb b 47) c.args.name.now)
