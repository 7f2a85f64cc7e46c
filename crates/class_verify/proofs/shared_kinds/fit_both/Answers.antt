use Rattle.class_verify.proofs.Sharing.{both_are, fit_both}
use Rattle.class_verify.proofs.shared_kinds.fit_both.Goals as goal

pub returns : goal.returns
returns c =
    both_are _ _ _ _ _ c.kept_fit.ensures c.kept_fit-2.ensures (fit_both c.args.kinds.now c.args.others.now c.args.more.now c.min-common.result c.min-common.ensures)
