use Rattle.class_verify.proofs.Sharing.{both_are, common_fit}
use Rattle.class_verify.proofs.shared_kinds.kept_fit.Goals as goal

pub returns : goal.returns
returns c =
    both_are _ _ _ _ _ c.all_fit.ensures c.all_top.ensures (common_fit c.args.kinds.now c.args.others.now c.min-common.result c.min-common.ensures)
