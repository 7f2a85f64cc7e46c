use Rattle.class_verify.proofs.Sharing.{both_are, both_fit}
use Rattle.class_verify.proofs.shared_kinds.both_fit.Goals as goal

pub returns : goal.returns
returns c =
    both_are _ _ _ _ _ c.kept_fit.ensures c.kept_fit-2.ensures (both_fit c.args.kinds.now c.args.more.now c.args.others.now c.min-common.result c.min-common.ensures)
