use Rattle.class_verify.proofs.Sharing.{both_are, more_fit}
use Rattle.class_verify.proofs.shared_kinds.more_fit.Goals as goal

pub returns : goal.returns
returns c =
    both_are _ _ _ _ _ c.kept_fit.ensures c.both_fit.ensures (more_fit c.args.kinds.now c.args.own.now c.args.others.now c.args.of_others.now c.requires)
