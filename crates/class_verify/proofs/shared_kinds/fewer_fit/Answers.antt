use Rattle.class_verify.proofs.Sharing.{both_are, fewer_fit}
use Rattle.class_verify.proofs.shared_kinds.fewer_fit.Goals as goal

pub returns : goal.returns
returns c =
    both_are _ _ _ _ _ c.kept_fit.ensures c.fit_both.ensures (fewer_fit c.args.kinds.now c.args.own.now c.args.others.now c.args.of_others.now c.requires)
