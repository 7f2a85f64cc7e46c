use Rattle.class_verify.proofs.Tracking.{told_more}
use Rattle.class_verify.proofs.local_types.LocalTypes.push.Goals as goal

pub returns-clause-told : goal.returns-clause-told
returns-clause-told c =
    told_more c.args.self.now _ c.args.t c.requires c.in_ok-push.ensures.items c.in_ok-push_type.ensures c.floats_with-self.ensures
