use Rattle.std.proofs.Common.{◌+◌, ◌++◌, drop, ap, ◌∙◌, arith}
use Rattle.class_verify.proofs.Tracking.{push_step}
use Rattle.class_verify.proofs.local_types.LocalTypes.extend.Goals as goal

pub loop-t-preserved : goal.loop-t-preserved
loop-t-preserved c = record {
  told = c.in_ok-push.ensures.told;
  types = ap (λ x. x ++ drop (c.loop-t.t-index + 1) c.args.types.now) c.in_ok-push.ensures.types
      ∙ push_step c.loop-t.self.types.items c.args.types.now c.loop-t.t-index _ (omega arith) ∙ c.loop-t.invariant.types;
}
