use Rattle.std.proofs.Common.{◌<◌, length, ap, ◌∙◌, arith}
use Rattle.class_verify.specs.Padding.{padded}
use Rattle.class_verify.proofs.Slots.{pad_step}
use Rattle.class_verify.proofs.locals.pad.Goals as goal

pub loop-slots-preserved : goal.loop-slots-preserved
loop-slots-preserved c =
    let room : length c.loop-slots.slots < c.args.count = omega arith in
    ap (padded c.args.count) c.in_ok-push.ensures ∙ pad_step c.args.count c.loop-slots.slots room ∙ c.loop-slots.invariant
