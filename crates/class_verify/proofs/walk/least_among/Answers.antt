use Rattle.std.proofs.Common.{arith}
use Rattle.class_verify.proofs.Strays.{stray_start, stray_next, stray_end}
use Rattle.class_verify.proofs.walk.least_among.Goals as goal

pub loop-frame-init : goal.loop-frame-init
loop-frame-init c = stray_start c.args.body.now.code.now c.args.frames.now

pub loop-frame-preserved : goal.loop-frame-preserved
loop-frame-preserved c =
    stray_next c.args.body.now.code.now c.args.frames.now c.loop-frame.frame-index c.frame-item.result c.loop-frame.least _ (omega arith) c.frame-item.is
    c.with_frame-least.ensures c.loop-frame.invariant

pub returns : goal.returns
returns c = stray_end c.args.body.now.code.now c.args.frames.now c.loop-frame.frame-index c.loop-frame.least (omega arith) c.loop-frame.invariant
