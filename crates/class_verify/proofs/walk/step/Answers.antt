use Rattle.std.proofs.Common.{arith}
use Rattle.class_verify.specs.Ready.{plain}
use Rattle.class_verify.proofs.Sweeping.{met_later}
use Rattle.class_verify.proofs.walk.step.Goals as goal

pub returns-in-Some-clause-met : goal.returns-in-Some-clause-met
returns-in-Some-clause-met c =
    met_later (plain c.args.body.now) c.check.new.spot.sweep c.check.new.spot.pc c.in-Some.pc c.check.new.spot.shape.locals
    (omega (arith, c.in-Some.ensures.rises, c.in_ok-check.ensures.place)) c.in_ok-check.ensures.met
