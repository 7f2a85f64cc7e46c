use Rattle.std.proofs.Common.{◌≡◌, None, sym}
use Rattle.std.specs.Prelude.{slice_get}
use Rattle.class_verify.specs.Ready.{plain}
use Rattle.class_verify.specs.Sweeps.{begins_by}
use Rattle.class_verify.proofs.Sweeping.{all_caught}
use Rattle.class_verify.proofs.sweep.Sweep.begin.Goals as goal

pub returns-clause-caught : goal.returns-clause-caught
returns-clause-caught c =
    let none : begins_by c.args.pc (slice_get c.loop-range.self.ranges.items c.loop-range.self.begun) ≡ None = cc in
    sym (all_caught (plain c.args.body.now) c.loop-range.self c.args.pc c.args.locals.now c.loop-range.invariant.met none)
