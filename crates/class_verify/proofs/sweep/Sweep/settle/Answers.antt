use Rattle.std.proofs.Common.{◌≡◌, true}
use Rattle.class_verify.specs.Kinds.{all_fit}
use Rattle.class_verify.specs.Ready.{plain}
use Rattle.class_verify.proofs.Sweeping.{settled_by_known}
use Rattle.class_verify.proofs.sweep.Sweep.settle.Goals as goal

pub returns-then-fits : goal.returns-then-fits
returns-then-fits c =
    let fit : all_fit c.args.locals.now c.args.self.now.known ≡ true = cc in
    settled_by_known (plain c.args.body.now) c.args.self.now c.args.pc c.args.locals.now c.requires.met fit
