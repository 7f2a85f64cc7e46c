use Rattle.std.proofs.Common.{sym}
use Rattle.class_verify.proofs.Points.{next_is}
use Rattle.class_verify.proofs.places.next_place.Goals as goal

pub returns-in-Some-clause-rises : goal.returns-in-Some-clause-rises
returns-in-Some-clause-rises c =
    next_is c.args.code.now c.args.pc c.in-Some.len c.within.result (sym c.in-Some.ensures) c.within.ensures
