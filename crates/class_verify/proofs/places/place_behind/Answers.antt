use Rattle.std.proofs.Common.{ap}
use Rattle.class_verify.specs.Places.{length_by}
use Rattle.class_verify.proofs.Points.{next_is}
use Rattle.class_verify.proofs.places.place_behind.Goals as goal

pub returns-clause-rises : goal.returns-clause-rises
returns-clause-rises c = next_is c.args.code.now c.args.pc c.args.instr.now.length c.within.result (ap length_by c.requires.decoded) c.within.ensures
