use Rattle.std.proofs.Common.{◌<◌, ◌-◌, length}
use Rattle.class_verify.specs.Ready.{plain, seen}
use Rattle.class_verify.specs.Sweeps.{IsMet}
use Rattle.class_verify.specs.Walks.{Stands}
use Rattle.class_verify.proofs.walk.walk.Given as goal

abbrev pub invariant-points : goal.invariant-points
invariant-points l = record {
  stands : Stands (plain l.body) (seen l.spot);
  inside : l.spot.pc < length l.body.code.now;
  met : IsMet (plain l.body) l.spot.sweep l.spot.pc l.spot.shape.locals;
}

abbrev pub decreases-points : goal.decreases-points
decreases-points l = length l.body.code.now - l.spot.pc
