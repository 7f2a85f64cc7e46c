use Rattle.std.proofs.Common.{◌≡◌, ◌<◌, ℕ, Bool, length, sym, ap, subst, arith}
use Rattle.std.specs.Bool.{OnTrue}
use Rattle.class_verify.specs.declared.cause.Stop.{Stop}
use Rattle.class_verify.specs.Bodies.{Point}
use Rattle.class_verify.specs.Misfits.{cause_at}
use Rattle.class_verify.specs.Ready.{plain, seen}
use Rattle.class_verify.specs.Stops.{StopsBy}
use Rattle.class_verify.specs.Sweeps.{IsMet}
use Rattle.class_verify.specs.Walks.{Moves, Stands, IsFirstFound}
use Rattle.class_verify.proofs.Walking.{starts, goes_on, ends, finds}
use Rattle.class_verify.proofs.walk.walk.Goals as goal

pub points-init : goal.points-init
points-init c =
    let P : Point → Type 0 = λ p. Stands (plain c.args.body.now) p in
    let first : c.args.spot.now.pc ≡ 0 = ap (λ (p : Point). p.pc) c.requires.first in
    record {
      stands = subst P (sym c.requires.first) (starts (plain c.args.body.now));
      inside = omega (arith, first, c.requires.ready.some);
      met = c.requires.met;
    }

pub points-preserved : goal.points-preserved
points-preserved c =
    let M : Bool → Type 0 = λ b. Moves (plain c.args.body.now) b (seen c.points.spot) (seen c.step.new.spot) in
    let N : Bool → Type 0 = λ b. OnTrue b (IsMet (plain c.args.body.now) c.step.new.spot.sweep c.step.new.spot.pc c.step.new.spot.shape.locals) in
    let W : Bool → Type 0 = λ b. OnTrue b (c.step.new.spot.pc < length c.args.body.now.code.now) in
    record {
      stands = goes_on (plain c.args.body.now) (seen c.points.spot) (seen c.step.new.spot) c.points.invariant.stands c.in-Ok-true.ensures.cause
          (subst M c.in-Ok-true.field-0-test c.in-Ok-true.ensures.moves);
      inside = subst W c.in-Ok-true.field-0-test c.in-Ok-true.ensures.within;
      met = subst N c.in-Ok-true.field-0-test c.in-Ok-true.ensures.met;
    }

pub returns-in-Ok-false : goal.returns-in-Ok-false
returns-in-Ok-false c =
    let M : Bool → Type 0 = λ b. Moves (plain c.args.body.now) b (seen c.points.spot) (seen c.step.new.spot) in
    ends (plain c.args.body.now) (seen c.points.spot) c.points.invariant.stands c.in-Ok-false.ensures.cause
    (subst M c.in-Ok-false.field-0-test c.in-Ok-false.ensures.moves)

pub returns-in-Err : goal.returns-in-Err
returns-in-Err c =
    let S : Stop → Type 0 = StopsBy (cause_at (plain c.args.body.now) (seen c.points.spot)) in
    let F : ℕ → Type 0 = λ n. IsFirstFound (plain c.args.body.now) n c.in_ok-cause_in-in-Err.field-0 in
    subst F (sym c.in-Err.ensures.stays)
    (finds (plain c.args.body.now) (seen c.points.spot) c.in_ok-cause_in-in-Err.field-0 c.points.invariant.stands
    (subst S c.in_ok-cause_in-in-Err.ensures c.in-Err.ensures.cause))
