use Rattle.std.proofs.Common.{◌≡◌, take, refl}
use Rattle.class_write.specs.Misfits as misfits
use Rattle.class_write.proofs.Lists.{front_more, told_next, told_all}
use Rattle.class_write.proofs.members.doubles.Goals as goal

pub loop-i-preserved : goal.loop-i-preserved
loop-i-preserved c =
    let before = take c.loop-i.i c.args.members.now in
    let told : misfits.is_double c.args.pool.now c.args.members.now c.loop-i.i c.index-members-i.result ≡ c.in_ok-double.double = c.in_ok-double.ensures.double before c.loop-i.invariant.1 in (
      rw c.in_ok-push.ensures.ok (told_next _ c.args.members.now c.loop-i.i c.index-members-i.result _ _ _ c.loop-i-test.true c.index-members-i.is told c.loop-i.invariant.0),
      rw (front_more c.args.members.now c.loop-i.i c.index-members-i.result c.loop-i-test.true c.index-members-i.is) (c.in_ok-double.ensures.seen before c.loop-i.invariant.1),
    )

pub loop-i-init : goal.loop-i-init
loop-i-init c = (rw c.new-doubles.ensures refl, c.new-seen.ensures c.args.pool.now)

pub returns-clause-doubles : goal.returns-clause-doubles
returns-clause-doubles c =
    told_all (misfits.is_double c.args.pool.now c.args.members.now) c.args.members.now c.loop-i.i c.loop-i.doubles _ c.loop-i-test.false c.loop-i.invariant.0
