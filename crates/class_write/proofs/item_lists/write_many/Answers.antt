use Rattle.class_write.proofs.Faults.{passed_on}
use Rattle.class_write.proofs.Lists.{refused_at, one_more, all_flat, all_shaped, all_fit}
use Rattle.class_write.proofs.item_lists.write_many.Goals as goal

pub returns-in_err-write-clause-fault : goal.returns-in_err-write-clause-fault
returns-in_err-write-clause-fault g c =
    passed_on _ _ _ c.from_residual.ensures.1 (refused_at _ _ c.loop-i.invariant c.loop-i-test.true c.index-items-i.is c.in_err-write.ensures.fault)

pub loop-i-preserved : goal.loop-i-preserved
loop-i-preserved g c = one_more _ c.loop-i.invariant c.loop-i-test.true c.index-items-i.is c.in_ok-write.ensures.ok c.in_ok-write.ensures.shaped c.in_ok-write.ensures.none

pub returns : goal.returns
returns g c = record {
  ok = all_flat c.loop-i.invariant c.loop-i-test.false;
  shaped = all_shaped c.loop-i.invariant c.loop-i-test.false;
  none = all_fit c.loop-i.invariant c.loop-i-test.false;
  fault = tt;
}
