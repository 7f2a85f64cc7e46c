use Rattle.class_write.proofs.Faults.{passed_on}
use Rattle.class_write.proofs.Lists.{refused_count, refused_item, counted_fit}
use Rattle.class_write.proofs.item_lists.write_counted.Goals as goal

pub returns-in_err-put_count-clause-fault : goal.returns-in_err-put_count-clause-fault
returns-in_err-put_count-clause-fault g c = passed_on _ _ _ c.from_residual.ensures.1 (refused_count _ _ _ _ c.in_err-put_count.ensures.fault)

pub returns-in_err-write_many-clause-fault : goal.returns-in_err-write_many-clause-fault
returns-in_err-write_many-clause-fault g c =
    passed_on _ _ _ c.from_residual-in_err-write_many.ensures.1 (refused_item _ _ _ _ c.in_ok-put_count.ensures.few c.in_err-write_many.ensures.fault)

pub returns-clause-none : goal.returns-clause-none
returns-clause-none g c = counted_fit _ _ _ c.in_ok-put_count.ensures.few c.in_ok-write_many.ensures.none
