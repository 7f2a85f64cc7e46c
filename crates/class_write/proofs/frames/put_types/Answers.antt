use Rattle.class_write.proofs.Faults.{passed_on}
use Rattle.class_write.proofs.Lists.{refused_item, counted_fit}
use Rattle.class_write.proofs.frames.put_types.Goals as goal

pub returns-in_err-write_many-clause-fault : goal.returns-in_err-write_many-clause-fault
returns-in_err-write_many-clause-fault c = passed_on _ _ _ c.from_residual.ensures.1 (refused_item _ _ _ _ c.requires c.in_err-write_many.ensures.fault)

pub returns-clause-none : goal.returns-clause-none
returns-clause-none c = counted_fit _ _ _ c.requires c.in_ok-write_many.ensures.none
