use Rattle.class_write.proofs.Complete.{pool_none}
use Rattle.class_write.proofs.Faults.{passed_on, memory_passed_on, refuses_named}
use Rattle.class_write.proofs.header.put_pool.Goals as goal

pub returns-in_err-bytes-clause-fault : goal.returns-in_err-bytes-clause-fault
returns-in_err-bytes-clause-fault c = passed_on _ _ _ c.from_residual.ensures.1 (refuses_named _ _ c.in_err-bytes.ensures.fault)

pub returns-in_err-extend_from_slice-clause-fault : goal.returns-in_err-extend_from_slice-clause-fault
returns-in_err-extend_from_slice-clause-fault c = memory_passed_on _ _ c.from_residual-in_err-extend_from_slice.ensures.1

pub returns-clause-none : goal.returns-clause-none
returns-clause-none c = pool_none c.args.pool.now c.in_ok-bytes.ensures.written.0
