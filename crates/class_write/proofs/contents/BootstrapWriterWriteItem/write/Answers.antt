use Rattle.std.proofs.Common.{sym}
use Rattle.class_write.specs.Misfits as misfits
use Rattle.class_write.proofs.Faults.{passed_on, refuses_later, unless_true}
use Rattle.class_write.proofs.contents.BootstrapWriterWriteItem.write.Goals as goal

pub returns-in_err-write_counted-clause-fault : goal.returns-in_err-write_counted-clause-fault
unfolding misfits.bootstrap
returns-in_err-write_counted-clause-fault c =
    passed_on _ _ _ c.from_residual-in_err-write_counted.ensures.1
    (refuses_later _ _ _ (unless_true _ _ (sym c.if-not-is_handle.ensures)) (rw c.as_slice-arguments.ensures at c.in_err-write_counted.ensures.fault))
