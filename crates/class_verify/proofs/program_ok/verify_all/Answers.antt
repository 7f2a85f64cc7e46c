use Rattle.std.proofs.Common.{arith}
use Rattle.class_verify.specs.Verified.{Fits}
use Rattle.class_verify.proofs.Verifying.{unfit_class, one_more, all_of_it}
use Rattle.class_verify.proofs.program_ok.verify_all.Goals as goal

pub returns-in-Err-clause-fault : goal.returns-in-Err-clause-fault
returns-in-Err-clause-fault c =
    unfit_class c.args.classes.now c.loop-class.class-index c.class-item.result c.in-Err.fault (omega arith) c.class-item.is
    c.loop-class.invariant c.in-Err.ensures.fault

pub loop-class-preserved : goal.loop-class-preserved
loop-class-preserved c =
    one_more Fits c.args.classes.now c.loop-class.class-index c.class-item.result (omega arith) c.class-item.is
    c.loop-class.invariant c.in_default.ensures.ok

pub returns-clause-ok : goal.returns-clause-ok
returns-clause-ok c = all_of_it Fits c.args.classes.now c.loop-class.class-index (omega arith) c.loop-class.invariant
