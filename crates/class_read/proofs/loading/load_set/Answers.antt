use Rattle.std.proofs.Common.{subst}
use Rattle.class_read.specs.ClassFiles.{Files, AreClassesOf}
use Rattle.class_read.specs.Loading.{IsLoadFaultOf}
use Rattle.class_read.proofs.Acceptance.{accepted, only_fault}
use Rattle.class_read.proofs.loading.load_set.Goals as goal

pub returns-in-Err-clause-only : goal.returns-in-Err-clause-only
returns-in-Err-clause-only c =
    only_fault c.args.files.now c.in-Err.fault (subst (λ (fs : Files). IsLoadFaultOf fs c.in-Err.fault) c.as_slice.ensures.files c.in-Err.ensures.fault)

pub returns-in-Ok-clause-only : goal.returns-in-Ok-clause-only
returns-in-Ok-clause-only c =
    let read : AreClassesOf c.args.files.now c.in-Ok.classes.items = subst (λ (fs : Files). AreClassesOf fs c.in-Ok.classes.items) c.as_slice.ensures.files c.in-Ok.ensures.read in
    accepted c.args.files.now c.in-Ok.classes.items c.verified.result read c.verified.ensures.ok c.verified.ensures.fault
