use Rattle.std.proofs.Common.{sym, subst}
use Rattle.class_verify.specs.declared.fault.VerifyFault.{VerifyFault}
use Rattle.class_verify.specs.Verified.{IsRefusal, named, memory}
use Rattle.class_verify.proofs.verification.refusal.Goals as goal

pub returns-in-Err : goal.returns-in-Err
returns-in-Err c = memory

pub returns-in-Ok : goal.returns-in-Ok
returns-in-Ok c =
    let P : VerifyFault → Type 0 = λ f. IsRefusal c.args.class.now c.args.method.now c.args.pc c.args.cause f in
    subst P (sym c.fault_of.ensures) (named c.in-Ok.id c.in-Ok.ensures)
