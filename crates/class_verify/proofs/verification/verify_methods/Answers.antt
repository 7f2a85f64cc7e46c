use Rattle.std.proofs.Common.{ℕ, Option, subst, arith}
use Rattle.std.specs.Prelude.{MatchOption}
use Rattle.class_verify.specs.declared.cause.Cause.{Cause}
use Rattle.class_verify.specs.Verified.{MethodFits, IsMethodMisfit}
use Rattle.class_verify.proofs.Verifying.{misfit_in, one_more, all_of_it}
use Rattle.class_verify.proofs.verification.verify_methods.Goals as goal

pub returns-in-Some-clause-fault : goal.returns-in-Some-clause-fault
returns-in-Some-clause-fault c =
    let J : Option (ℕ × Cause) → Type 0 = λ o. MatchOption o (MethodFits c.args.class.now c.method-item.result) (λ x. IsMethodMisfit c.args.class.now c.method-item.result x.0 x.1) in
    misfit_in c.args.class.now c.args.methods.now c.loop-method.method-index c.method-item.result c.in-Some.pc c.in-Some.cause c.refusal.result (omega arith) c.method-item.is
    c.loop-method.invariant (subst J c.in-Some.is c.in_ok-found.ensures) c.refusal.ensures

pub loop-method-preserved : goal.loop-method-preserved
loop-method-preserved c =
    let J : Option (ℕ × Cause) → Type 0 = λ o. MatchOption o (MethodFits c.args.class.now c.method-item.result) (λ x. IsMethodMisfit c.args.class.now c.method-item.result x.0 x.1) in
    one_more (MethodFits c.args.class.now) c.args.methods.now c.loop-method.method-index c.method-item.result (omega arith) c.method-item.is
    c.loop-method.invariant (subst J c.in_default.is c.in_ok-found.ensures)

pub returns-clause-ok : goal.returns-clause-ok
returns-clause-ok c = all_of_it (MethodFits c.args.class.now) c.args.methods.now c.loop-method.method-index (omega arith) c.loop-method.invariant
