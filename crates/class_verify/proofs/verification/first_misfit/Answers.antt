use Rattle.std.proofs.Common.{ℕ, Option, sym, subst}
use Rattle.std.specs.Prelude.{MatchOption}
use Rattle.class_verify.specs.declared.cause.Cause.{Cause}
use Rattle.class_verify.specs.Misfits.{BodyFits, IsFirstMisfit}
use Rattle.class_verify.specs.Ready.{plain}
use Rattle.class_verify.proofs.Firsts.{earlier_is_first}
use Rattle.class_verify.proofs.verification.first_misfit.Goals as goal

pub returns : goal.returns
returns c =
    let P : Option (ℕ × Cause) → Type 0 = λ o. MatchOption o (BodyFits (plain c.args.body.now)) (λ m. IsFirstMisfit (plain c.args.body.now) m.0 m.1) in
    subst P (sym c.earlier.ensures) (earlier_is_first (plain c.args.body.now) c.in_ok-found.found c.least_stray.result c.in_ok-found.ensures c.least_stray.ensures)
