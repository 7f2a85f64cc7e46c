use Rattle.std.proofs.Common.{sym, ap, ◌∙◌}
use Rattle.class_code.specs.Codes.{parts}
use Rattle.class_verify.specs.Ready.{plain}
use Rattle.class_code.specs.Types.{has_float}
use Rattle.class_verify.proofs.Verifying.{misfit_of_descriptor, judged_ok}
use Rattle.class_verify.proofs.verification.code_misfit.Goals as goal

pub returns-then-has_float : goal.returns-then-has_float
returns-then-has_float c =
    misfit_of_descriptor c.args.class.now c.args.method.now (parts c.args.code) c.requires.code
    (ap has_float (sym c.text_of.ensures) ∙ sym c.has_float.ensures ∙ c.if-has_float.true)

pub returns : goal.returns
returns c =
    judged_ok c.args.class.now c.args.method.now (parts c.args.code) (plain c.in_ok-body.body) c.first_misfit.result c.in_ok-body.ensures.body c.requires.code
    (ap has_float (sym c.text_of.ensures) ∙ sym c.has_float.ensures ∙ c.if-has_float.false)
    c.first_misfit.ensures
