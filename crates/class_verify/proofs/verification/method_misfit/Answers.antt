use Rattle.std.proofs.Common.{◌≡◌, Some, sym, ap, ◌∙◌}
use Rattle.std.specs.Prelude.{option_map}
use Rattle.class_code.specs.Codes.{parts, code_in}
use Rattle.class_verify.proofs.Sizes.{code_in-IsSized}
use Rattle.class_verify.proofs.Verifying.{fits_without}
use Rattle.class_verify.proofs.verification.method_misfit.Goals as goal

pub returns-in-None : goal.returns-in-None
returns-in-None c =
    fits_without c.args.class.now c.args.method.now
    (ap code_in (sym c.as_slice.ensures) ∙ sym c.code_of.ensures ∙ ap (option_map parts) c.in-None.is)

pub code_misfit-requires : goal.code_misfit-requires
code_misfit-requires c =
    let there : code_in c.args.method.now.attributes ≡ Some (parts c.in-Some.code) =
    ap code_in (sym c.as_slice.ensures) ∙ sym c.code_of.ensures ∙ ap (option_map parts) c.in-Some.is in
    let sized = code_in-IsSized c.args.class.now.pool c.args.method.now (parts c.in-Some.code) c.requires.method there in
    record { tables = c.requires.tables; code = there; some = sized.some; short = sized.short; frames = sized.frames }
