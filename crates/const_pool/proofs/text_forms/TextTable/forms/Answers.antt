use Rattle.std.proofs.Common.{Some, None, ◌∙◌, sym, ap, refl, option_copied}
use Rattle.const_pool.proofs.Forms.{none_at_zero, forms_at}
use Rattle.const_pool.proofs.text_forms.TextTable.forms.Goals as goal

pub returns-then-number-eq0 : goal.returns-then-number-eq0
returns-then-number-eq0 c = none_at_zero c.args.pool.now c.args.number c.if-number-eq0.true

pub returns-in-Some : goal.returns-in-Some
returns-in-Some c =
    forms_at c.args.pool.now c.args.self.now c.args.number (Some c.in-Some.forms.now) c.requires c.if-number-eq0.false
    (ap option_copied (sym c.in-Some.is) ∙ c.at.ensures ∙ rw (c.as_slice.ensures.value, c.from.ensures) refl)

pub returns-in-None : goal.returns-in-None
returns-in-None c =
    forms_at c.args.pool.now c.args.self.now c.args.number None c.requires c.if-number-eq0.false
    (ap option_copied (sym c.in-None.is) ∙ c.at.ensures ∙ rw (c.as_slice.ensures.value, c.from.ensures) refl)
