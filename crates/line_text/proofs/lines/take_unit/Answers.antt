use Rattle.std.proofs.Common.{sym, ◌∙◌, ap, ◌∷◌}
use Rattle.std.specs.Char.Utf16.{utf16_chars}
use Rattle.line_text.proofs.Spelled.{last_taken, pair_taken, lone_taken}
use Rattle.line_text.proofs.lines.take_unit.Goals as goal

pub returns-in_default-clause-spelled : goal.returns-in_default-clause-spelled
returns-in_default-clause-spelled c =
    last_taken _ _ c.in_default.ensures.cases ∙ ap (λ o. o ∷ utf16_chars c.args.behind.now) (sym c.lone_char.ensures)

pub returns-in-Some-pair_char-clause-spelled : goal.returns-in-Some-pair_char-clause-spelled
returns-in-Some-pair_char-clause-spelled c = pair_taken _ _ _ _ _ c.in-Some.ensures.cases.0 c.in-Some-pair_char.ensures

pub returns-in-None-clause-spelled : goal.returns-in-None-clause-spelled
returns-in-None-clause-spelled c =
    lone_taken _ _ _ _ c.in-Some.ensures.cases.0 c.in-None.ensures ∙ ap (λ o. o ∷ utf16_chars c.args.behind.now) (sym c.lone_char-in-None.ensures)
