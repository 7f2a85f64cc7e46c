use Rattle.std.proofs.Common.{sym, ◌∙◌, ap, ◌∷◌, length}
use Rattle.std.specs.Char.Utf16.{utf16_chars}
use Rattle.class_model.proofs.TextLemmas.{text_behind}
use Rattle.line_text.specs.Lines.{units_of_name}
use Rattle.line_text.proofs.Spelled.{last_taken, pair_taken, lone_taken, units_of_name-behind, no_units}
use Rattle.line_text.proofs.lines.take_unit_of_name.Goals as goal

pub returns-in_default-clause-spelled : goal.returns-in_default-clause-spelled
returns-in_default-clause-spelled c =
    let none = no_units _ (sym c.in_default.ensures.value) c.requires in
    last_taken _ _ (ap length none) ∙ ap (λ o. o ∷ utf16_chars (units_of_name c.args.behind.now)) (sym c.lone_char.ensures)

pub returns-in-Some-pair_char-clause-spelled : goal.returns-in-Some-pair_char-clause-spelled
returns-in-Some-pair_char-clause-spelled c =
    pair_taken _ _ _ _ _ (units_of_name-behind _ _ _ (sym c.in-Some.ensures.value) c.requires) c.in-Some-pair_char.ensures

pub returns-in-Some-pair_char-clause-text : goal.returns-in-Some-pair_char-clause-text
returns-in-Some-pair_char-clause-text c = text_behind _ _ _ (sym c.in-Some.ensures.value) c.requires

pub returns-in-None-clause-spelled : goal.returns-in-None-clause-spelled
returns-in-None-clause-spelled c =
    lone_taken _ _ _ _ (units_of_name-behind _ _ _ (sym c.in-Some.ensures.value) c.requires) c.in-None.ensures
    ∙ ap (λ o. o ∷ utf16_chars (units_of_name c.args.behind.now)) (sym c.lone_char-in-None.ensures)
