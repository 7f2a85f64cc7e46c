use Rattle.std.proofs.Common.{sym, ◌∙◌}
use Rattle.class_model.proofs.ProgramLemmas.{one_is_lesser, other_is_lesser, named_at, not_greater}
use Rattle.class_model.proofs.program_list.lesser.Goals as goal

pub returns-in-Greater : goal.returns-in-Greater
returns-in-Greater c =
    other_is_lesser _ _ _ _ _ (λ d. named_at _ _ _ c.requires.one c.index-classes-one.is d ∙ sym c.name.ensures) (λ d. named_at _ _ _ c.requires.other c.index-classes-other.is d ∙ sym c.name-2.ensures) (sym c.in-Greater.ensures)

pub returns-in_default : goal.returns-in_default
returns-in_default c =
    one_is_lesser _ _ _ _ _ (λ d. named_at _ _ _ c.requires.one c.index-classes-one.is d ∙ sym c.name.ensures) (λ d. named_at _ _ _ c.requires.other c.index-classes-other.is d ∙ sym c.name-2.ensures) (not_greater _ _ c.cmp.ensures c.in_default.not-Greater)
