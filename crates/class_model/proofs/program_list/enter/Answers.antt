use Rattle.std.proofs.Common.{sym, ◌∙◌, ap, is_some, subst}
use Rattle.class_model.specs.Programs.{LeastAmong}
use Rattle.class_model.proofs.ProgramLemmas.{IsEntered, index_more, least_fresh, least_first, least_of_two, absent, present, named_at}
use Rattle.class_model.proofs.program_list.enter.Goals as goal

pub returns-then-is_none-clause-index : goal.returns-then-is_none-clause-index
returns-then-is_none-clause-index c =
    index_more _ _ _ _ _ c.index-classes-at.result (record { within = c.requires.at; named = λ d. named_at _ _ _ c.requires.at c.index-classes-at.is d ∙ sym c.in_ok-name.ensures }) c.in_ok-insert.ensures.updates.0 c.requires.index

pub returns-then-is_none-clause-least : goal.returns-then-is_none-clause-least
returns-then-is_none-clause-least c =
    let entered : IsEntered c.args.classes.now c.args.at c.in_ok-name.name = record { within = c.requires.at; named = λ d. named_at _ _ _ c.requires.at c.index-classes-at.is d ∙ sym c.in_ok-name.ensures } in
    least_fresh _ _ _ _ c.index-classes-at.result entered (absent c.args.classes.now c.args.at c.in_ok-name.name _ (c.requires.index c.in_ok-name.name) (ap is_some (sym c.in_ok-insert.ensures.old) ∙ c.if-is_none.ensures)) c.requires.least

pub returns-in-None-clause-index : goal.returns-in-None-clause-index
returns-in-None-clause-index c =
    index_more _ _ _ _ _ c.index-classes-at.result (record { within = c.requires.at; named = λ d. named_at _ _ _ c.requires.at c.index-classes-at.is d ∙ sym c.in_ok-name.ensures }) c.in_ok-insert.ensures.updates.0 c.requires.index

pub returns-in-None-clause-least : goal.returns-in-None-clause-least
returns-in-None-clause-least c =
    let entered : IsEntered c.args.classes.now c.args.at c.in_ok-name.name = record { within = c.requires.at; named = λ d. named_at _ _ _ c.requires.at c.index-classes-at.is d ∙ sym c.in_ok-name.ensures } in
    least_first _ _ _ c.index-classes-at.result entered (present c.args.classes.now c.args.at c.in_ok-name.name _ (c.requires.index c.in_ok-name.name) (ap is_some (sym c.in_ok-insert.ensures.old) ∙ c.if-is_none.ensures)) (subst (LeastAmong c.args.classes.now c.args.at) c.in-None.is c.requires.least)

pub returns-in-Some-clause-index : goal.returns-in-Some-clause-index
returns-in-Some-clause-index c =
    index_more _ _ _ _ _ c.index-classes-at.result (record { within = c.requires.at; named = λ d. named_at _ _ _ c.requires.at c.index-classes-at.is d ∙ sym c.in_ok-name.ensures }) c.in_ok-insert.ensures.updates.0 c.requires.index

pub returns-in-Some-clause-least : goal.returns-in-Some-clause-least
returns-in-Some-clause-least c =
    let entered : IsEntered c.args.classes.now c.args.at c.in_ok-name.name = record { within = c.requires.at; named = λ d. named_at _ _ _ c.requires.at c.index-classes-at.is d ∙ sym c.in_ok-name.ensures } in
    least_of_two _ _ _ _ _ c.index-classes-at.result entered (present c.args.classes.now c.args.at c.in_ok-name.name _ (c.requires.index c.in_ok-name.name) (ap is_some (sym c.in_ok-insert.ensures.old) ∙ c.if-is_none.ensures)) (subst (LeastAmong c.args.classes.now c.args.at) c.in-Some.is c.requires.least) c.lesser.ensures
