use Rattle.std.proofs.Common.{List, Option, sym, ◌∙◌, ap}
use Rattle.tree_value.specs.declared.value.ValueType.{ValueType}
use Rattle.class_model.proofs.Parameters.{shorter}
use Rattle.task_annotations.proofs.Parameters.{closing, none_there, passed, nothing_left, read_on}
use Rattle.task_annotations.proofs.signature.parameters_in.Goals as goal

pub returns-then-first-eq41 : goal.returns-then-first-eq41
returns-then-first-eq41 c =
    closing c.loop-first.parameters.items c.returned_in.result c.loop-first.rest.now _ _ c.in-Some.ensures.cases.0 c.if-first-eq41.true c.returned_in.ensures
    ∙ sym c.loop-first.invariant

pub returns-in-None : goal.returns-in-None
returns-in-None c =
    sym (c.loop-first.invariant ∙ none_there c.loop-first.parameters.items c.loop-first.rest.now _ _ c.in-Some.ensures.cases.0 c.if-first-eq41.false (sym c.in-None.ensures))

pub loop-first-smaller : goal.loop-first-smaller
loop-first-smaller c = shorter _ _ _ (sym c.in-Some-field_type_in.ensures)

pub loop-first-preserved : goal.loop-first-preserved
loop-first-preserved c =
    c.loop-first.invariant
    ∙ passed c.loop-first.parameters.items c.loop-first.rest.now _ c.in-Some-field_type_in.more.now _ _ c.value_type.result c.in-Some.ensures.cases.0 c.if-first-eq41.false (sym c.in-Some-field_type_in.ensures) c.value_type.ensures
    ∙ ap (λ (types : List (Option ValueType)). read_on types c.in-Some-field_type_in.more.now) (sym c.in_ok-push-in-Some-field_type_in.ensures.items)

pub returns : goal.returns
returns c = sym (c.loop-first.invariant ∙ nothing_left c.loop-first.parameters.items c.loop-first.rest.now c.in_default.ensures.cases)
