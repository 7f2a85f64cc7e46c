use Rattle.std.proofs.Common.{sym, ◌∙◌}
use Rattle.class_model.proofs.Parameters.{shorter}
use Rattle.class_code.proofs.DescriptorLemmas.{result_closing, no_result_there, result_passed, no_result_left}
use Rattle.class_code.proofs.types.returned_behind.Goals as goal

pub returns-then-first-eq41 : goal.returns-then-first-eq41
returns-then-first-eq41 c =
    result_closing c.returned_in.result c.loop-first.rest.now _ _ c.in-Some.ensures.cases.0 c.if-first-eq41.true c.returned_in.ensures
    ∙ sym c.loop-first.invariant

pub returns-in-None : goal.returns-in-None
returns-in-None c =
    sym (c.loop-first.invariant ∙ no_result_there c.loop-first.rest.now _ _ c.in-Some.ensures.cases.0 c.if-first-eq41.false (sym c.in-None.ensures))

pub loop-first-smaller : goal.loop-first-smaller
loop-first-smaller c = shorter _ _ _ (sym c.in-Some-field_type_in.ensures)

pub loop-first-preserved : goal.loop-first-preserved
loop-first-preserved c =
    c.loop-first.invariant
    ∙ result_passed c.loop-first.rest.now _ c.in-Some-field_type_in.more.now _ _ c.in-Some.ensures.cases.0 c.if-first-eq41.false (sym c.in-Some-field_type_in.ensures)

pub returns : goal.returns
returns c = sym (c.loop-first.invariant ∙ no_result_left c.loop-first.rest.now c.in_default.ensures.cases)
