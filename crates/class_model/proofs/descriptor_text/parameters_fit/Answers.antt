use Rattle.std.proofs.Common.{◌+◌, sym, ◌∙◌, arith}
use Rattle.class_model.proofs.Parameters.{closing, none_there, passed, too_much, nothing_left, shorter, types_of}
use Rattle.class_model.proofs.descriptor_text.parameters_fit.Goals as goal

pub returns-then-first-eq41 : goal.returns-then-first-eq41
returns-then-first-eq41 c =
    c.is_return_descriptor.ensures ∙ sym (c.loop-first.invariant.0 ∙ closing c.args.most c.loop-first.used c.loop-first.rest.now _ _ c.in-Some.ensures.cases.0 c.if-first-eq41.true c.loop-first.invariant.1)

pub returns-in-None : goal.returns-in-None
returns-in-None c =
    sym (c.loop-first.invariant.0 ∙ none_there c.args.most c.loop-first.used c.loop-first.rest.now _ _ c.in-Some.ensures.cases.0 c.if-first-eq41.false (sym c.in-None.ensures))

pub returns-then-used-from : goal.returns-then-used-from
returns-then-used-from c =
    sym (c.loop-first.invariant.0 ∙ passed c.args.most c.loop-first.used c.loop-first.rest.now _ c.in-Some-field_type_in.more.now _ _ c.from-used.result c.in-Some.ensures.cases.0 c.if-first-eq41.false (sym c.in-Some-field_type_in.ensures) (c.from-used.ensures ∙ c.slots.ensures.value)
    ∙ too_much c.args.most (c.loop-first.used + c.from-used.result) (types_of c.in-Some-field_type_in.more.now) (omega arith))

pub loop-first-smaller : goal.loop-first-smaller
loop-first-smaller c = shorter _ _ _ (sym c.in-Some-field_type_in.ensures)

pub loop-first-preserved : goal.loop-first-preserved
loop-first-preserved c =
    (c.loop-first.invariant.0 ∙ passed c.args.most c.loop-first.used c.loop-first.rest.now _ c.in-Some-field_type_in.more.now _ _ c.from-used.result c.in-Some.ensures.cases.0 c.if-first-eq41.false (sym c.in-Some-field_type_in.ensures) (c.from-used.ensures ∙ c.slots.ensures.value), omega arith)

pub returns : goal.returns
returns c = sym (c.loop-first.invariant.0 ∙ nothing_left c.args.most c.loop-first.used c.loop-first.rest.now c.in_default.ensures.cases)
