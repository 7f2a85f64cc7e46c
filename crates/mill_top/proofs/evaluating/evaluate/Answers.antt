use Rattle.std.proofs.Common.{[], Some, Err, IfSome, FitsSigned, sym, ap, subst}
use Rattle.std.specs.Int.{w32}
use Rattle.std.proofs.lemmas.Int.{to_z-of_z}
use Rattle.mill_top.specs.declared.reply.Reply.TheVariants.{Value}
use Rattle.mill_top.specs.Answers.{IsAnswerOfLoaded}
use Rattle.mill_top.specs.Chains.{IsChain}
use Rattle.mill_top.specs.Walks.{IsWalked}
use Rattle.mill_top.proofs.AnswerLaws.{evaluated_answer, walked_evaluated, stopped_evaluated, walked_some, accepted_file}
use Rattle.mill_top.proofs.PlanLaws.{plan-chain}
use Rattle.mill_top.proofs.PlannedLaws.{taken_stands}
use Rattle.mill_top.proofs.evaluating.evaluate.Goals as goal

pub take_all-requires-clause-chain : goal.take_all-requires-clause-chain
take_all-requires-clause-chain g c =
    let own = accepted_file c.args.inputs.now c.args.task.now c.requires.accepted in
    subst (IsChain c.args.inputs.now.files []) (sym c.requires.is_plan) (plan-chain c.args.inputs.now.files c.args.task.now own.1.0 own.0 own.1.1)

pub unreachable-requires : goal.unreachable-requires
unreachable-requires g c =
    let own = accepted_file c.args.inputs.now c.args.task.now c.requires.accepted in
    let old = g.S.Store.content c.args.out.now.store in
    let new = g.S.Store.content c.take_all.new.out.store in
    walked_some c.args.inputs.now c.args.task.now own.1.0 c.args.planned.now c.args.out.now.numbers c.take_all.new.out.numbers old new c.take_all.new.takes
    c.requires.is_plan own.0 own.1.1
    (subst (λ value. IsWalked c.args.inputs.now c.args.planned.now c.args.out.now.numbers c.take_all.new.out.numbers old new c.take_all.new.takes [] value)
    c.in-Ok-None.field-0-is c.in-Ok-None.ensures.ok)

pub returns-in-Ok-Some-clause-answer : goal.returns-in-Ok-Some-clause-answer
returns-in-Ok-Some-clause-answer g c =
    let own = accepted_file c.args.inputs.now c.args.task.now c.requires.accepted in
    let before = g.S.Store.faults c.args.out.now.store in
    let now = g.S.Store.faults c.take_all.new.out.store in
    let old = g.S.Store.content c.args.out.now.store in
    let new = g.S.Store.content c.take_all.new.out.store in
    let numbers = c.args.out.now.numbers in
    let takes = c.take_all.new.takes in
    let fits : FitsSigned w32 c.in-Ok-Some.value = subst (λ value. IfSome value (FitsSigned w32)) c.in-Ok-Some.field-0-is c.in-Ok-Some.ensures.fits in
    let walked : IsWalked c.args.inputs.now c.args.planned.now numbers c.take_all.new.out.numbers old new takes [] (Some c.in-Ok-Some.value) =
    subst (λ value. IsWalked c.args.inputs.now c.args.planned.now numbers c.take_all.new.out.numbers old new takes [] value) c.in-Ok-Some.field-0-is c.in-Ok-Some.ensures.ok in
    subst (λ value. IsAnswerOfLoaded c.args.inputs.now c.args.task.now before now numbers old new (Value value) takes) (sym (to_z-of_z w32 c.in-Ok-Some.value fits))
    (evaluated_answer c.args.inputs.now c.args.task.now before now numbers old new (Value c.in-Ok-Some.value) takes c.requires.accepted
    (walked_evaluated c.args.inputs.now c.args.task.now own.1.0 c.args.planned.now before now numbers c.take_all.new.out.numbers old new takes c.in-Ok-Some.value c.requires.is_plan own.0 own.1.1 walked))

pub returns-in-Ok-Some-clause-stands : goal.returns-in-Ok-Some-clause-stands
returns-in-Ok-Some-clause-stands g c = λ runs lost stands clean.
    let own = accepted_file c.args.inputs.now c.args.task.now c.requires.accepted in
    let walked = c.in-Ok-Some.ensures.ok in
    taken_stands c.args.inputs.now c.args.task.now c.args.planned.now c.args.out.now.numbers c.take_all.new.out.numbers (g.S.Store.content c.args.out.now.store) (g.S.Store.content c.take_all.new.out.store)
    c.take_all.new.takes walked.done [] runs lost c.requires.is_plan own.0 c.requires.asks c.requires.ready.knows walked.taken walked.rows stands clean

pub returns-in-Err-clause-answer : goal.returns-in-Err-clause-answer
returns-in-Err-clause-answer g c =
    let before = g.S.Store.faults c.args.out.now.store in
    let now = g.S.Store.faults c.take_all.new.out.store in
    let old = g.S.Store.content c.args.out.now.store in
    let new = g.S.Store.content c.take_all.new.out.store in
    let numbers = c.args.out.now.numbers in
    let takes = c.take_all.new.takes in
    evaluated_answer c.args.inputs.now c.args.task.now before now numbers old new c.store_reply.result takes c.requires.accepted
    (stopped_evaluated c.args.inputs.now c.args.task.now c.args.planned.now before now numbers c.take_all.new.out.numbers old new c.store_reply.result takes c.requires.is_plan
    c.store_reply.ensures.reply (λ fault. c.in-Err.ensures.cause.fault (ap (λ f. Err f) (c.store_reply.ensures.cause fault))) c.store_reply.ensures.no_value c.in-Err.ensures.err)

pub returns-in-Err-clause-stands : goal.returns-in-Err-clause-stands
returns-in-Err-clause-stands g c = λ runs lost stands clean.
    let own = accepted_file c.args.inputs.now c.args.task.now c.requires.accepted in
    let stopped = c.in-Err.ensures.err in
    taken_stands c.args.inputs.now c.args.task.now c.args.planned.now c.args.out.now.numbers c.take_all.new.out.numbers (g.S.Store.content c.args.out.now.store) (g.S.Store.content c.take_all.new.out.store)
    c.take_all.new.takes stopped.done stopped.rest runs lost c.requires.is_plan own.0 c.requires.asks c.requires.ready.knows stopped.taken stopped.rows stands clean
