use Rattle.std.proofs.Common.{sym}
use Rattle.mill_top.proofs.NumberLaws.{opened_ready}
use Rattle.mill_top.proofs.TopLaws.{opened_answer}
use Rattle.mill_top.proofs.top.answer_words.Goals as goal

pub answer_opened-requires-clause-ready : goal.answer_opened-requires-clause-ready
answer_opened-requires-clause-ready g c = opened_ready (g.S.Store.content c.args.store) (g.S.Store.content c.in-Ok.out.store) c.in-Ok.out.numbers c.in-Ok.ensures.ok c.in-Ok.ensures.knows

pub returns-in-Ok-clause-answer : goal.returns-in-Ok-clause-answer
returns-in-Ok-clause-answer g c =
    opened_answer c.args.words.now c.in-Some.task.now c.answer_opened.result.inputs (g.S.Store.faults c.args.store) (g.S.Store.faults c.in-Ok.out.store) (g.S.Store.faults c.answer_opened.result.store)
    c.in-Ok.out.numbers (g.S.Store.content c.args.store) (g.S.Store.content c.in-Ok.out.store) (g.S.Store.content c.answer_opened.result.store) c.answer_opened.result.reply c.answer_opened.result.takes
    (sym c.in-Some.ensures) c.in-Ok.ensures.ok c.in-Ok.ensures.later c.answer_opened.ensures.answer
