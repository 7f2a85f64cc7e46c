use Rattle.std.proofs.Common.{[], ◌++◌, inr, sym, subst}
use Rattle.std.proofs.lemmas.List.{append-nil}
use Rattle.mill_top.specs.Answers.{IsAnswer}
use Rattle.mill_top.specs.Standing.{StandsIn}
use Rattle.mill_top.specs.Takes.{runs_of}
use Rattle.mill_top.proofs.AnswerLaws.{unloaded_answer}
use Rattle.mill_top.proofs.top.taken.Goals as goal

pub returns-in-Err-clause-answer : goal.returns-in-Err-clause-answer
returns-in-Err-clause-answer g c =
    subst (λ taken. IsAnswer c.args.inputs.now c.args.task.now (g.S.Store.faults c.args.out.now.store) (g.S.Store.faults c.args.out.now.store)
    c.args.out.now.numbers (g.S.Store.content c.args.out.now.store) (g.S.Store.content c.args.out.now.store) taken.reply taken.takes) (sym c.none.ensures)
    (unloaded_answer c.args.inputs.now c.args.task.now (g.S.Store.faults c.args.out.now.store) (g.S.Store.faults c.args.out.now.store) c.args.out.now.numbers (g.S.Store.content c.args.out.now.store)
    c.in-Err.fault c.build_reply.result c.build_reply.ensures c.in-Err.ensures.err)

pub returns-in-Err-clause-stands : goal.returns-in-Err-clause-stands
returns-in-Err-clause-stands g c = λ runs lost stands clean.
    subst (λ taken. StandsIn (g.S.Store.content c.args.out.now.store) (runs ++ runs_of c.args.inputs.now taken.takes) lost) (sym c.none.ensures)
    (subst (λ rs. StandsIn (g.S.Store.content c.args.out.now.store) rs lost) (sym (append-nil runs)) stands)
