use Rattle.std.proofs.Common.{OnErr, subst}
use Rattle.out_store.specs.Publishing.{LeftByPublish}
use Rattle.out_store.specs.declared.finished.Finished.{Finished}
use Rattle.mill_top.specs.Leaving.{finished_by}
use Rattle.mill_top.proofs.TakingLaws.{whole_put, unbegun_stands}
use Rattle.mill_top.proofs.taking.keep.Goals as goal

pub returns-in_err-finished-clause-rows : goal.returns-in_err-finished-clause-rows
returns-in_err-finished-clause-rows g c =
    unbegun_stands (finished_by c.args.job.now.task c.args.job.now.input c.args.outcome) c.args.out.now.numbers (g.S.Store.content c.args.out.now.store)

pub returns-clause-ok : goal.returns-clause-ok
returns-clause-ok g c =
    whole_put c.in_ok-finished.finished (finished_by c.args.job.now.task c.args.job.now.input c.args.outcome) c.args.out.now.numbers c.publish.new.self.numbers
    (g.S.Store.content c.args.out.now.store) (g.S.Store.content c.publish.new.self.store) c.publish.result
    c.in_ok-finished.ensures c.publish.ensures.number c.publish.ensures.taken c.publish.ensures.ok

pub returns-clause-err : goal.returns-clause-err
returns-clause-err g c =
    subst (λ (run : Finished). OnErr c.publish.result (LeftByPublish run c.args.out.now.numbers c.publish.new.self.numbers (g.S.Store.content c.args.out.now.store) (g.S.Store.content c.publish.new.self.store)))
    c.in_ok-finished.ensures c.publish.ensures.err
