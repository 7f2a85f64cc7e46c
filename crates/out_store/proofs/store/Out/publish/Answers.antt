use Rattle.out_store.proofs.ChangeLaws.{on_err}
use Rattle.out_store.proofs.PublishStands.{went_left, went_others, went_stands, went_knows}
use Rattle.out_store.proofs.store.Out.publish.Goals as goal

pub returns-clause-err : goal.returns-clause-err
returns-clause-err g c = on_err c.put_next.result (went_left c.args.run.now c.args.self.now.numbers c.put_next.new.numbers (g.S.Store.content c.args.self.now.store) (g.S.Store.content c.put_next.new.store) c.requires.task c.put_next.ensures.went)

pub returns-clause-others : goal.returns-clause-others
returns-clause-others g c = went_others c.args.run.now c.args.self.now.numbers c.put_next.new.numbers (g.S.Store.content c.args.self.now.store) (g.S.Store.content c.put_next.new.store) c.requires.task c.put_next.ensures.went

pub returns-clause-knows : goal.returns-clause-knows
returns-clause-knows g c knows = went_knows c.args.run.now c.args.self.now.numbers c.put_next.new.numbers (g.S.Store.content c.args.self.now.store) (g.S.Store.content c.put_next.new.store) c.requires.task c.put_next.ensures.went knows

pub returns-clause-stands : goal.returns-clause-stands
returns-clause-stands g c rows lost knows stands =
    went_stands c.args.run.now c.args.self.now.numbers c.put_next.new.numbers (g.S.Store.content c.args.self.now.store) (g.S.Store.content c.put_next.new.store) c.requires.task rows lost c.put_next.ensures.went knows stands
