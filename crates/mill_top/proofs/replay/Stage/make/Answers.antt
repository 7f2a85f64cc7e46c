use Rattle.std.proofs.Common.{OnOk, sym, subst}
use Rattle.mill_top.specs.Stages.{MakesWhole}
use Rattle.mill_top.proofs.replay.Stage.make.Goals as goal

pub returns-in-Run-clause-ok : goal.returns-in-Run-clause-ok
returns-in-Run-clause-ok c = subst (λ step. OnOk c.run.result.1 (MakesWhole step c.args.self c.run.result.0)) (sym c.in-Run.is) c.run.ensures.ok
