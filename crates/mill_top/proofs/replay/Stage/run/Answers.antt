use Rattle.std.proofs.Common.{inr, sym, ◌∙◌}
use Rattle.mill_top.proofs.StageLaws.{on_ok, run_since}
use Rattle.mill_top.proofs.WalkLaws.{on_err}
use Rattle.mill_top.proofs.replay.Stage.run.Goals as goal

pub returns-in-Ok-clause-ok : goal.returns-in-Ok-clause-ok
returns-in-Ok-clause-ok c =
    let ran = run_since c.command-stage.result.1 c.args.words.now c.args.environment.now c.args.moment c.args.self c.ready.new.self c.command-stage.result.0 c.ready.ensures.rests c.command-stage.ensures in
    on_ok c.shown.result _ _ (λ whole. (ran.0, λ seven. whole (sym ran.1 ∙ seven))) c.shown.ensures

pub returns-in-Ok-clause-err : goal.returns-in-Ok-clause-err
returns-in-Ok-clause-err c =
    let ran = run_since c.command-stage.result.1 c.args.words.now c.args.environment.now c.args.moment c.args.self c.ready.new.self c.command-stage.result.0 c.ready.ensures.rests c.command-stage.ensures in
    on_err c.shown.result _ (inr ran.0)
