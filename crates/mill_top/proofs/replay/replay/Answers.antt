use Rattle.std.proofs.Common.{OnOk, OnErr, ◌⊎◌, sym, subst}
use Rattle.mill_top.specs.Replays.{IsReplay}
use Rattle.mill_top.specs.Stages.{IsAsBefore, Makes, MakesWhole}
use Rattle.mill_top.proofs.StageLaws.{reached_first, reached_more, replay_whole, replay_broken}
use Rattle.mill_top.proofs.replay.replay.Goals as goal

pub loop-step-init : goal.loop-step-init
loop-step-init c =
    reached_first (record { store = c.args.store; workspace = c.args.workspace; takes = c.new.result; replies = c.new-2.result }) c.new.ensures.items c.new-2.ensures.items

pub loop-step-preserved : goal.loop-step-preserved
loop-step-preserved c =
    let makes : MakesWhole c.step-item.result c.loop-step.stage c.make-next.result.0 =
    subst (λ end. OnOk end (MakesWhole c.step-item.result c.loop-step.stage c.make-next.result.0)) c.in_default.is c.make-next.ensures.ok in
    reached_more c.args.script.now c.args.store c.args.workspace c.loop-step.step-index c.step-item.result c.loop-step.stage c.make-next.result.0
    c.loop-step-test.true c.step-item.is makes c.loop-step.invariant

pub returns-in-Err : goal.returns-in-Err
returns-in-Err c =
    let left : IsAsBefore c.loop-step.stage c.make-next.result.0 ⊎ Makes c.step-item.result c.loop-step.stage c.make-next.result.0 =
    subst (λ end. OnErr end (IsAsBefore c.loop-step.stage c.make-next.result.0 ⊎ Makes c.step-item.result c.loop-step.stage c.make-next.result.0)) c.in-Err.is c.make-next.ensures.err in
    subst (IsReplay c.args.script.now c.args.store c.args.workspace) (sym c.broken.ensures)
    (replay_broken c.args.script.now c.args.store c.args.workspace c.loop-step.step-index c.step-item.result c.loop-step.stage c.make-next.result.0 c.in-Err.fault
    c.loop-step-test.true c.step-item.is left c.loop-step.invariant.0)

pub returns : goal.returns
returns c =
    subst (IsReplay c.args.script.now c.args.store c.args.workspace) (sym c.whole.ensures)
    (replay_whole c.args.script.now c.args.store c.args.workspace c.loop-step.step-index c.loop-step.stage c.loop-step-test.false c.loop-step.invariant)
