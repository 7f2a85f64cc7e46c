use Rattle.std.proofs.Common.{take, reverse}
use Rattle.mill_top.specs.Stages.{ReachedWhole}
use Rattle.mill_top.proofs.replay.replay.Given as goal

abbrev pub invariant-loop-step : goal.invariant-loop-step
invariant-loop-step l = ReachedWhole l.fn.store l.fn.workspace (reverse (take l.step-index l.script)) l.stage
