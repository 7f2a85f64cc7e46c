use Rattle.std.proofs.Common.{refl, subst}
use Rattle.mill_top.specs.declared.replay.Stage.{Stage}
use Rattle.mill_top.specs.Commands.{command, IsCommand}
use Rattle.mill_top.specs.Replays.{Ran, device_of_sink, devices_of}
use Rattle.mill_top.specs.Stages.{HasRun, HasRunTo}
use Rattle.mill_top.proofs.replay.Stage.command.Goals as goal

pub returns : goal.returns
returns c =
    let told = c.mill_one-told.result in
    let end : Stage = record { store = told.store; workspace = told.workspace; takes = c.push_reserved.new.self; replies = c.push_reserved-2.new.self } in
    let ran : Ran = record { command = command told.inputs told.takes told.reply told.status; sink = told.sink } in
    let run : HasRun c.as_slice.result.now c.as_slice-2.result.now c.args.moment c.args.self end = record {
      ran = ran;
      is_ran =
          subst (λ sink. IsCommand c.as_slice.result.now c.as_slice-2.result.now c.args.moment (devices_of c.args.self.store c.args.self.workspace sink) (devices_of end.store end.workspace (device_of_sink told.sink)) ran.command)
          c.requires.sink c.mill_one-told.ensures;
      takes = c.push_reserved.ensures.items;
      replies = c.push_reserved-2.ensures.items;
    } in
    subst (λ words. HasRunTo told.status words c.args.environment.now c.args.moment c.args.self end) c.as_slice.ensures
    (subst (λ environment. HasRunTo told.status c.as_slice.result.now environment c.args.moment c.args.self end) c.as_slice-2.ensures (run, refl))
