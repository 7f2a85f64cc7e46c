-- What a script of edits, losses and commands leads to.
use Rattle.std.specs.Prelude.{◌≡◌, ◌≢◌, ℕ, List, [], ◌∷◌, ◌++◌, map, reverse, Option, Some, IfSome, IfOk}
use Rattle.std.specs.List.{AllByRecursion}
use Rattle.io_traits.specs.Files.{Files, remove}
use Rattle.io_traits.specs.Planned.{set_to, sink_faults}
use Rattle.io_traits.specs.declared.mem_stores.MemStore.{MemStore}
use Rattle.io_traits.specs.declared.mem_streams.MemSink.{MemSink}
use Rattle.io_traits.specs.declared.mem_workspaces.MemWorkspace.{MemWorkspace}
use Rattle.mill_top.specs.declared.replay_steps.Answered.{Answered}
use Rattle.mill_top.specs.declared.replay_steps.ReplayStep.{ReplayStep}
use Rattle.mill_top.specs.declared.replay_steps.ReplayStep.TheVariants.{Edit, Lose, Run}
use Rattle.mill_top.specs.declared.replay_steps.Replayed.{Replayed}
use Rattle.mill_top.specs.declared.takes.FoundEntry.{FoundEntry}
use Rattle.mill_top.specs.Answers.{IsFromScratch, runs_in, all_texts}
use Rattle.mill_top.specs.Commands.{Device, Devices, device, devices, Command, IsCommand}
use Rattle.mill_top.specs.Inputs.{Clean}
use Rattle.mill_top.specs.Inputs as inputs
use Rattle.mill_top.specs.Standing.{StandsIn}

-- ---- devices in memory, which tell all that they hold

abbrev pub device_of_sink : MemSink → Device (Option (List ℕ))
device_of_sink sink = device (Some sink.bytes.items) (sink_faults sink.plan sink.wants) (Some sink.kept.0, sink.kept.1) sink.plan.failing

-- a sink that has taken nothing, and of which no write failed or is planned to fail
abbrev pub first_sink : Device (Option (List ℕ))
first_sink = device (Some []) 0 (Some [], 0) []

abbrev pub devices_of : MemStore → MemWorkspace → Device (Option (List ℕ)) → Devices
devices_of store workspace sink =
    devices
    (device (Some store.contents) store.plan.faults (Some store.kept.0, store.kept.1) store.plan.failing)
    (device (Some workspace.contents) workspace.plan.faults (Some workspace.kept.0, workspace.kept.1) workspace.plan.failing)
    sink

-- ---- steps

-- a command that was run, and the sink that it was given, as it is afterwards
pub record Ran : Type 0 where
  pub command : Command
  pub sink : MemSink

abbrev pub takes_of : Ran → List (List ℕ × FoundEntry)
takes_of ran = ran.command.takes

abbrev pub answered : Ran → Answered
answered ran = record { reply = ran.command.reply; status = ran.command.status; sink = ran.sink }

-- its sink took all that was shown
abbrev pub IsWhole : Ran → Type 0
IsWhole ran = ran.command.status ≢ 7

-- the devices between two steps, and the commands before, the latest first
pub record State : Type 0 where
  pub store : MemStore
  pub workspace : MemWorkspace
  pub commands : List Ran

-- the command of these words, environment and moment keeps the contract of a command between two states
abbrev pub IsRan : (words : List (List ℕ)) (environment : List (List ℕ × List ℕ)) (moment : ℕ) → MemStore → MemWorkspace → MemStore → MemWorkspace → Ran → Type 0
IsRan words environment moment store workspace store_now workspace_now ran =
    IsCommand words environment moment (devices_of store workspace first_sink) (devices_of store_now workspace_now (device_of_sink ran.sink)) ran.command

-- The state that a step leads to. An edit and a loss change the content of one device and nothing else of it.
abbrev pub IsNext : ReplayStep → State → State → Type 0
IsNext (Edit path bytes) old new = new ≡ record old { workspace = record old.workspace { contents = set_to path bytes old.workspace.contents } }
IsNext (Lose name) old new = new ≡ record old { store = record old.store { contents = remove old.store.contents name } }
IsNext (Run words environment moment) old new =
    (ran : Ran) × (new.commands ≡ ran ∷ old.commands) × IsRan words environment moment old.store old.workspace new.store new.workspace ran

-- steps lead from a state to another; the latest step stands first
abbrev pub Lead : List ReplayStep → State → State → Type 0
Lead [] start end = end ≡ start
Lead (step ∷ earlier) start end = (before : State) × Lead earlier start before × IsNext step before end

-- ---- what the folder of results stands for

-- these runs and those of commands
abbrev pub runs_after : List inputs.Run → List Ran → List inputs.Run
runs_after runs [] = runs
runs_after runs (ran ∷ earlier) = runs_after runs earlier ++ runs_in ran.command.inputs ran.command.takes

-- these names and those that steps lose
abbrev pub lost_after : List (List ℕ) → List ReplayStep → List (List ℕ)
lost_after lost [] = lost
lost_after lost (Edit path bytes ∷ earlier) = lost_after lost earlier
lost_after lost (Lose name ∷ earlier) = name ∷ lost_after lost earlier
lost_after lost (Run words environment moment ∷ earlier) = lost_after lost earlier

-- no collision: at each command, among the texts of what it plans and of the runs before it
abbrev pub AreClean : List inputs.Run → List Ran → Type 0
AreClean runs [] = Unit {0}
AreClean runs (ran ∷ earlier) = AreClean runs earlier × IfSome ran.command.inputs (λ inputs. Clean (all_texts inputs (runs_after runs earlier)))

-- each reply to a record is that of evaluation from scratch over it, or the store failed, or memory was wanted
abbrev pub AreFromScratch : List Ran → Type 0
AreFromScratch [] = Unit {0}
AreFromScratch (ran ∷ earlier) = AreFromScratch earlier × IfSome ran.command.inputs (λ inputs. IsFromScratch inputs ran.command.reply)

-- From results that stand for runs and lost names, and without collision: each reply is that from scratch, and
-- afterwards the results stand for the runs of the commands and for the names that the steps lost as well.
abbrev pub IsSound : List ReplayStep → List Ran → (old new : Files) → List inputs.Run → List (List ℕ) → Type 0
IsSound made commands old new runs lost =
    StandsIn (Some old) runs lost → AreClean runs commands → AreFromScratch commands × StandsIn (Some new) (runs_after runs commands) (lost_after lost made)

-- ---- the whole script

-- where all steps were made: one answer for each command, in order, each shown whole
pub record IsEnded (rest : List ReplayStep) (commands : List Ran) (replies : List Answered) : Type 0 where
  pub all_made : rest ≡ []
  pub in_order : replies ≡ reverse (map answered commands)
  pub whole : AllByRecursion IsWhole commands

-- Steps from the front of the script were made over the devices, and the commands among them gave these takes. The same
-- calls of both devices are planned to fail as before. From an empty folder nothing is assumed of it.
pub record IsReplay (script : List ReplayStep) (store : MemStore) (workspace : MemWorkspace) (replayed : Replayed) : Type 0 where
  pub made : List ReplayStep
  pub rest : List ReplayStep
  pub in_order : reverse made ++ rest ≡ script
  pub commands : List Ran
  pub lead : Lead made (record { store = store; workspace = workspace; commands = [] }) (record { store = replayed.store; workspace = replayed.workspace; commands = commands })
  pub takes : replayed.takes ≡ reverse (map takes_of commands)
  pub replies : IfOk replayed.end (IsEnded rest commands)
  pub store_plan : replayed.store.plan.failing ≡ store.plan.failing
  pub workspace_plan : replayed.workspace.plan.failing ≡ workspace.plan.failing
  pub sound : (runs : List inputs.Run) (lost : List (List ℕ)) → IsSound made commands store.contents replayed.store.contents runs lost
  pub sound_from_empty : store.contents ≡ [] → AreClean [] commands → AreFromScratch commands × StandsIn (Some replayed.store.contents) (runs_after [] commands) (lost_after [] made)
