-- A script between two of its steps. For private clauses.
use Rattle.std.specs.Prelude.{◌≡◌, ℕ, List, [], ◌∷◌, ◌++◌, map, reverse}
use Rattle.std.specs.List.{AllByRecursion}
use Rattle.io_traits.specs.Files.{remove}
use Rattle.io_traits.specs.Planned.{set_to}
use Rattle.io_traits.specs.declared.mem_stores.MemStore.{MemStore}
use Rattle.io_traits.specs.declared.mem_streams.MemSink.{MemSink}
use Rattle.io_traits.specs.declared.mem_workspaces.MemWorkspace.{MemWorkspace}
use Rattle.mill_top.specs.declared.replay.Stage.{Stage}
use Rattle.mill_top.specs.declared.replay_steps.ReplayStep.{ReplayStep}
use Rattle.mill_top.specs.declared.replay_steps.ReplayStep.TheVariants.{Edit, Lose, Run}
use Rattle.mill_top.specs.Replays.{Ran, IsRan, IsWhole, Lead, State, takes_of, answered, device_of_sink, first_sink}

abbrev pub state_of : MemStore → MemWorkspace → List Ran → State
state_of store workspace commands = record { store = store; workspace = workspace; commands = commands }

-- a sink that a command is given
abbrev pub IsFirst : MemSink → Type 0
IsFirst sink = device_of_sink sink ≡ first_sink

-- a stage is as it was, but for the room of its lists
pub record IsAsBefore (old new : Stage) : Type 0 where
  pub store : new.store ≡ old.store
  pub workspace : new.workspace ≡ old.workspace
  pub takes : new.takes.items ≡ old.takes.items
  pub replies : new.replies.items ≡ old.replies.items

-- one command was run, and its takes and answer were kept
pub record HasRun (words : List (List ℕ)) (environment : List (List ℕ × List ℕ)) (moment : ℕ) (old new : Stage) : Type 0 where
  pub ran : Ran
  pub is_ran : IsRan words environment moment old.store old.workspace new.store new.workspace ran
  pub takes : new.takes.items ≡ old.takes.items ++ ran.command.takes ∷ []
  pub replies : new.replies.items ≡ old.replies.items ++ answered ran ∷ []

-- one command was run and ended with the status
abbrev pub HasRunTo : ℕ → List (List ℕ) → List (List ℕ × List ℕ) → ℕ → Stage → Stage → Type 0
HasRunTo status words environment moment old new = (run : HasRun words environment moment old new) × (run.ran.command.status ≡ status)

-- one command was run and shown whole
abbrev pub HasShown : List (List ℕ) → List (List ℕ × List ℕ) → ℕ → Stage → Stage → Type 0
HasShown words environment moment old new = (run : HasRun words environment moment old new) × IsWhole run.ran

-- a step was made, where a command that was run is as `Ends` says
abbrev pub MakesBy : (List (List ℕ) → List (List ℕ × List ℕ) → ℕ → Stage → Stage → Type 0) → ReplayStep → Stage → Stage → Type 0
MakesBy Ends (Edit path bytes) old new = new ≡ record old { workspace = record old.workspace { contents = set_to path bytes old.workspace.contents } }
MakesBy Ends (Lose name) old new = new ≡ record old { store = record old.store { contents = remove old.store.contents name } }
MakesBy Ends (Run words environment moment) old new = Ends words environment moment old new

abbrev pub Makes : ReplayStep → Stage → Stage → Type 0
Makes step old new = MakesBy HasRun step old new

abbrev pub MakesWhole : ReplayStep → Stage → Stage → Type 0
MakesWhole step old new = MakesBy HasShown step old new

-- steps, the latest first, led to a stage
pub record Reached (store : MemStore) (workspace : MemWorkspace) (made : List ReplayStep) (stage : Stage) : Type 0 where
  pub commands : List Ran
  pub lead : Lead made (state_of store workspace []) (state_of stage.store stage.workspace commands)
  pub takes : stage.takes.items ≡ reverse (map takes_of commands)
  pub replies : stage.replies.items ≡ reverse (map answered commands)

-- the same, and each command was shown whole
abbrev pub ReachedWhole : MemStore → MemWorkspace → List ReplayStep → Stage → Type 0
ReachedWhole store workspace made stage = (reached : Reached store workspace made stage) × AllByRecursion IsWhole reached.commands
