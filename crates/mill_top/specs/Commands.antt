-- The contract of a command, over devices that may tell what they hold.
use Rattle.std.specs.Prelude.{◌≡◌, ◌≤◌, ◌⊎◌, ℕ, List, ◌++◌, Option, IfSome, IsNone}
use Rattle.io_traits.specs.Causes.{Rose}
use Rattle.io_traits.specs.Files.{Files}
use Rattle.io_traits.specs.Planned.{FailingCalls}
use Rattle.mill_top.specs.declared.recorded.Record.{Record}
use Rattle.mill_top.specs.declared.reply.Reply.{Reply}
use Rattle.mill_top.specs.declared.takes.FoundEntry.{FoundEntry}
use Rattle.mill_top.specs.Answers.{IsRecordOf, IsUnread, IsAnswerTo, IsFromScratch, runs_in, all_texts}
use Rattle.mill_top.specs.Inputs.{Run, Clean}
use Rattle.mill_top.specs.Replies.{printed, Shown}
use Rattle.mill_top.specs.Standing.{StandsIn}
use Rattle.mill_top.specs.Words.{explains}

-- a device: what it tells of its content, how many faults it has counted, the pair of both that it keeps, and the calls
-- of it that are planned to fail
pub record Device (T : Type 0) : Type 0 where
  pub content : T
  pub faults : ℕ
  pub kept : T × ℕ
  pub plan : FailingCalls

abbrev pub device : {T : Type 0} → T → ℕ → T × ℕ → FailingCalls → Device T
device content faults kept plan = record { content = content; faults = faults; kept = kept; plan = plan }

-- the devices of a command; the content of a sink is what it has got
pub record Devices : Type 0 where
  pub store : Device (Option Files)
  pub workspace : Device (Option Files)
  pub sink : Device (Option (List ℕ))

abbrev pub devices : Device (Option Files) → Device (Option Files) → Device (Option (List ℕ)) → Devices
devices store workspace sink = record { store = store; workspace = workspace; sink = sink }

-- what a command ended with: the record that it read, if it did, the tasks that it took, the reply and the status
pub record Command : Type 0 where
  pub inputs : Option Record
  pub takes : List (List ℕ × FoundEntry)
  pub reply : Reply
  pub status : ℕ

abbrev pub command : Option Record → List (List ℕ × FoundEntry) → Reply → ℕ → Command
command inputs takes reply status = record { inputs = inputs; takes = takes; reply = reply; status = status }

-- The device that was handed in: its count didn't fall, the pair that it keeps is as it was, or its content and count at
-- entry, and the same calls of it are planned to fail.
pub record IsSameDevice {T : Type 0} (old new : Device T) : Type 0 where
  pub later : old.faults ≤ new.faults
  pub kept : (new.kept ≡ old.kept) ⊎ (new.kept ≡ (old.content, old.faults))
  pub plan : new.plan ≡ old.plan

-- A command of these words, environment and moment ended so, and led from these devices to those.
pub record IsCommand (words : List (List ℕ)) (environment : List (List ℕ × List ℕ)) (moment : ℕ) (old new : Devices) (command : Command) : Type 0 where
  -- The sink has the reply behind what it had, and the status is the reply's; or a front part of it, and the status is 7,
  -- only where the sink's count rose.
  pub shown : Shown old.sink.content new.sink.content (printed (explains words) command.takes command.reply) command.reply command.status
  pub sink_fault : command.status ≡ 7 → Rose old.sink.faults new.sink.faults
  -- Without a record the words are refused, the opening of the store was refused, or the workspace failed, and nothing is
  -- taken.
  pub unread : IsNone command.inputs
      → IsUnread words old.store.faults new.store.faults old.workspace.faults new.workspace.faults old.store.content new.store.content command.reply command.takes
  -- A record has what was handed in and what the workspace tells.
  pub record_of : IfSome command.inputs (IsRecordOf words environment moment old.workspace.content)
  -- With a record the store was opened: when each reply comes, the takes with their reasons and values, and what they leave
  -- in the store.
  pub answer : IfSome command.inputs (λ inputs. IsAnswerTo words inputs old.store.faults new.store.faults old.store.content new.store.content command.reply command.takes)
  -- Where the store stands for runs and no texts collide, the reply is that of evaluation from scratch.
  pub from_scratch : (runs : List Run) (lost : List (List ℕ)) → StandsIn old.store.content runs lost
      → IfSome command.inputs (λ inputs. Clean (all_texts inputs runs) → IsFromScratch inputs command.reply)
  -- Afterwards it stands for these and the runs of this command, after a fault too.
  pub stands : (runs : List Run) (lost : List (List ℕ)) → StandsIn old.store.content runs lost
      → IfSome command.inputs (λ inputs. Clean (all_texts inputs runs)) → StandsIn new.store.content (runs ++ runs_in command.inputs command.takes) lost
  -- The workspace tells what it told. No count fell, what each device keeps is as it was or as the device was handed in,
  -- and each has its plan.
  pub workspace : new.workspace.content ≡ old.workspace.content
  pub same_store : IsSameDevice old.store new.store
  pub same_workspace : IsSameDevice old.workspace new.workspace
  pub same_sink : IsSameDevice old.sink new.sink
