-- What a command is answered, and when.
use Rattle.std.specs.Prelude.{◌≡◌, ◌⊎◌, ℕ, ℤ, List, [], ◌++◌, map, reverse, flat_map, Option, Some, None, IfSome, IfNone, MatchOption}
use Rattle.io_traits.specs.Causes.{Rose}
use Rattle.io_traits.specs.Files.{Files}
use Rattle.out_store.specs.Opening.{IsOpened, LeftByOpening}
use Rattle.out_store.specs.declared.numbers.Numbers.{Numbers}
use Rattle.mill_top.specs.declared.build_fault.BuildFault.{BuildFault}
use Rattle.mill_top.specs.declared.recorded.Record.{Record}
use Rattle.mill_top.specs.declared.reply.Reply.{Reply}
use Rattle.mill_top.specs.declared.reply.Reply.TheVariants.{Value, WordsNotBuilt, StoreFault, WorkspaceFault, Memory}
use Rattle.mill_top.specs.declared.takes.FoundEntry.{FoundEntry}
use Rattle.mill_top.specs.declared.task_file.TaskFile.{TaskFile}
use Rattle.mill_top.specs.Words.{asked}
use Rattle.mill_top.specs.Graphs.{plan, task_name}
use Rattle.mill_top.specs.Inputs.{Run, Clean, texts}
use Rattle.mill_top.specs.Takes.{Take, task_of, seen, given, AreGiven, runs_of}
use Rattle.mill_top.specs.Leaving.{after_takes, MayLeave}
use Rattle.mill_top.specs.Loading.{IsLoaded, IsUnloaded}
use Rattle.mill_top.specs.Replies.{build_reply, refusal, IsReplyOf}
use Rattle.mill_top.specs.Standing.{StandsIn}

-- the reply is this one, or memory was wanted
abbrev pub IsUnlessMemory : Reply → Reply → Type 0
IsUnlessMemory reply expected = (reply ≡ expected) ⊎ (reply ≡ Memory)

-- a record has the words, environment and moment of a command, and the files of a workspace that tells them
pub record IsRecordOf (words : List (List ℕ)) (environment : List (List ℕ × List ℕ)) (moment : ℕ) (workspace : Option Files) (inputs : Record) : Type 0 where
  pub same_words : inputs.words ≡ words
  pub same_environment : inputs.environment ≡ environment
  pub same_moment : inputs.moment ≡ moment
  pub files : IfSome workspace (λ files. inputs.files ≡ files)

-- Words that ask for no task. Neither device counted a fault, and the store is as it was.
pub record AreRefused (before now workspace_before workspace_now : ℕ) (old new : Option Files) (reply : Reply) : Type 0 where
  pub reply_is : IsUnlessMemory reply WordsNotBuilt
  pub unopened : now ≡ before
  pub unread : workspace_now ≡ workspace_before
  pub out : new ≡ old

-- The opening of the store was refused, and the workspace wasn't read.
pub record IsUnopened (before now workspace_before workspace_now : ℕ) (old new : Option Files) (reply : Reply) : Type 0 where
  pub reply_is : IsUnlessMemory reply StoreFault
  pub cause : reply ≡ StoreFault → Rose before now
  pub unread : workspace_now ≡ workspace_before
  pub out : LeftByOpening old new

-- The workspace failed, and the store is as it was.
pub record IsUnfound (workspace_before workspace_now : ℕ) (old new : Option Files) (reply : Reply) : Type 0 where
  pub reply_is : IsUnlessMemory reply WorkspaceFault
  pub cause : reply ≡ WorkspaceFault → Rose workspace_before workspace_now
  pub out : new ≡ old

-- The store was opened, and then the workspace failed.
abbrev pub IsOpenedAlone : (workspace_before workspace_now : ℕ) → (old new : Option Files) → Reply → Type 0
IsOpenedAlone workspace_before workspace_now old new reply =
    (numbers : Numbers) × (opened : Option Files) × IsOpened old opened numbers × IsUnfound workspace_before workspace_now opened new reply

-- The reply to a command without a record: its words are refused, or the opening of the store, or the workspace failed.
pub record IsUnread (words : List (List ℕ)) (before now workspace_before workspace_now : ℕ) (old new : Option Files) (reply : Reply) (takes : List (List ℕ × FoundEntry)) : Type 0 where
  pub nothing_taken : takes ≡ []
  pub refused : IfNone (asked words) (AreRefused before now workspace_before workspace_now old new reply)
  pub failed : IfSome (asked words) (λ task. IsUnopened before now workspace_before workspace_now old new reply ⊎ IsOpenedAlone workspace_before workspace_now old new reply)

-- a value, or the store failed, or memory was wanted
abbrev pub IsEvaluation : Reply → Type 0
IsEvaluation (Value value) = Unit {0}
IsEvaluation reply = IsUnlessMemory reply StoreFault

-- a record that is refused is answered so, and nothing is taken
pub record IsRefused (refused : Reply) (old new : Option Files) (reply : Reply) (takes : List (List ℕ × FoundEntry)) : Type 0 where
  pub reply_is : IsUnlessMemory reply refused
  pub nothing_taken : takes ≡ []
  pub out : new ≡ old

-- The first tasks of a plan, in order, were taken, each with the reason that the content before all of them gives
-- and with its value over those that the earlier ones gave. The takes stand here the latest first.
pub record AreTaken (inputs : Record) (planned : List TaskFile) (numbers : Numbers) (old : Option Files) (takes : List (List ℕ × FoundEntry)) (done : List Take) (rest : List TaskFile) : Type 0 where
  pub all_seen : takes ≡ reverse (map seen done)
  pub in_order : reverse (map task_of done) ++ map task_name rest ≡ map task_name planned
  pub are_given : AreGiven inputs numbers old done

-- a value is that which the takes gave for the task, all of the plan is done, and this is left
pub record IsValue (task : List ℕ) (old new : Option Files) (done : List Take) (rest : List TaskFile) (value : ℤ) : Type 0 where
  pub whole : rest ≡ []
  pub is_given : given done task ≡ Some value
  pub out : new ≡ after_takes done old

-- The reply to a command with a record that is not refused, over an opened store with these numbers, which has these
-- faults before and now and this content, where it tells.
pub record IsEvaluated (inputs : Record) (task : List ℕ) (before now : ℕ) (numbers : Numbers) (old new : Option Files) (reply : Reply) (takes : List (List ℕ × FoundEntry)) : Type 0 where
  pub evaluated : IsEvaluation reply
  pub cause : reply ≡ StoreFault → Rose before now
  pub done : List Take
  pub rest : List TaskFile
  pub taken : AreTaken inputs (plan inputs.files task) numbers old takes done rest
  pub value : (value : ℤ) → reply ≡ Value value → IsValue task old new done rest value
  pub left : MayLeave done old new

-- the reply over class files that are loaded
abbrev pub IsAnswerOfLoaded : Record → List ℕ → (before now : ℕ) → Numbers → (old new : Option Files) → Reply → List (List ℕ × FoundEntry) → Type 0
IsAnswerOfLoaded inputs task before now numbers old new reply takes =
    MatchOption (refusal inputs task) (IsEvaluated inputs task before now numbers old new reply takes) (λ refused. IsRefused refused old new reply takes)

-- The reply to a command with a record, over an opened store: its class files aren't loaded, for this first cause, or they are.
abbrev pub IsAnswer : Record → List ℕ → (before now : ℕ) → Numbers → (old new : Option Files) → Reply → List (List ℕ × FoundEntry) → Type 0
IsAnswer inputs task before now numbers old new reply takes =
    ((fault : BuildFault) × IsUnloaded inputs.files fault × IsRefused (build_reply fault) old new reply takes)
    ⊎ (IsLoaded inputs.files × IsAnswerOfLoaded inputs task before now numbers old new reply takes)

-- The answer to words that ask for a task: the store was opened, and the answer is over what it then held and over the
-- numbers of the generations that its entries published.
pub record IsAnswerTo (words : List (List ℕ)) (inputs : Record) (before now : ℕ) (old new : Option Files) (reply : Reply) (takes : List (List ℕ × FoundEntry)) : Type 0 where
  pub task : List ℕ
  pub asks : asked words ≡ Some task
  pub numbers : Numbers
  pub opened : Option Files
  pub opening : IsOpened old opened numbers
  pub answer : IsAnswer inputs task before now numbers opened new reply takes

-- the runs of a command, if it has a record
abbrev pub runs_in : Option Record → List (List ℕ × FoundEntry) → List Run
runs_in None takes = []
runs_in (Some inputs) takes = runs_of inputs takes

-- the runs of the plan of the task that the words ask for
abbrev pub planned_runs : Record → Option (List ℕ) → List Run
planned_runs inputs None = []
planned_runs inputs (Some task) = map (λ file. record { inputs = inputs; task = task_name file }) (plan inputs.files task)

-- the texts that are digested for these runs, and for those that a command over a record plans
abbrev pub all_texts : Record → List Run → List (List ℕ)
all_texts inputs runs = flat_map texts (planned_runs inputs (asked inputs.words) ++ runs)

-- What a command over a record made of the store: where it stood for runs, and no two of the texts that are digested for
-- these and for the planned ones collide, it stands for them and for the runs of what was taken.
abbrev pub StandsForMore : Record → List (List ℕ × FoundEntry) → (old new : Option Files) → Type 0
StandsForMore inputs takes old new =
    (runs : List Run) (lost : List (List ℕ)) → StandsIn old runs lost → Clean (all_texts inputs runs)
    → StandsIn new (runs ++ runs_of inputs takes) lost

-- the same where a record was read
abbrev pub StandsForMoreIfRead : Option Record → List (List ℕ × FoundEntry) → (old new : Option Files) → Type 0
StandsForMoreIfRead read takes old new =
    (runs : List Run) (lost : List (List ℕ)) → StandsIn old runs lost
    → IfSome read (λ inputs. Clean (all_texts inputs runs) → StandsIn new (runs ++ runs_of inputs takes) lost)

-- the reply from scratch, or the store failed, or memory was wanted
abbrev pub IsFromScratch : Record → Reply → Type 0
IsFromScratch inputs reply = IsReplyOf inputs reply ⊎ IsUnlessMemory reply StoreFault
