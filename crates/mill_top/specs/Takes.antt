-- Why a task was run or reused, and what it gave.
use Rattle.std.specs.Prelude.{◌≡◌, ◌≢◌, ℕ, ℤ, List, [], ◌∷◌, map, flat_map, slice_get, Option, Some, None, IfSome, if◌then◌else◌}
use Rattle.std.specs.Option.{option_map}
use Rattle.std.specs.Str.{bytes_eq}
use Rattle.io_traits.specs.Files.{Files}
use Rattle.value_text.specs.Short.{as_short, int}
use Rattle.out_entry.specs.declared.entry.Entry.{Entry}
use Rattle.out_store.specs.Generations.{Reads}
use Rattle.out_store.specs.Numbers.{IsNext}
use Rattle.out_store.specs.declared.numbers.Numbers.{Numbers}
use Rattle.mill_top.specs.declared.takes.FoundEntry.{FoundEntry}
use Rattle.mill_top.specs.declared.takes.FoundEntry.TheVariants.{Missing, Other, Same}
use Rattle.mill_top.specs.declared.recorded.Record.{Record}
use Rattle.mill_top.specs.declared.outcome.Outcome.{Outcome}
use Rattle.mill_top.specs.declared.outcome.Outcome.TheVariants.{Returns}
use Rattle.mill_top.specs.Graphs.{task_in}
use Rattle.mill_top.specs.Inputs.{Run, input_names, input_hash, IsDigested}
use Rattle.mill_top.specs.Scratch.{result_of, scratch}

-- the entry of the task reads and holds this int, as the value of a task is one
pub record ReadsInt (files : Files) (task : List ℕ) (entry : Entry) (value : ℤ) : Type 0 where
  pub reads : Reads files task entry
  pub holds : as_short entry.value ≡ int value

-- the entry holds no int
abbrev pub HoldsNoInt : Entry → Type 0
HoldsNoInt entry = (value : ℤ) → as_short entry.value ≢ int value

-- The reason among the files: an entry of another input hash reads, or one of this hash that holds an int, or neither, so
-- that no entry reads but one of this hash that holds no int.
abbrev pub Why : Files → (task input : List ℕ) → FoundEntry → Type 0
Why files task input Missing = (entry : Entry) → Reads files task entry → (entry.input ≡ input) × HoldsNoInt entry
Why files task input (Other other) = (other ≢ input) × ((entry : Entry) × Reads files task entry × (entry.input ≡ other))
Why files task input (Same same) = (same ≡ input) × ((entry : Entry) × (value : ℤ) × ReadsInt files task entry value × (entry.input ≡ same))

-- no entry is reused
abbrev pub IsNew : FoundEntry → Type 0
IsNew (Same input) = ⊥
IsNew found = Unit {0}

-- a take of a task: its input hash, what was found, the value that it gave, and the generation of the entry that was put
pub record Take : Type 0 where
  pub task : List ℕ
  pub input : List ℕ
  pub found : FoundEntry
  pub value : ℤ
  pub generation : ℕ

abbrev pub task_of : Take → List ℕ
task_of take = take.task

-- the task and what was found
abbrev pub seen : Take → List ℕ × FoundEntry
seen take = (take.task, take.found)

-- The value that a take gives over this content: that of the entry which is reused, or else that of the outcome.
abbrev pub IsGivenBy : Option Files → List ℕ → FoundEntry → Outcome → ℤ → Type 0
IsGivenBy content task (Same same) outcome value = IfSome content (λ files. (entry : Entry) × ReadsInt files task entry value × (entry.input ≡ same))
IsGivenBy content task found outcome value = (log : List (List ℕ)) × (outcome ≡ Returns value log)

-- the generation of the entry that a run puts, where the store tells its content: the least number that isn't used
abbrev pub IsPutUnder : Numbers → Option Files → List ℕ → FoundEntry → ℕ → Type 0
IsPutUnder numbers content task (Same same) generation = Unit {0}
IsPutUnder numbers content task found generation = IfSome content (λ files. IsNext numbers task generation)

-- A take of the task with this input hash, whose body has this outcome, over this content and these used numbers.
pub record IsTakeOf (task input : List ℕ) (outcome : Outcome) (numbers : Numbers) (content : Option Files) (take : Take) : Type 0 where
  pub task_is : take.task ≡ task
  pub input_is : take.input ≡ input
  pub why : IfSome content (λ files. Why files task input take.found)
  pub value : IsGivenBy content task take.found outcome take.value
  pub generation : IsPutUnder numbers content task take.found take.generation

-- ---- takes in a row, the latest first

-- the value that they gave for a name
abbrev pub given : List Take → List ℕ → Option ℤ
given [] name = None
given (take ∷ earlier) name = if bytes_eq name take.task then Some take.value else given earlier name

-- the outcome of a task's body over the values of its inputs
abbrev pub outcome_over : Files → List ℕ → List ℤ → Option Outcome
outcome_over files task values = option_map (λ file. Returns (result_of file.body (slice_get values 0)) []) (task_in files task)

-- a take over the values that earlier ones gave for the task's inputs, and over the content and the used numbers as they
-- were before all of them
pub record IsGiven (inputs : Record) (numbers : Numbers) (content : Option Files) (earlier : List Take) (take : Take) : Type 0 where
  pub values : List ℤ
  pub values_are : map (given earlier) (input_names inputs.files take.task) ≡ map (λ value. Some value) values
  pub digested : IsDigested inputs take.task values
  pub outcome : Outcome
  pub outcome_is : outcome_over inputs.files take.task values ≡ Some outcome
  pub is_take : IsTakeOf take.task (input_hash inputs take.task values) outcome numbers content take

abbrev pub AreGiven : Record → Numbers → Option Files → List Take → Type 0
AreGiven inputs numbers content [] = Unit {0}
AreGiven inputs numbers content (take ∷ earlier) = IsGiven inputs numbers content earlier take × AreGiven inputs numbers content earlier

-- ---- runs

-- the run of a task that was not reused and whose outcome from scratch returns
abbrev pub run_of : Record → List ℕ → FoundEntry → Option Outcome → List Run
run_of inputs task (Same input) outcome = []
run_of inputs task found None = []
run_of inputs task found (Some outcome) = record { inputs = inputs; task = task } ∷ []

-- the runs of these takes
abbrev pub runs_of : Record → List (List ℕ × FoundEntry) → List Run
runs_of inputs takes = flat_map (λ take. run_of inputs take.0 take.1 (scratch inputs take.0)) takes
