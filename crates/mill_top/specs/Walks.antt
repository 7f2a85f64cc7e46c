-- Taking the tasks of a plan one after another. For private clauses.
use Rattle.std.specs.Prelude.{◌≡◌, ◌≢◌, ◌↔◌, ◌⊎◌, ℕ, ℤ, List, [], ◌∷◌, ◌++◌, map, Option, Some, None, option_to_list, Result, MatchResult, IfSome, IsSome, IsErr}
use Rattle.std.specs.List.{AllByRecursion}
use Rattle.io_traits.specs.Files.{Files}
use Rattle.out_store.specs.Changes.{puts_in}
use Rattle.out_store.specs.Names.{IsTaskName}
use Rattle.out_store.specs.Numbers.{IsUsed, IsNext, Takes, KnowsIn}
use Rattle.out_store.specs.Publishing.{puts_of}
use Rattle.out_store.specs.Standing.{Row, StandsIn, row_of}
use Rattle.out_store.specs.declared.fault.OutFault.{OutFault}
use Rattle.out_store.specs.declared.finished.Finished.{Finished}
use Rattle.out_store.specs.declared.numbers.Numbers.{Numbers}
use Rattle.mill_top.specs.declared.outcome.Outcome.{Outcome}
use Rattle.mill_top.specs.declared.outcome.Outcome.TheVariants.{Returns}
use Rattle.mill_top.specs.declared.recorded.Record.{Record}
use Rattle.mill_top.specs.declared.takes.FoundEntry.{FoundEntry}
use Rattle.mill_top.specs.declared.takes.FoundEntry.TheVariants.{Same}
use Rattle.mill_top.specs.declared.taking.Job.{Job}
use Rattle.mill_top.specs.declared.task_file.TaskFile.{TaskFile}
use Rattle.mill_top.specs.Chains.{IsChain}
use Rattle.mill_top.specs.Graphs.{task_name}
use Rattle.mill_top.specs.Inputs.{input_hash, IsDigested}
use Rattle.mill_top.specs.Scratch.{result_of}
use Rattle.mill_top.specs.Takes.{Take, task_of, seen, IsTakeOf}
use Rattle.mill_top.specs.Leaving.{finished_of, after_take, after_takes, MayLeaveTake, MayLeave}
use Rattle.mill_top.specs.Answers.{AreTaken}

-- The numbers of other tasks are used as before.
abbrev pub OthersUse : List ℕ → (old new : Numbers) → Type 0
OthersUse task old new = (t : List ℕ) (number : ℕ) → t ≢ task → IsUsed new t number ↔ IsUsed old t number

-- The numbers of all generations stay known, and whatever the store stood for, it stands for these rows and that.
pub record LeavesStanding (numbers numbers_now : Numbers) (old new : Option Files) (more : List Row) : Type 0 where
  pub knows : KnowsIn old numbers → KnowsIn new numbers_now
  pub stands : (rows : List Row) (lost : List (List ℕ)) → KnowsIn old numbers → StandsIn old rows lost → StandsIn new (more ++ rows) lost

-- the run was published whole, under the next number
pub record IsPut (run : Finished) (numbers numbers_now : Numbers) (old new : Option Files) (number : ℕ) : Type 0 where
  pub next : IsNext numbers run.task number
  pub taken : Takes numbers run.task number numbers_now
  pub out : new ≡ puts_in (puts_of run number) old

-- the row of the run of a take, if it ran
abbrev pub row_put : FoundEntry → Take → List Row
row_put (Same input) take = []
row_put found take = row_of (finished_of take) ∷ []

abbrev pub rows_put : List Take → List Row
rows_put [] = []
rows_put (take ∷ earlier) = row_put take.found take ++ rows_put earlier

-- where a task was taken: its value, and all of the take in the content; or a fault, and what the take may leave
abbrev pub IsEnd : Take → (old new : Option Files) → Result ℤ OutFault → Type 0
IsEnd take old new result = MatchResult result (λ value. (value ≡ take.value) × (new ≡ after_take take old)) (λ fault. MayLeaveTake take old new)

-- nothing was taken, and all is as it was
pub record IsUntaken (numbers numbers_now : Numbers) (old new : Option Files) (result : Result ℤ OutFault) (takes takes_now : List (List ℕ × FoundEntry)) : Type 0 where
  pub stopped : IsErr result
  pub none_more : takes_now ≡ takes
  pub same_numbers : numbers_now ≡ numbers
  pub out : new ≡ old

-- the task with this input hash and outcome was taken
pub record IsTaken (task input : List ℕ) (outcome : Outcome) (numbers numbers_now : Numbers) (old new : Option Files) (result : Result ℤ OutFault) (takes takes_now : List (List ℕ × FoundEntry)) : Type 0 where
  pub take : Take
  pub is_take : IsTakeOf task input outcome numbers old take
  pub one_more : takes_now ≡ takes ++ seen take ∷ []
  pub end : IsEnd take old new result
  pub others : OthersUse task numbers numbers_now
  pub rows : LeavesStanding numbers numbers_now old new (row_put take.found take)

abbrev pub IsStep : (task input : List ℕ) → Outcome → (numbers numbers_now : Numbers) → (old new : Option Files) → Result ℤ OutFault → (takes takes_now : List (List ℕ × FoundEntry)) → Type 0
IsStep task input outcome numbers numbers_now old new result takes takes_now =
    IsUntaken numbers numbers_now old new result takes takes_now ⊎ IsTaken task input outcome numbers numbers_now old new result takes takes_now

-- the same for a job, of which the outcome is that of its body over the value that it is given
abbrev pub IsJobStep : Job → (numbers numbers_now : Numbers) → (old new : Option Files) → Result ℤ OutFault → (takes takes_now : List (List ℕ × FoundEntry)) → Type 0
IsJobStep job numbers numbers_now old new result takes takes_now =
    IsStep job.task job.input (Returns (result_of job.body job.given) []) numbers numbers_now old new result takes takes_now

-- the same for the task of a file, given the value of its input
abbrev pub IsFileStep : Record → TaskFile → Option ℤ → (numbers numbers_now : Numbers) → (old new : Option Files) → Result ℤ OutFault → (takes takes_now : List (List ℕ × FoundEntry)) → Type 0
IsFileStep inputs file given numbers numbers_now old new result takes takes_now =
    IsUntaken numbers numbers_now old new result takes takes_now
    ⊎ (IsDigested inputs (task_name file) (option_to_list given)
    × IsTaken (task_name file) (input_hash inputs (task_name file) (option_to_list given)) (Returns (result_of file.body given) []) numbers numbers_now old new result takes takes_now)

-- some number of the task is free, where the store tells its content
abbrev pub HasNext : Numbers → Option Files → List ℕ → Type 0
HasNext numbers content task = IfSome content (λ files. (number : ℕ) × IsNext numbers task number)

-- the numbers of tasks that weren't taken are used as before
abbrev pub RestUse : List (List ℕ) → (old new : Numbers) → Type 0
RestUse taken old new = (task : List ℕ) (number : ℕ) → AllByRecursion (λ name. name ≢ task) taken → IsUsed new task number ↔ IsUsed old task number

-- a store that was opened: each task has a free number, and the numbers of all generations are known
pub record IsReady (numbers : Numbers) (content : Option Files) : Type 0 where
  pub next : (task : List ℕ) → HasNext numbers content task
  pub knows : IsSome content → KnowsIn content numbers

-- the value of the last take
abbrev pub latest_value : List Take → Option ℤ
latest_value [] = None
latest_value (take ∷ earlier) = Some take.value

-- all but the rest of a plan was taken
pub record IsWalked (inputs : Record) (plan : List TaskFile) (numbers numbers_now : Numbers) (old new : Option Files) (takes : List (List ℕ × FoundEntry)) (rest : List TaskFile) (value : Option ℤ) : Type 0 where
  pub done : List Take
  pub taken : AreTaken inputs plan numbers old takes done rest
  pub out : new ≡ after_takes done old
  pub value_is : value ≡ latest_value done
  pub chain : IsChain inputs.files (map task_of done) rest
  pub named : AllByRecursion IsTaskName (map task_of done)
  pub others : RestUse (map task_of done) numbers numbers_now
  pub rows : LeavesStanding numbers numbers_now old new (rows_put done)

-- a part of a plan was taken, of which the last may have ended early
pub record IsStopped (inputs : Record) (plan : List TaskFile) (numbers numbers_now : Numbers) (old new : Option Files) (takes : List (List ℕ × FoundEntry)) : Type 0 where
  pub done : List Take
  pub rest : List TaskFile
  pub taken : AreTaken inputs plan numbers old takes done rest
  pub left : MayLeave done old new
  pub rows : LeavesStanding numbers numbers_now old new (rows_put done)
