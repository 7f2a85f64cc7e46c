-- Which calls of a device in memory fail, and what a failed change leaves there.
use Rattle.std.specs.Prelude.{ℕ, ◌+◌, ◌==◌, min, map, List, Option, None, Some, Result, Ok, Err, is_some, if◌then◌else◌, MatchOption, IsErrOf}
use Rattle.std.specs.Map.{lookup}
use Rattle.io_traits.specs.Causes.{last_count, one_more}
use Rattle.io_traits.specs.Files.{Files, insert, remove}
use Rattle.io_traits.specs.declared.faults.IoFault.{IoFault}
use Rattle.io_traits.specs.declared.faults.IoFault.TheVariants.{Failed}
use Rattle.io_traits.specs.declared.plans.Leaves.{Leaves}
use Rattle.io_traits.specs.declared.plans.Leaves.TheVariants.{Old, New, Nothing}

-- the numbers of the calls that are to fail, each with what it leaves
abbrev pub FailingCalls : Type 0
FailingCalls = List (ℕ × Leaves)

-- the calls that are to fail, and how many calls and failures there were
pub record Planned : Type 0 where
  pub failing : FailingCalls
  pub calls : ℕ
  pub faults : ℕ

-- the plan of a device that had no call yet
abbrev pub planned : FailingCalls → Planned
planned failing = record { failing = failing; calls = 0; faults = 0 }

-- calls that leave all as it was where they fail
abbrev pub leaving_old : List ℕ → FailingCalls
leaving_old numbers = map (λ number. (number, Old)) numbers

-- what the next call leaves, if its number is among those that are to fail
abbrev pub next_leaves : Planned → Option Leaves
next_leaves plan = lookup (λ number. number == one_more plan.calls) plan.failing

-- after one more call, which is a fault just where it was to fail
abbrev pub after_call : Planned → Planned
after_call plan = record plan { calls = one_more plan.calls; faults = if is_some (next_leaves plan) then one_more plan.faults else plan.faults }

-- a call fails just where it was to fail; where it was not, it may want memory
abbrev pub FailsAsPlanned : {T : Type 0} → Planned → Result T IoFault → Type 0
FailsAsPlanned plan result = MatchOption (next_leaves plan) (¬ IsErrOf result Failed) (λ _. IsErrOf result Failed)

-- what a failed put leaves of the files
abbrev pub left_by_put : Leaves → List ℕ → List ℕ → Files → Files
left_by_put Old name bytes files = files
left_by_put New name bytes files = insert files name bytes
left_by_put Nothing name bytes files = remove files name

-- what a failed removal leaves of the files
abbrev pub left_by_remove : Leaves → List ℕ → Files → Files
left_by_remove Old name files = files
left_by_remove New name files = remove files name
left_by_remove Nothing name files = remove files name

-- the files with these bytes at the path, or without the path
abbrev pub set_to : List ℕ → Option (List ℕ) → Files → Files
set_to path None files = remove files path
set_to path (Some bytes) files = insert files path bytes

-- the faults of a sink: those by its plan, and its wants of memory
abbrev pub sink_faults : Planned → ℕ → ℕ
sink_faults plan wants = min (plan.faults + wants) last_count

-- how often a sink wanted memory, after a write that was to fail by the plan or not
abbrev pub wanted : {T E : Type 0} → Option Leaves → Result T E → ℕ → ℕ
wanted (Some leaves) result wants = wants
wanted None (Ok n) wants = wants
wanted None (Err fault) wants = one_more wants
