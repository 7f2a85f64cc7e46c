-- Entries that are readable, and the generations that they publish.
use Rattle.std.specs.Prelude.{◌≡◌, ◌≢◌, ℕ, List, Option, Some, None, Contains}
use Rattle.io_traits.specs.Files.{Files, get}
use Rattle.out_entry.specs.Entries.{Keeps, entry_text}
use Rattle.out_entry.specs.declared.entry.Entry.{Entry}
use Rattle.out_store.specs.Names.{IsTaskName, IsOf, entry_name}

-- among the files stands the entry of the task: its bytes, under the task's entry name
pub record Reads (files : Files) (task : List ℕ) (entry : Entry) : Type 0 where
  pub named : IsTaskName task
  pub keeps : Keeps (entry_text entry) entry
  pub text : get files (entry_name task) ≡ Some (entry_text entry)
  pub own : entry.task ≡ task

-- the entry of the task that reads, if one does
abbrev pub IsFound : Files → List ℕ → Option Entry → Type 0
IsFound files task None = (entry : Entry) → Reads files task entry → ⊥
IsFound files task (Some entry) = Reads files task entry

-- the task's entry reads and names this generation
abbrev pub IsPublished : Files → List ℕ → ℕ → Type 0
IsPublished files task number = (entry : Entry) × Reads files task entry × (entry.generation ≡ number)

-- the name is of a generation that no entry which reads publishes
abbrev pub IsUnpublished : Files → List ℕ → Type 0
IsUnpublished files name = (task : List ℕ) × (number : ℕ) × IsOf task number name × (IsPublished files task number → ⊥)

-- something stands under the name
abbrev pub IsThere : Files → List ℕ → Type 0
IsThere files name = get files name ≢ None

-- these are the names of unpublished generations that are there
pub record AreUnpublished (files : Files) (gone : List (List ℕ)) : Type 0 where
  pub each : (name : List ℕ) → Contains gone name → IsUnpublished files name
  pub every : (name : List ℕ) → IsUnpublished files name → IsThere files name → Contains gone name
