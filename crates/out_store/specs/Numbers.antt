-- Which numbers of generations are in use.
use Rattle.std.specs.Prelude.{◌≡◌, ◌≢◌, ◌↔◌, ℕ, ◌+◌, ◌<◌, ◌≤◌, ◌⊎◌, List, Option, Some, None}
use Rattle.std.specs.BTreeMap.{get}
use Rattle.std.specs.Option.{unwrap_or}
use Rattle.io_traits.specs.Files.{Files}
use Rattle.out_entry.specs.declared.entry.Entry.{Entry}
use Rattle.out_store.specs.Generations.{Reads, IsThere}
use Rattle.out_store.specs.Names.{IsNumber, IsOf}
use Rattle.out_store.specs.declared.numbers.Numbers.{Numbers}
use Rattle.tree_value.specs.Trees.{path_cmp}

-- the number is that of the entry of the task that was readable at the start
abbrev pub IsOpening : Numbers → List ℕ → ℕ → Type 0
IsOpening numbers task number = get path_cmp numbers.opening task ≡ Some number

-- the last number that was taken for the task, or 0
abbrev pub last_taken : Numbers → List ℕ → ℕ
last_taken numbers task = unwrap_or (get path_cmp numbers.taken task) 0

-- the number is that of the opening entry, or it isn't above the last that was taken
abbrev pub IsUsed : Numbers → List ℕ → ℕ → Type 0
IsUsed numbers task number = IsOpening numbers task number ⊎ ((1 ≤ number) × (number ≤ last_taken numbers task))

-- the least number from 1 that isn't used for the task
pub record IsNext (numbers : Numbers) (task : List ℕ) (number : ℕ) : Type 0 where
  pub counted : IsNumber number
  pub free : IsUsed numbers task number → ⊥
  pub least : (m : ℕ) → 1 ≤ m → m < number → IsUsed numbers task m

-- the number behind the last one, or the one after it where that is the opening one
abbrev pub IsNextBehind : ℕ → Option ℕ → ℕ → Type 0
IsNextBehind last opening number =
    ((number ≡ last + 1) × (opening ≢ Some number))
    ⊎ ((number ≡ last + 2) × (opening ≡ Some (last + 1)))

-- the same numbers are used
abbrev pub UsesTheSame : Numbers → Numbers → Type 0
UsesTheSame old new = (task : List ℕ) (number : ℕ) → IsUsed new task number ↔ IsUsed old task number

-- the same numbers are used, and this one of the task
abbrev pub Takes : Numbers → List ℕ → ℕ → Numbers → Type 0
Takes old task number new = (t : List ℕ) (n : ℕ) → IsUsed new t n ↔ (IsUsed old t n ⊎ ((t ≡ task) × (n ≡ number)))

-- the numbers of all names of generations and of all entries that read are used
pub record Knows (files : Files) (numbers : Numbers) : Type 0 where
  pub generations : (task : List ℕ) (number : ℕ) (name : List ℕ) → IsOf task number name → IsThere files name → IsUsed numbers task number
  pub entries : (task : List ℕ) (entry : Entry) → Reads files task entry → IsUsed numbers task entry.generation

-- the same of a store that tells its content
abbrev pub KnowsIn : Option Files → Numbers → Type 0
KnowsIn None numbers = ⊥
KnowsIn (Some files) numbers = Knows files numbers
