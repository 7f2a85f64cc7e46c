-- What is found as the store is opened.
use Rattle.std.specs.Prelude.{◌≡◌, ◌↔◌, ℕ, List, Option, None, IfSome, Contains}
use Rattle.std.specs.BTreeMap.{get}
use Rattle.io_traits.specs.Files.{Files}
use Rattle.out_entry.specs.declared.entry.Entry.{Entry}
use Rattle.out_store.specs.Changes.{takes_out, LeftByRemoves, OthersStay}
use Rattle.out_store.specs.Generations.{Reads, IsPublished, IsUnpublished, AreUnpublished}
use Rattle.out_store.specs.Names.{IsOf, entry_name}
use Rattle.out_store.specs.Numbers.{IsOpening, IsUsed}
use Rattle.out_store.specs.declared.numbers.Numbers.{Numbers}
use Rattle.tree_value.specs.Trees.{path_cmp}

-- the opening numbers are those that entries which read name
abbrev pub Opens : Files → Numbers → Type 0
Opens files numbers = (task : List ℕ) (number : ℕ) → IsOpening numbers task number ↔ IsPublished files task number

-- no number was taken yet
abbrev pub NoneTaken : Numbers → Type 0
NoneTaken numbers = (task : List ℕ) → get path_cmp numbers.taken task ≡ None

-- each opening number is that of an entry which reads
abbrev pub AreRead : Files → Numbers → Type 0
AreRead files numbers = (task : List ℕ) (number : ℕ) → IsOpening numbers task number → IsPublished files task number

-- each entry that reads under one of these names has its number among the opening ones
abbrev pub Covers : Files → Numbers → List (List ℕ) → Type 0
Covers files numbers seen = (task : List ℕ) (entry : Entry) → Reads files task entry → Contains seen (entry_name task) → IsOpening numbers task entry.generation

-- the name is of a generation whose number is none of the opening ones
abbrev pub IsLoose : Numbers → List ℕ → Type 0
IsLoose numbers name = (task : List ℕ) × (number : ℕ) × IsOf task number name × (IsOpening numbers task number → ⊥)

-- these are the loose ones of the names
pub record AreLoose (numbers : Numbers) (names gone : List (List ℕ)) : Type 0 where
  pub each : (name : List ℕ) → Contains gone name → IsLoose numbers name
  pub every : (name : List ℕ) → Contains names name → IsLoose numbers name → Contains gone name

-- the store is open: the names of unpublished generations are gone, and the numbers of the published ones are used
pub record IsOpened (before now : Option Files) (numbers : Numbers) : Type 0 where
  pub content : (gone : List (List ℕ)) × (now ≡ takes_out gone before) × IfSome before (λ files. AreUnpublished files gone)
  pub used : IfSome before (λ files. (task : List ℕ) (number : ℕ) → IsUsed numbers task number ↔ IsPublished files task number)

-- what is left where the opening was refused: some of these names are gone
abbrev pub LeftByOpening : Option Files → Option Files → Type 0
LeftByOpening before now =
    (gone : List (List ℕ)) × LeftByRemoves gone before now
    × IfSome before (λ files. (name : List ℕ) → Contains gone name → IsUnpublished files name)

-- all other names stay
abbrev pub PublishedStay : Option Files → Option Files → Type 0
PublishedStay before now = IfSome before (λ files. OthersStay (IsUnpublished files) before now)
