-- What is kept of the store as it is opened: the entries that read, without their values.
use Rattle.std.specs.Prelude.{◌≡◌, ℕ, List, ◌++◌, map, Contains}
use Rattle.io_traits.specs.Files.{Files, IsInOrder}
use Rattle.out_entry.specs.declared.entry.Entry.{Entry}
use Rattle.out_entry.specs.declared.entry.Kept.{Kept}
use Rattle.out_store.specs.Generations.{Reads, IsThere}
use Rattle.out_store.specs.Names.{IsOf, entry_name}

-- these are the names of this generation that are there, in byte order
pub record AreNamesOf (files : Files) (task : List ℕ) (number : ℕ) (names : List (List ℕ)) : Type 0 where
  pub each : (name : List ℕ) → Contains names name → IsOf task number name × IsThere files name
  pub every : (name : List ℕ) → IsOf task number name → IsThere files name → Contains names name
  pub rising : IsInOrder names

-- what is kept of an entry: all but its value, and the names of its generation that are there
pub record IsKeptOf (files : Files) (entry : Entry) (kept : Kept) : Type 0 where
  pub task : kept.task ≡ entry.task
  pub input : kept.input ≡ entry.input
  pub generation : kept.generation ≡ entry.generation
  pub digests : kept.files ≡ entry.files
  pub names : AreNamesOf files entry.task entry.generation kept.names

-- what is kept of all entries that read: one for each task, in byte order of the names of the entries
pub record AreKept (files : Files) (opening : List Kept) : Type 0 where
  pub each : (kept : Kept) → Contains opening kept → (entry : Entry) × Reads files kept.task entry × IsKeptOf files entry kept
  pub every : (task : List ℕ) (entry : Entry) → Reads files task entry → (kept : Kept) × Contains opening kept × IsKeptOf files entry kept
  pub rising : IsInOrder (map (λ kept. entry_name kept.task) opening)

-- these are the listed names that begin with the bytes of this folder, in byte order
pub record AreBelow (folder : List ℕ) (listed below : List (List ℕ)) : Type 0 where
  pub each : (name : List ℕ) → Contains below name → Contains listed name × ((path : List ℕ) × (name ≡ folder ++ path))
  pub every : (path : List ℕ) → Contains listed (folder ++ path) → Contains below (folder ++ path)
  pub rising : IsInOrder below

-- what is kept of the entries that have one of these names
pub record AreKeptUnder (files : Files) (seen : List (List ℕ)) (kept : List Kept) : Type 0 where
  pub named : (one : Kept) → Contains kept one → Contains seen (entry_name one.task)
  pub each : (one : Kept) → Contains kept one → (entry : Entry) × Reads files one.task entry × IsKeptOf files entry one
  pub every : (task : List ℕ) (entry : Entry) → Reads files task entry → Contains seen (entry_name task) → (one : Kept) × Contains kept one × IsKeptOf files entry one
  pub rising : IsInOrder (map (λ one. entry_name one.task) kept)
