-- What the results stand for.
use Rattle.std.specs.Prelude.{◌≡◌, ℕ, List, Option, Some, None, Contains}
use Rattle.io_traits.specs.Files.{File, Files, get}
use Rattle.out_entry.specs.declared.entry.Entry.{Entry}
use Rattle.out_store.specs.Generations.{Reads}
use Rattle.out_store.specs.Names.{generation_name}
use Rattle.out_store.specs.Publishing.{digests}
use Rattle.out_store.specs.declared.finished.Finished.{Finished}
use Rattle.sha2.specs.Sha256.{sha256}
use Rattle.tree_value.specs.declared.value.Value.{Value}

-- a run of a task that returned: its input hash, its value in short form, and its dest's paths with their digests
pub record Row : Type 0 where
  pub task : List ℕ
  pub input : List ℕ
  pub value : Value
  pub dest : List File

-- the entry is that of the run
pub record IsOfRow (entry : Entry) (row : Row) : Type 0 where
  pub task : entry.task ≡ row.task
  pub input : entry.input ≡ row.input
  pub value : entry.value ≡ row.value
  pub files : entry.files ≡ row.dest

-- the files of the entry's generation are those that it lists, but that lost names may be missing
pub record HasFiles (files : Files) (lost : List (List ℕ)) (entry : Entry) : Type 0 where
  pub listed : (path bytes : List ℕ) → get files (generation_name entry.task entry.generation path) ≡ Some bytes
      → Contains entry.files (path, sha256 bytes)
  pub there : (path digest : List ℕ) → Contains entry.files (path, digest)
      → get files (generation_name entry.task entry.generation path) ≡ None
      → Contains lost (generation_name entry.task entry.generation path)

-- The files stand for these runs, where these names were lost: each entry that reads is that of one of the runs, and
-- its generation has its files.
pub record Stands (files : Files) (rows : List Row) (lost : List (List ℕ)) : Type 0 where
  pub entries : (task : List ℕ) (entry : Entry) → Reads files task entry → (row : Row) × Contains rows row × IsOfRow entry row
  pub dests : (task : List ℕ) (entry : Entry) → Reads files task entry → HasFiles files lost entry

-- the same of a store that tells its content
abbrev pub StandsIn : Option Files → List Row → List (List ℕ) → Type 0
StandsIn None rows lost = ⊥
StandsIn (Some files) rows lost = Stands files rows lost

-- the row of a run
abbrev pub row_of : Finished → Row
row_of run = record { task = run.task; input = run.input; value = run.value; dest = digests run.dest }
