-- What a run of a task puts among the results.
use Rattle.std.specs.Prelude.{◌≡◌, ◌⊎◌, ℕ, List, [], ◌∷◌, ◌++◌, map, flat_map, Option, Contains}
use Rattle.std.specs.Str.{byte}
use Rattle.io_traits.specs.Files.{File, Files}
use Rattle.out_entry.specs.Entries.{HasParts, entry_text}
use Rattle.out_entry.specs.declared.entry.Entry.{Entry}
use Rattle.out_store.specs.Changes.{LeftByPuts}
use Rattle.out_store.specs.Numbers.{IsNext, Takes, UsesTheSame}
use Rattle.out_store.specs.declared.numbers.Numbers.{Numbers}
use Rattle.out_store.specs.Names.{entry_name, log_name, generation_name}
use Rattle.out_store.specs.declared.finished.Finished.{Finished}
use Rattle.sha2.specs.Sha256.{sha256}

-- the lines of a log, each with a line feed
abbrev pub log_text : List (List ℕ) → List ℕ
log_text lines = flat_map (λ line. line ++ byte "\n" ∷ []) lines

-- the paths of a dest with the digests of their files
abbrev pub digests : List File → List File
digests dest = map (λ file. (file.0, sha256 file.1)) dest

-- the entry of a run whose files lie under this number
abbrev pub entry_of : Finished → ℕ → Entry
entry_of run number = record {
  task = run.task;
  input = run.input;
  generation = number;
  files = digests run.dest;
  value = run.value;
}

-- the files of the run's dest, in path order
abbrev pub dest_puts : List ℕ → ℕ → List File → List File
dest_puts task number dest = map (λ file. (generation_name task number file.0, file.1)) dest

-- all that is put, in this order: the dest's files, the log, the entry
abbrev pub puts_of : Finished → ℕ → List File
puts_of run number =
    dest_puts run.task number run.dest
    ++ (log_name run.task, log_text run.log) ∷ (entry_name run.task, entry_text (entry_of run number)) ∷ []

-- what is left where a publishing was refused: no number was taken and nothing put, or the next number was taken and
-- some of the first puts were made
abbrev pub LeftByPublish : Finished → Numbers → Numbers → Option Files → Option Files → Type 0
LeftByPublish run old new before now =
    (UsesTheSame old new × (now ≡ before))
    ⊎ ((number : ℕ) × IsNext old run.task number × Takes old run.task number new × LeftByPuts (puts_of run number) before now)

-- the name is one of those that the run puts under the next number
abbrev pub IsPut : Finished → Numbers → List ℕ → Type 0
IsPut run numbers name = (number : ℕ) × IsNext numbers run.task number × Contains (map (λ file. file.0) (puts_of run number)) name

-- how a publishing went, whole or refused: as above, where the run's entry has its parts if anything was put
abbrev pub WentBy : Finished → Numbers → Numbers → Option Files → Option Files → Type 0
WentBy run old new before now =
    (UsesTheSame old new × (now ≡ before))
    ⊎ ((number : ℕ) × IsNext old run.task number × Takes old run.task number new
    × ((now ≡ before) ⊎ (HasParts (entry_of run number) × LeftByPuts (puts_of run number) before now)))
