-- What the store of results stands for, by runs.
use Rattle.std.specs.Prelude.{ℕ, List, [], ◌∷◌, flat_map, Option, Some, None}
use Rattle.io_traits.specs.Files.{Files}
use Rattle.tree_value.specs.declared.value.Value.TheVariants.{Int}
use Rattle.out_store.specs.Standing.{Row}
use Rattle.out_store.specs.Standing as rows
use Rattle.mill_top.specs.declared.outcome.Outcome.{Outcome}
use Rattle.mill_top.specs.declared.outcome.Outcome.TheVariants.{Returns}
use Rattle.mill_top.specs.Inputs.{Run, input_hash, scratch_values}
use Rattle.mill_top.specs.Scratch.{scratch}

-- the row of a run with this outcome: its task, its input hash and its value; no body makes dest files yet
abbrev pub row_by : Run → Option Outcome → List Row
row_by run None = []
row_by run (Some (Returns value log)) = record {
  task = run.task;
  input = input_hash run.inputs run.task (scratch_values run.inputs run.task);
  value = Int value;
  dest = [];
} ∷ []

-- the rows of runs, each with its outcome from scratch
abbrev pub rows_of : List Run → List Row
rows_of runs = flat_map (λ run. row_by run (scratch run.inputs run.task)) runs

-- the store tells its content, and this stands for the runs, where these names were lost
abbrev pub StandsIn : Option Files → List Run → List (List ℕ) → Type 0
StandsIn content runs lost = rows.StandsIn content (rows_of runs) lost
