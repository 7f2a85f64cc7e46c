-- The table in which a graph keeps its tasks: for each letter the file that has the task, if one does.
use Rattle.std.specs.Prelude.{◌≡◌, Bool, true, ℕ, suc, List, [], ◌∷◌, ◌&&◌, ◌==◌, Option, Some, None}
use Rattle.std.specs.List.{filter_map}
use Rattle.mill_top.specs.declared.task_file.TaskFile.{TaskFile}

-- whether each file in the places from this letter's on has the task of its place
abbrev pub is_placed : ℕ → List (Option TaskFile) → Bool
is_placed letter [] = true
is_placed letter (None ∷ places) = is_placed (suc letter) places
is_placed letter (Some file ∷ places) = (file.task == letter) && is_placed (suc letter) places

-- the files in the places
abbrev pub placed : List (Option TaskFile) → List TaskFile
placed places = filter_map (λ place. place) places

-- a table has these tasks, each in its place
pub record IsTable (tasks : List TaskFile) (table : List (Option TaskFile)) : Type 0 where
  pub in_place : is_placed 97 table ≡ true
  pub all : tasks ≡ placed table
