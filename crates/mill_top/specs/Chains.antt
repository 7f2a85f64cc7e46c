-- A plan is a chain: each task but the first has the one before it as its input. For private clauses.
use Rattle.std.specs.Prelude.{◌≡◌, ◌≢◌, ◌≤◌, ℕ, List, [], ◌∷◌, map, Some}
use Rattle.std.specs.List.{AllByRecursion}
use Rattle.io_traits.specs.Files.{Files}
use Rattle.mill_top.specs.declared.task_file.TaskFile.{TaskFile}
use Rattle.mill_top.specs.Graphs.{task_in, task_name, inputs_of}

-- the last one, if there is one
abbrev pub latest : List (List ℕ) → List (List ℕ)
latest [] = []
latest (name ∷ earlier) = name ∷ []

-- a file whose task is known, has the one before it as its input, and isn't among the earlier ones
pub record IsLink (files : Files) (earlier : List (List ℕ)) (file : TaskFile) : Type 0 where
  pub known : task_in files (task_name file) ≡ Some file
  pub low : 97 ≤ file.task
  pub high : file.task ≤ 122
  pub inputs : map (λ input. input ∷ []) (inputs_of file.body) ≡ latest earlier
  pub fresh : AllByRecursion (λ name. name ≢ task_name file) earlier

-- each file is linked to those before it, the latest first
abbrev pub IsChain : Files → List (List ℕ) → List TaskFile → Type 0
IsChain files earlier [] = Unit {0}
IsChain files earlier (file ∷ rest) = IsLink files earlier file × IsChain files (task_name file ∷ earlier) rest
