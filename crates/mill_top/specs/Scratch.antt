-- What a command's tasks are, evaluated from scratch: plain recursion over the graph. Nothing here knows a hash, an entry
-- or a store.
use Rattle.std.specs.Prelude.{◌≡◌, ℕ, ℤ, pos, ◌+ℤ◌, ◌-ℤ◌, ◌*ℤ◌, zero, suc, List, [], ◌∷◌, ◌++◌, length, Option, Some, None, IfSome, option_and_then, unwrap_or}
use Rattle.std.specs.Int.{w32, int_wrap}
use Rattle.std.specs.Option.{option_map}
use Rattle.io_traits.specs.Files.{Files, get}
use Rattle.mill_top.specs.declared.operation.Operation.{Operation}
use Rattle.mill_top.specs.declared.operation.Operation.TheVariants.{Sum, Difference, Product}
use Rattle.mill_top.specs.declared.outcome.Outcome.{Outcome}
use Rattle.mill_top.specs.declared.outcome.Outcome.TheVariants.{Returns}
use Rattle.mill_top.specs.declared.recorded.Record.{Record}
use Rattle.mill_top.specs.declared.task_file.Body.{Body}
use Rattle.mill_top.specs.declared.task_file.Body.TheVariants.{Constant, Linked}
use Rattle.mill_top.specs.declared.task_file.TaskFile.{TaskFile}
use Rattle.mill_top.specs.Graphs.{file_with, build_graph}

-- `iadd`, `isub` and `imul` (JVMS 6.5), which wrap in 32 bits
abbrev pub apply : Operation → ℤ → ℤ → ℤ
apply Sum left right = int_wrap w32 (left +ℤ right)
apply Difference left right = int_wrap w32 (left -ℤ right)
apply Product left right = int_wrap w32 (left *ℤ right)

-- the value of a body, given that of its input, if it has one; an input that isn't given would count as 0
unfoldable pub result_of : Body → Option ℤ → ℤ
result_of (Constant constant) given = constant
result_of (Linked input operation constant) given = apply operation (unwrap_or given (pos 0)) constant

abbrev pub value_of : Outcome → ℤ
value_of (Returns value log) = value

-- the outcome of a body over those of its inputs
abbrev pub outcome_of : Body → (ℕ → Option Outcome) → Option Outcome
outcome_of (Constant constant) outcomes = Some (Returns (result_of (Constant constant) None) [])
outcome_of (Linked input operation constant) outcomes =
    option_map (λ outcome. Returns (result_of (Linked input operation constant) (Some (value_of outcome))) []) (outcomes input)

-- the outcome of a task, with ways of at most n tasks
abbrev pub scratch_of : ℕ → List TaskFile → ℕ → Option Outcome
scratch_of zero graph task = None
scratch_of (suc n) graph task = option_and_then (λ file. outcome_of file.body (scratch_of n graph)) (file_with graph task)

abbrev pub scratch_in : List TaskFile → List ℕ → Option Outcome
scratch_in graph (task ∷ []) = scratch_of (length graph) graph task
scratch_in graph _ = None

-- the outcome of a task over a record
unfoldable pub scratch : Record → List ℕ → Option Outcome
scratch inputs task = scratch_in (build_graph inputs.files) task

-- a file that was found under a name, if it was
abbrev pub file_of : List ℕ → Option (List ℕ) → Files
file_of name (Some bytes) = (name, bytes) ∷ []
file_of name None = []

-- The file of a name was added, where the content tells it; nothing where it has none.
abbrev pub IsFileAdded : Option Files → List ℕ → (files files_now : Files) → Type 0
IsFileAdded content name files files_now =
    (found : Option (List ℕ)) × IfSome content (λ told. found ≡ get told name) × (files_now ≡ files ++ file_of name found)
