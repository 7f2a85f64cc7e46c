-- Graphs of tasks: rows in name order, each with the places of its inputs.
use Rattle.std.specs.Prelude.{◌≡◌, ℕ, ◌+◌, ◌<◌, ◌≤◌, Bool, true, false, List, [], length, map, filter, slice_get, slice_index_or, All, Option, Some, option_map, IsTrue}
use Rattle.std.specs.Ordering.{nat_cmp}
use Rattle.std.specs.declared.cmp.Ordering.TheVariants.{Less}
use Rattle.std.specs.Cmp.Lexicographic.{slice_cmp}
use Rattle.place_graph.specs.Graphs.{edges_of, is_among, IsGraph}
use Rattle.task_model.specs.declared.task_row.Kind.{Kind}
use Rattle.task_model.specs.declared.task_row.Kind.TheVariants.{Command, Anonymous}
use Rattle.task_model.specs.declared.task_row.TaskId.{TaskId}
use Rattle.task_model.specs.declared.task_row.TaskRow.{TaskRow}
use Rattle.task_model.specs.TaskNames.{is_task_name}
use Rattle.task_graph.specs.Returning.{NoneReturns}

abbrev pub places : List TaskId → List ℕ
places ids = map (λ id. id.at) ids

-- the places of a task's inputs, in declared order
abbrev pub inputs_of : TaskRow → List ℕ
inputs_of row = places row.inputs

-- for each task the places of its inputs
abbrev pub edges : List TaskRow → List (List ℕ)
edges rows = map inputs_of rows

abbrev pub kind_at : List TaskRow → ℕ → Option Kind
kind_at rows place = option_map (λ row. row.kind) (slice_get rows place)

abbrev pub is_anonymous_kind : Option Kind → Bool
is_anonymous_kind (Some Anonymous) = true
is_anonymous_kind _ = false

abbrev pub is_command_kind : Option Kind → Bool
is_command_kind (Some Command) = true
is_command_kind _ = false

abbrev pub is_anonymous : List TaskRow → ℕ → Bool
is_anonymous rows place = is_anonymous_kind (kind_at rows place)

abbrev pub is_command : List TaskRow → ℕ → Bool
is_command rows place = is_command_kind (kind_at rows place)

abbrev pub names : List TaskRow → List (List ℕ)
names rows = map (λ row. row.name) rows

abbrev pub name_at : List TaskRow → ℕ → List ℕ
name_at rows place = slice_index_or (names rows) place []

-- names in the order of their bytes, each once
abbrev pub AreRising : List TaskRow → Type 0
AreRising rows =
    (place : ℕ) → place + 1 < length rows → slice_cmp nat_cmp (name_at rows place) (name_at rows (place + 1)) ≡ Less

-- At most 4,096 tasks with names in order; their inputs are tasks, and none of them is a Command.
pub record IsDrawn (rows : List TaskRow) : Type 0 where
  pub few : length rows ≤ 4096
  pub named : All (λ row. IsTrue (is_task_name row.name)) rows
  pub rising : AreRising rows
  pub inputs : IsGraph (edges rows)
  pub no_commands : (task input : ℕ) → IsTrue (is_among input (edges_of (edges rows) task)) → is_command rows input ≡ false

-- what a graph of tasks is: also, no chain of inputs returns
pub record IsTaskGraph (rows : List TaskRow) : Type 0 where
  pub drawn : IsDrawn rows
  pub no_cycle : NoneReturns (edges rows)

-- for each task those of its inputs that are anonymous
abbrev pub anonymous_edges : List TaskRow → List (List ℕ)
anonymous_edges rows = map (λ row. filter (is_anonymous rows) (inputs_of row)) rows
