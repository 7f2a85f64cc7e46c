-- The rows of tasks in name order, whose inputs are the places of tasks among them.
use Rattle.std.specs.Prelude.{ℕ, ◌+◌, Bool, true, false, List, [], ◌∷◌, bytes_eq, slice_get, Option, Some, None, if◌then◌else◌}
use Rattle.std.specs.List.{position_from}
use Rattle.std.specs.declared.result.Result.{Result}
use Rattle.std.specs.declared.result.Result.TheVariants.{Ok, Err}
use Rattle.tree_value.specs.declared.value.ValueType.{ValueType}
use Rattle.tree_value.specs.declared.value.ValueType.TheVariants as types
use Rattle.task_model.specs.declared.task_row.TaskId.{TaskId}
use Rattle.task_model.specs.declared.task_row.TaskRow.{TaskRow}
use Rattle.task_graph.specs.declared.fault.GraphFault.{GraphFault}
use Rattle.task_graph.specs.declared.fault.GraphFault.TheVariants.{UnknownInput, CommandInput, TypeMismatch}
use Rattle.task_graph.specs.TaskGraphs.{is_command_kind}
use Rattle.program_graph.specs.Tasks.{Task, name_of, kind_of}
use Rattle.program_graph.specs.Results.{then_each}

-- inputs

abbrev pub is_named : List ℕ → Task → Bool
is_named name t = bytes_eq name (name_of t)

-- the place of the task of a name
abbrev pub place_of : List ℕ → List Task → Option ℕ
place_of name tasks = position_from (is_named name) 0 tasks

abbrev pub are_same : ValueType → ValueType → Bool
are_same types.Bool types.Bool = true
are_same types.Int types.Int = true
are_same types.Long types.Long = true
are_same types.Text types.Text = true
are_same types.List types.List = true
are_same types.Ref types.Ref = true
are_same _ _ = false

-- whether a parameter is of a type; it may be of one that no value has
abbrev pub is_of_type : Option (Option ValueType) → ValueType → Bool
is_of_type (Some (Some parameter)) result = are_same parameter result
is_of_type _ result = false

-- the input of a task that another task is: no command, and of the type of the parameter for it
abbrev pub linked_to : List ℕ → List ℕ → Option (Option ValueType) → ℕ → Option Task → Result TaskId GraphFault
linked_to task input parameter place (Some t) =
    if is_command_kind (Some (kind_of t)) then Err (CommandInput input task)
    else if is_of_type parameter t.declaration.result then Ok (record { at = place })
    else Err (TypeMismatch input task)
linked_to task input parameter place None = Err (UnknownInput input task)

abbrev pub linked_at : List Task → List ℕ → List ℕ → Option (Option ValueType) → Option ℕ → Result TaskId GraphFault
linked_at tasks task input parameter (Some place) = linked_to task input parameter place (slice_get tasks place)
linked_at tasks task input parameter None = Err (UnknownInput input task)

-- the input of a name, among tasks in name order
abbrev pub linked : List Task → Task → List ℕ → Option (Option ValueType) → Result TaskId GraphFault
linked tasks t input parameter = linked_at tasks (name_of t) input parameter (place_of input tasks)

-- the inputs of a task, the first of which has a place, which is also that of the parameter for it
abbrev pub links_from : List Task → Task → ℕ → List (List ℕ) → Result (List TaskId) GraphFault
links_from tasks t at [] = Ok []
links_from tasks t at (input ∷ inputs) =
    then_each (linked tasks t input (slice_get t.declaration.parameters at)) (links_from tasks t (at + 1) inputs)

abbrev pub links : List Task → Task → Result (List TaskId) GraphFault
links tasks t = links_from tasks t 0 t.declaration.elements.inputs

-- rows

abbrev pub row_with : Task → List TaskId → TaskRow
row_with t inputs = record {
  name = name_of t;
  kind = kind_of t;
  method = t.site.member;
  inputs = inputs;
  path = t.declaration.elements.path;
  budget = t.declaration.elements.budget;
  result = t.declaration.result;
}

abbrev pub row_if : Task → Result (List TaskId) GraphFault → Result TaskRow GraphFault
row_if t (Ok inputs) = Ok (row_with t inputs)
row_if t (Err fault) = Err fault

-- the row of a task, or why its first input that is wrong is so
abbrev pub row_of : List Task → Task → Result TaskRow GraphFault
row_of tasks t = row_if t (links tasks t)

-- those of some of the tasks
abbrev pub rows_for : List Task → List Task → Result (List TaskRow) GraphFault
rows_for tasks [] = Ok []
rows_for tasks (t ∷ some) = then_each (row_of tasks t) (rows_for tasks some)

-- the rows of tasks in name order; or the first fault, by task and then by input in declared order
unfoldable pub rows_of : List Task → Result (List TaskRow) GraphFault
rows_of tasks = rows_for tasks tasks
