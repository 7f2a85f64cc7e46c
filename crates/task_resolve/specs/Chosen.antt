-- The tasks that several selectors choose, with the arguments of Commands.
use Rattle.std.specs.Prelude.{ℕ, ◌+◌, List, [], ◌∷◌, ◌++◌, Option, Some, None, if◌then◌else◌}
use Rattle.std.specs.List.{find}
use Rattle.task_model.specs.declared.task_row.TaskRow.{TaskRow}
use Rattle.task_resolve.specs.Selected.{is_command, is_selected}
use Rattle.task_resolve.specs.declared.choose.Chosen.{Chosen}
use Rattle.task_resolve.specs.declared.request.Selector.{Selector}

-- the first selector that selects a task
abbrev pub first_selecting : List Selector → TaskRow → Option Selector
first_selecting selectors task = find (λ selector. is_selected selector task) selectors

-- a Command takes the arguments behind the selector, other tasks take none
abbrev pub taken_args : TaskRow → Selector → List (List ℕ)
taken_args task selector = if is_command task.kind then selector.args else []

abbrev pub chosen_by : ℕ → TaskRow → Option Selector → List Chosen
chosen_by place task None = []
chosen_by place task (Some selector) = record { task = record { at = place }; args = taken_args task selector } ∷ []

-- the chosen ones among tasks of which the first has this place, each once
abbrev pub chosen_from : List Selector → ℕ → List TaskRow → List Chosen
chosen_from selectors place [] = []
chosen_from selectors place (task ∷ tasks) = chosen_by place task (first_selecting selectors task) ++ chosen_from selectors (place + 1) tasks

-- in the order of the tasks, which is that of their names
abbrev pub chosen : List Selector → List TaskRow → List Chosen
chosen selectors tasks = chosen_from selectors 0 tasks
