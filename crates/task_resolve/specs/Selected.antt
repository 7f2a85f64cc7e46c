-- The tasks that a selector selects.
use Rattle.std.specs.Prelude.{◌≡◌, ℕ, ◌+◌, Bool, true, false, ◌&&◌, not, List, [], ◌∷◌, ◌++◌, Result, Ok, Err, if◌then◌else◌}
use Rattle.std.specs.List.{list_any}
use Rattle.task_model.specs.TaskNames.{name_segments}
use Rattle.task_model.specs.declared.task_row.Kind.{Kind}
use Rattle.task_model.specs.declared.task_row.Kind.TheVariants.{Cached, Source, Input, Command, Anonymous}
use Rattle.task_model.specs.declared.task_row.TaskId.{TaskId}
use Rattle.task_model.specs.declared.task_row.TaskRow.{TaskRow}
use Rattle.task_resolve.specs.Matching.{matches}
use Rattle.task_resolve.specs.declared.request.Selector.{Selector}
use Rattle.task_resolve.specs.declared.select_fault.SelectFault.{SelectFault}
use Rattle.task_resolve.specs.declared.select_fault.SelectFault.TheVariants.{NoTask, NoCommand, Memory}

-- anonymous tasks have no name that could be given
abbrev pub is_named_task : Kind → Bool
is_named_task Cached = true
is_named_task Source = true
is_named_task Input = true
is_named_task Command = true
is_named_task Anonymous = false

abbrev pub is_command : Kind → Bool
is_command Cached = false
is_command Source = false
is_command Input = false
is_command Command = true
is_command Anonymous = false

unfoldable pub is_selected : Selector → TaskRow → Bool
is_selected selector task = if is_named_task task.kind then matches selector.segments (name_segments task.name) else false

unfoldable pub is_selected_command : Selector → TaskRow → Bool
is_selected_command selector task = if is_command task.kind then is_selected selector task else false

abbrev pub if_selected : Selector → ℕ → TaskRow → List TaskId
if_selected selector place task = if is_selected selector task then record { at = place } ∷ [] else []

-- the selected ones among tasks of which the first has this place
abbrev pub selected_from : Selector → ℕ → List TaskRow → List TaskId
selected_from selector place [] = []
selected_from selector place (task ∷ tasks) = if_selected selector place task ++ selected_from selector (place + 1) tasks

-- the selected tasks, in the order of the tasks, which is that of their names
abbrev pub selected : Selector → List TaskRow → List TaskId
selected selector tasks = selected_from selector 0 tasks

abbrev pub selects_command : Selector → List TaskRow → Bool
selects_command selector tasks = list_any (is_selected_command selector) tasks

abbrev pub is_none : {A : Type 0} → List A → Bool
is_none [] = true
is_none (x ∷ xs) = false

-- no task: nothing is selected; no command: arguments, and no selected Command that takes them
abbrev pub selection : Selector → List TaskRow → Result (List TaskId) SelectFault
selection selector tasks =
    if is_none (selected selector tasks) then Err NoTask
    else if not (is_none selector.args) && not (selects_command selector tasks) then Err NoCommand
    else Ok (selected selector tasks)

-- the answer, unless memory ran out
abbrev pub AnswersUnlessMemory : Result (List TaskId) SelectFault → Result (List TaskId) SelectFault → Type 0
AnswersUnlessMemory answer (Ok found) = answer ≡ Ok found
AnswersUnlessMemory answer (Err NoTask) = answer ≡ Err NoTask
AnswersUnlessMemory answer (Err NoCommand) = answer ≡ Err NoCommand
AnswersUnlessMemory answer (Err Memory) = Unit {0}
