-- The graph of the tasks that methods declare, or the first refusal.
use Rattle.std.specs.Prelude.{◌≡◌, ℕ, ◌≤◌, List, map, All, count_by, false, Some, None, IsPermutation, IsSortedByKey}
use Rattle.std.specs.Ordering.{is_gt}
use Rattle.std.specs.declared.result.Result.TheVariants.{Ok, Err}
use Rattle.task_model.specs.declared.task_row.TaskRow.{TaskRow}
use Rattle.task_graph.specs.declared.fault.GraphFault.{GraphFault}
use Rattle.task_graph.specs.declared.fault.GraphFault.TheVariants.{TooMany, BadTask, UnsupportedKind, DuplicateTask, UnknownInput, CommandInput, TypeMismatch, Cycle, Memory}
use Rattle.task_graph.specs.GraphFaults.{IsCycleFault}
use Rattle.task_graph.specs.Returning.{NoneReturns}
use Rattle.task_graph.specs.TaskGraphs.{edges}
use Rattle.task_annotations.specs.Sites.{Site, limit_passed}
use Rattle.program_graph.specs.Tasks.{Task, name_of, IsAccepted, IsFirstRefused}
use Rattle.program_graph.specs.Methods.{text_cmp, AreInOrder}
use Rattle.program_graph.specs.Rows.{is_named, rows_of}

abbrev pub count_named : List ℕ → List Task → ℕ
count_named name tasks = count_by (is_named name) tasks

abbrev pub HaveDistinctNames : List Task → Type 0
HaveDistinctNames tasks = (name : List ℕ) → count_named name tasks ≤ 1

-- Two tasks have the name, and no lesser name in the order of bytes is the name of two.
pub record IsLeastDouble (name : List ℕ) (tasks : List Task) : Type 0 where
  pub twice : 2 ≤ count_named name tasks
  pub least : (other : List ℕ) → 2 ≤ count_named other tasks → is_gt (text_cmp name other) ≡ false

-- The methods pass no limit and are all accepted; the tasks that they declare, in name order.
pub record AreTasksOf (sites : List Site) (tasks : List Task) : Type 0 where
  pub within : limit_passed sites ≡ None
  pub same : IsPermutation sites (map (λ t. t.site) tasks)
  pub accepted : All IsAccepted tasks
  pub sorted : IsSortedByKey name_of text_cmp tasks

-- the first refusal among methods that pass no limit, in their order
pub record IsMethodFault (sites : List Site) (fault : GraphFault) : Type 0 where
  pub within : limit_passed sites ≡ None
  pub ordered : List Site
  pub order : AreInOrder sites ordered
  pub first : IsFirstRefused ordered fault

abbrev pub IsDoubleFault : List Task → GraphFault → Type 0
IsDoubleFault tasks (DuplicateTask name) = IsLeastDouble name tasks
IsDoubleFault tasks _ = ⊥

-- two tasks have one name
pub record IsNameFault (sites : List Site) (fault : GraphFault) : Type 0 where
  pub tasks : List Task
  pub are : AreTasksOf sites tasks
  pub double : IsDoubleFault tasks fault

-- the first input that is wrong
pub record IsInputFault (sites : List Site) (fault : GraphFault) : Type 0 where
  pub tasks : List Task
  pub are : AreTasksOf sites tasks
  pub distinct : HaveDistinctNames tasks
  pub first : rows_of tasks ≡ Err fault

-- the rows of the tasks, whose names are distinct and whose inputs are all well
pub record AreRowsOf (sites : List Site) (rows : List TaskRow) : Type 0 where
  pub tasks : List Task
  pub are : AreTasksOf sites tasks
  pub distinct : HaveDistinctNames tasks
  pub made : rows_of tasks ≡ Ok rows

-- inputs lead back to a task
pub record IsPathFault (sites : List Site) (fault : GraphFault) : Type 0 where
  pub rows : List TaskRow
  pub are : AreRowsOf sites rows
  pub least : IsCycleFault rows fault

-- the graph of the tasks
pub record IsGraphOf (sites : List Site) (rows : List TaskRow) : Type 0 where
  pub are : AreRowsOf sites rows
  pub no_cycle : NoneReturns (edges rows)

-- the first refusal
abbrev pub IsFaultOf : List Site → GraphFault → Type 0
IsFaultOf sites (TooMany limit) = limit_passed sites ≡ Some limit
IsFaultOf sites (BadTask id) = IsMethodFault sites (BadTask id)
IsFaultOf sites (UnsupportedKind name kind) = IsMethodFault sites (UnsupportedKind name kind)
IsFaultOf sites (DuplicateTask name) = IsNameFault sites (DuplicateTask name)
IsFaultOf sites (UnknownInput input name) = IsInputFault sites (UnknownInput input name)
IsFaultOf sites (CommandInput input name) = IsInputFault sites (CommandInput input name)
IsFaultOf sites (TypeMismatch input name) = IsInputFault sites (TypeMismatch input name)
IsFaultOf sites (Cycle name) = IsPathFault sites (Cycle name)
IsFaultOf sites Memory = Unit {0}
