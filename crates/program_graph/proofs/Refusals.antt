-- What each refusal says of the methods of a program.
use Rattle.std.proofs.Common.{◌≡◌, ◌≢◌, codes, IsUtf8, ℕ, suc, ◌+◌, ◌<◌, ◌≤◌, ◌⊎◌, Bool, true, false, List, [], ◌∷◌, ◌++◌, map, length, take, drop, get_or, slice_get, nat_lt, Option, Some, None, if◌then◌else◌, All, refl, sym, ◌∙◌, ap, subst, inl, inr, arith, take-append-drop, drop-cons}
use Rattle.std.specs.declared.result.Result.{Result}
use Rattle.std.specs.declared.result.Result.TheVariants.{Ok, Err}
use Rattle.std.proofs.lemmas.List.Elements.{All-map, All-head, All-tail}
use Rattle.std.proofs.lemmas.List.Sorted.{length_permutation}
use Rattle.tree_value.specs.declared.value.ValueType.{ValueType}
use Rattle.task_model.specs.TaskNames.{is_task_name, is_name_segment}
use Rattle.task_annotations.specs.declared.declared_kind.DeclaredKind.{DeclaredKind}
use Rattle.task_annotations.specs.declared.declared_kind.DeclaredKind.TheVariants.{Supported, Worker, Persistent}
use Rattle.program_graph.specs.Doubles.{begins_with, next_double}
use Rattle.program_graph.proofs.Names.{task_name-IsUtf8}
use Rattle.task_model.specs.declared.task_row.TaskId.{TaskId}
use Rattle.task_model.specs.declared.task_row.TaskRow.{TaskRow}
use Rattle.task_annotations.specs.Sites.{Site, limit_passed, has_many_inputs}
use Rattle.task_graph.specs.declared.fault.Limit.TheVariants.{Tasks, Inputs}
use Rattle.task_annotations.specs.Declarations.{Declaration}
use Rattle.task_graph.specs.declared.fault.GraphFault.{GraphFault}
use Rattle.task_graph.specs.declared.fault.GraphFault.TheVariants.{TooMany, BadTask, UnsupportedKind, DuplicateTask, UnknownInput, CommandInput, TypeMismatch, Cycle, Memory}
use Rattle.task_graph.specs.GraphFaults.{IsCycleFault}
use Rattle.task_graph.specs.TaskGraphs.{is_command_kind, IsDrawn}
use Rattle.std.specs.List.{list_any}
use Rattle.program_graph.specs.Tasks.{Task, task, name_of, kind_of, unsupported, IsAccepted, IsRefusal, IsFirstRefused}
use Rattle.program_graph.specs.Results.{then_each}
use Rattle.program_graph.specs.Rows.{place_of, is_of_type, linked_to, linked_at, linked, links_from, links, row_if, row_of, rows_for, rows_of}
use Rattle.program_graph.specs.Outcomes.{HaveDistinctNames, IsDoubleFault, AreTasksOf, IsMethodFault, IsInputFault, AreRowsOf, IsFaultOf}
use Rattle.program_graph.proofs.Declared.{declared-names}
use Rattle.program_graph.proofs.NameOrder.{rises}
use Rattle.program_graph.proofs.Drawn.{rows-drawn}

-- methods

pub first_refused : (tasks : List Task) (sites : List Site) (i : ℕ) (s : Site) (fault : GraphFault) → All IsAccepted tasks
    → map (λ t. t.site) tasks ≡ take i sites → i < length sites → s ≡ get_or sites i s → IsRefusal s fault → IsFirstRefused sites fault
first_refused tasks sites i s fault accepted same below at refusal =
    let P : Site → Type 0 = λ s. (d : Declaration) × IsAccepted (task s d) in
    let front : All P (map (λ t. t.site) tasks) = All-map P (λ t. t.site) tasks (λ k d b. ((get_or tasks k d).declaration, accepted k d b)) in
    record {
      front = take i sites;
      site = s;
      back = drop (suc i) sites;
      order = sym (take-append-drop i sites) ∙ ap (λ rest. take i sites ++ rest) (drop-cons sites i s below ∙ ap (λ x. x ∷ drop (suc i) sites) (sym at));
      before = subst (All P) same front;
      refusal = refusal;
    }

method_fault : (sites : List Site) (fault : GraphFault) → IsMethodFault sites fault → IsFaultOf sites fault
method_fault sites (TooMany limit) is = absurd is.first.refusal
method_fault sites (BadTask id) is = is
method_fault sites (UnsupportedKind name kind) is = is
method_fault sites (DuplicateTask name) is = absurd is.first.refusal
method_fault sites (UnknownInput input name) is = absurd is.first.refusal
method_fault sites (CommandInput input name) is = absurd is.first.refusal
method_fault sites (TypeMismatch input name) is = absurd is.first.refusal
method_fault sites (Cycle name) is = absurd is.first.refusal
method_fault sites Memory is = tt

-- a fault that is no want of memory

unless_memory : (sites : List Site) (fault : GraphFault) → (fault ≢ Memory → IsFaultOf sites fault) → IsFaultOf sites fault
unless_memory sites (TooMany limit) is = is (λ e. cc)
unless_memory sites (BadTask id) is = is (λ e. cc)
unless_memory sites (UnsupportedKind name kind) is = is (λ e. cc)
unless_memory sites (DuplicateTask name) is = is (λ e. cc)
unless_memory sites (UnknownInput input name) is = is (λ e. cc)
unless_memory sites (CommandInput input name) is = is (λ e. cc)
unless_memory sites (TypeMismatch input name) is = is (λ e. cc)
unless_memory sites (Cycle name) is = is (λ e. cc)
unless_memory sites Memory is = tt

pub method_refusal : (sites : List Site) (fault : GraphFault) → (fault ≢ Memory → IsMethodFault sites fault) → IsFaultOf sites fault
method_refusal sites fault is = unless_memory sites fault (λ n. method_fault sites fault (is n))

-- names

double_fault : (sites : List Site) (fault : GraphFault) (tasks : List Task) → AreTasksOf sites tasks → IsDoubleFault tasks fault → IsFaultOf sites fault
double_fault sites (DuplicateTask name) tasks are is = record { tasks = tasks; are = are; double = is }
double_fault sites (TooMany limit) tasks are is = absurd is
double_fault sites (BadTask id) tasks are is = absurd is
double_fault sites (UnsupportedKind name kind) tasks are is = absurd is
double_fault sites (UnknownInput input name) tasks are is = absurd is
double_fault sites (CommandInput input name) tasks are is = absurd is
double_fault sites (TypeMismatch input name) tasks are is = absurd is
double_fault sites (Cycle name) tasks are is = absurd is
double_fault sites Memory tasks are is = tt

pub double_refusal : (sites : List Site) (fault : GraphFault) (tasks : List Task) → AreTasksOf sites tasks → (fault ≢ Memory → IsDoubleFault tasks fault) → IsFaultOf sites fault
double_refusal sites fault tasks are is = unless_memory sites fault (λ n. double_fault sites fault tasks are (is n))

-- inputs

abbrev IsLinkFault : GraphFault → Type 0
IsLinkFault (UnknownInput input name) = Unit {0}
IsLinkFault (CommandInput input name) = Unit {0}
IsLinkFault (TypeMismatch input name) = Unit {0}
IsLinkFault _ = ⊥

link-fault : (task input : List ℕ) (parameter : Option (Option ValueType)) (place : ℕ) (found : Option Task) (fault : GraphFault)
    → linked_to task input parameter place found ≡ Err fault → IsLinkFault fault
link-fault task input parameter place None fault e =
    let same : UnknownInput input task ≡ fault = cc in subst IsLinkFault same tt
link-fault task input parameter place (Some t) fault e = go (is_command_kind (Some (kind_of t))) e
  where
    here : TaskId
    here = record { at = place }

    typed : (b : Bool) → (if b then Ok here else Err (TypeMismatch input task)) ≡ Err fault → IsLinkFault fault
    typed true is = cc
    typed false is = let same : TypeMismatch input task ≡ fault = cc in subst IsLinkFault same tt

    go : (b : Bool) → (if b then Err (CommandInput input task) else if is_of_type parameter t.declaration.result then Ok here else Err (TypeMismatch input task)) ≡ Err fault → IsLinkFault fault
    go true is = let same : CommandInput input task ≡ fault = cc in subst IsLinkFault same tt
    go false is = typed (is_of_type parameter t.declaration.result) is

linked-fault : (tasks : List Task) (task input : List ℕ) (parameter : Option (Option ValueType)) (found : Option ℕ) (fault : GraphFault)
    → linked_at tasks task input parameter found ≡ Err fault → IsLinkFault fault
linked-fault tasks task input parameter None fault e = let same : UnknownInput input task ≡ fault = cc in subst IsLinkFault same tt
linked-fault tasks task input parameter (Some place) fault e = link-fault task input parameter place (slice_get tasks place) fault e

either : {A : Type 0} (one : Result A GraphFault) (more : Result (List A) GraphFault) (fault : GraphFault) → then_each one more ≡ Err fault
    → (one ≡ Err fault) ⊎ (more ≡ Err fault)
either (Ok x) (Ok xs) fault e = cc
either (Ok x) (Err f) fault e = let same : f ≡ fault = cc in inr (ap Err same)
either (Err f) more fault e = let same : f ≡ fault = cc in inl (ap Err same)

links-fault : (tasks : List Task) (t : Task) (at : ℕ) (inputs : List (List ℕ)) (fault : GraphFault) → links_from tasks t at inputs ≡ Err fault → IsLinkFault fault
links-fault tasks t at [] fault e = cc
links-fault tasks t at (input ∷ inputs) fault e =
    let parameter = slice_get t.declaration.parameters at in
    elim (either (linked tasks t input parameter) (links_from tasks t (at + 1) inputs) fault e) [ inl one ↦ linked-fault tasks (name_of t) input parameter (place_of input tasks) fault one | inr more ↦ links-fault tasks t (at + 1) inputs fault more ]

row-fault : (tasks : List Task) (t : Task) (fault : GraphFault) → row_of tasks t ≡ Err fault → IsLinkFault fault
row-fault tasks t fault e = go (links tasks t) refl e
  where
    go : (found : Result (List TaskId) GraphFault) → links tasks t ≡ found → row_if t found ≡ Err fault → IsLinkFault fault
    go (Ok ids) at is = cc
    go (Err f) at is = let same : f ≡ fault = cc in links-fault tasks t 0 t.declaration.elements.inputs fault (at ∙ ap Err same)

rows-fault : (tasks some : List Task) (fault : GraphFault) → rows_for tasks some ≡ Err fault → IsLinkFault fault
rows-fault tasks [] fault e = cc
rows-fault tasks (t ∷ some) fault e =
    elim (either (row_of tasks t) (rows_for tasks some) fault e) [ inl one ↦ row-fault tasks t fault one | inr more ↦ rows-fault tasks some fault more ]

rows_of-fault : (tasks : List Task) (fault : GraphFault) → rows_of tasks ≡ Err fault → IsLinkFault fault
unfolding rows_of
rows_of-fault tasks fault e = rows-fault tasks tasks fault e

input_fault : (sites : List Site) (fault : GraphFault) → IsLinkFault fault → IsInputFault sites fault → IsFaultOf sites fault
input_fault sites (UnknownInput input name) link is = is
input_fault sites (CommandInput input name) link is = is
input_fault sites (TypeMismatch input name) link is = is
input_fault sites (TooMany limit) link is = absurd link
input_fault sites (BadTask id) link is = absurd link
input_fault sites (UnsupportedKind name kind) link is = absurd link
input_fault sites (DuplicateTask name) link is = absurd link
input_fault sites (Cycle name) link is = absurd link
input_fault sites Memory link is = tt

pub input_refusal : (sites : List Site) (fault : GraphFault) (tasks : List Task) → AreTasksOf sites tasks → HaveDistinctNames tasks
    → (fault ≢ Memory → rows_of tasks ≡ Err fault) → IsFaultOf sites fault
input_refusal sites fault tasks are distinct is =
    unless_memory sites fault (λ n. input_fault sites fault (rows_of-fault tasks fault (is n)) (record { tasks = tasks; are = are; distinct = distinct; first = is n }))

-- paths

pub path_refusal : (sites : List Site) (fault : GraphFault) (rows : List TaskRow) → AreRowsOf sites rows → IsCycleFault rows fault → IsFaultOf sites fault
path_refusal sites (Cycle name) rows are is = record { rows = rows; are = are; least = is }
path_refusal sites (TooMany limit) rows are is = absurd is
path_refusal sites (BadTask id) rows are is = absurd is
path_refusal sites (UnsupportedKind name kind) rows are is = absurd is
path_refusal sites (DuplicateTask name) rows are is = absurd is
path_refusal sites (UnknownInput input name) rows are is = absurd is
path_refusal sites (CommandInput input name) rows are is = absurd is
path_refusal sites (TypeMismatch input name) rows are is = absurd is
path_refusal sites Memory rows are is = tt

-- rows

few_sites : (sites : List Site) → limit_passed sites ≡ None → length sites ≤ 4096
few_sites sites e = go (nat_lt 4096 (length sites)) refl e
  where
    go : (b : Bool) → nat_lt 4096 (length sites) ≡ b → (if b then Some Tasks else if list_any has_many_inputs sites then Some Inputs else None) ≡ None → length sites ≤ 4096
    go true is none = cc
    go false is none = grind (arith, is)

length-sites : (tasks : List Task) → length (map (λ t. t.site) tasks) ≡ length tasks
length-sites [] = refl
length-sites (t ∷ tasks) = ap suc (length-sites tasks)

pub few_tasks : (sites : List Site) (tasks : List Task) → AreTasksOf sites tasks → length tasks ≤ 4096
few_tasks sites tasks are =
    let same : length (map (λ t. t.site) tasks) ≡ length sites = length_permutation sites (map (λ t. t.site) tasks) are.same in
    let count = length-sites tasks in
    let few = few_sites sites are.within in
    omega (arith, same, count, few)

pub accepted-name : (t : Task) → IsAccepted t → is_task_name (name_of t) ≡ true
accepted-name t is = (declared-names t.site.class.pool t.site.method t.declaration is.declared.0).name

pub drawn : (sites : List Site) (tasks : List Task) (rows : List TaskRow) → AreTasksOf sites tasks → HaveDistinctNames tasks → rows_of tasks ≡ Ok rows → IsDrawn rows
drawn sites tasks rows are distinct e =
    rows-drawn tasks rows e (few_tasks sites tasks are) (λ k d below. accepted-name (get_or tasks k d) (are.accepted k d below)) (rises name_of tasks are.sorted) distinct

-- a name that two tasks have is that of one
pub double-name : (tasks : List Task) (name : List ℕ) → All IsAccepted tasks → next_double name_of tasks ≡ Some name → is_task_name name ≡ true
double-name [] name accepted e = cc
double-name (t ∷ tasks) name accepted e = go (begins_with name_of (name_of t) tasks) e (λ later. double-name tasks name (All-tail IsAccepted t tasks accepted) later)
  where
    go : (b : Bool) → (if b then Some (name_of t) else next_double name_of tasks) ≡ Some name → (next_double name_of tasks ≡ Some name → is_task_name name ≡ true) → is_task_name name ≡ true
    go true same rest = let at : name_of t ≡ name = cc in subst (λ n. is_task_name n ≡ true) at (accepted-name t (All-head IsAccepted t tasks accepted))
    go false later rest = rest later

pub word-IsUtf8 : (kind : DeclaredKind) (word : List ℕ) → unsupported kind ≡ Some word → IsUtf8 word
unfolding is_task_name is_name_segment
word-IsUtf8 (Supported kind) word e = cc
word-IsUtf8 Worker word e = let same : codes "worker" ≡ word = cc in subst IsUtf8 same (task_name-IsUtf8 (codes "worker") refl)
word-IsUtf8 Persistent word e = let same : codes "persistent" ≡ word = cc in subst IsUtf8 same (task_name-IsUtf8 (codes "persistent") refl)
