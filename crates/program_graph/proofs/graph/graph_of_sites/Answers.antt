use Rattle.std.proofs.Common.{◌≡◌, IfOk, IfErr, OnOk, List, length, Result, sym, subst, ap, arith}
use Rattle.std.specs.declared.result.Result.TheVariants.{Ok, Err}
use Rattle.task_model.specs.declared.task_row.TaskRow.{TaskRow}
use Rattle.task_annotations.specs.Sites.{Site}
use Rattle.task_annotations.specs.Reading.{sites_read}
use Rattle.task_graph.specs.declared.fault.GraphFault.{GraphFault}
use Rattle.task_graph.specs.GraphFaults.{IsCycleFault}
use Rattle.task_graph.specs.Returning.{NoneReturns}
use Rattle.task_graph.specs.TaskGraphs.{edges}
use Rattle.program_graph.specs.Rows.{rows_of}
use Rattle.program_graph.specs.Outcomes.{HaveDistinctNames, AreRowsOf, IsGraphOf, IsFaultOf}
use Rattle.program_graph.specs.Reading.{task_read, tasks_read}
use Rattle.program_graph.proofs.NameOrder.{length-map}
use Rattle.program_graph.proofs.Refusals.{few_tasks, input_refusal, path_refusal, drawn}
use Rattle.program_graph.proofs.graph.graph_of_sites.Goals as goal

graph-made : (sites : List Site) (rows : List TaskRow) (result : Result (List TaskRow) GraphFault) → AreRowsOf sites rows → IfOk result (λ graph. graph ≡ rows)
    → OnOk result (NoneReturns (edges rows)) → IfOk result (λ graph. IsGraphOf sites graph)
graph-made sites rows (Ok graph) are same none = subst (IsGraphOf sites) (sym same) (record { are = are; no_cycle = none })
graph-made sites rows (Err fault) are same none = tt

path-refused : (sites : List Site) (rows : List TaskRow) (result : Result (List TaskRow) GraphFault) → AreRowsOf sites rows → IfErr result (λ fault. IsCycleFault rows fault)
    → IfErr result (λ fault. IsFaultOf sites fault)
path-refused sites rows (Ok graph) are is = tt
path-refused sites rows (Err fault) are is = path_refusal sites fault rows are is

pub rows_of-requires-clause-distinct : goal.rows_of-requires-clause-distinct
rows_of-requires-clause-distinct c =
    subst (λ ts. HaveDistinctNames (tasks_read ts)) (sym c.deref-2.ensures.value)
    (subst (λ ts. HaveDistinctNames (tasks_read ts)) c.deref.ensures.value c.in_ok-refuse_double.ensures.ok)

pub rows_of-requires-clause-few : goal.rows_of-requires-clause-few
rows_of-requires-clause-few c =
    let few = few_tasks (sites_read c.args.sites.items) (tasks_read c.in_ok-tasks.tasks.items) c.in_ok-tasks.ensures.tasks in
    let count = length-map task_read c.in_ok-tasks.tasks.items in
    let same = ap length c.deref-2.ensures.value in
    omega (arith, few, count, same)

pub of-requires : goal.of-requires
of-requires c =
    let distinct = subst (λ ts. HaveDistinctNames (tasks_read ts)) c.deref.ensures.value c.in_ok-refuse_double.ensures.ok in
    drawn (sites_read c.args.sites.items) (tasks_read c.in_ok-tasks.tasks.items) c.in-Ok.rows c.in_ok-tasks.ensures.tasks distinct
    (subst (λ ts. rows_of (tasks_read ts) ≡ Ok c.in-Ok.rows) c.deref-2.ensures.value c.in-Ok.ensures.ok)

pub returns-in-Ok-clause-ok : goal.returns-in-Ok-clause-ok
returns-in-Ok-clause-ok c =
    graph-made (sites_read c.args.sites.items) c.in-Ok.rows c.of.result
    (record {
      tasks = tasks_read c.in_ok-tasks.tasks.items;
      are = c.in_ok-tasks.ensures.tasks;
      distinct = subst (λ ts. HaveDistinctNames (tasks_read ts)) c.deref.ensures.value c.in_ok-refuse_double.ensures.ok;
      made = subst (λ ts. rows_of (tasks_read ts) ≡ Ok c.in-Ok.rows) c.deref-2.ensures.value c.in-Ok.ensures.ok;
    })
    c.of.ensures.ok c.of.ensures.no_cycle

pub returns-in-Ok-clause-fault : goal.returns-in-Ok-clause-fault
returns-in-Ok-clause-fault c =
    path-refused (sites_read c.args.sites.items) c.in-Ok.rows c.of.result
    (record {
      tasks = tasks_read c.in_ok-tasks.tasks.items;
      are = c.in_ok-tasks.ensures.tasks;
      distinct = subst (λ ts. HaveDistinctNames (tasks_read ts)) c.deref.ensures.value c.in_ok-refuse_double.ensures.ok;
      made = subst (λ ts. rows_of (tasks_read ts) ≡ Ok c.in-Ok.rows) c.deref-2.ensures.value c.in-Ok.ensures.ok;
    })
    c.of.ensures.fault

pub returns-clause-fault : goal.returns-clause-fault
returns-clause-fault c =
    let distinct = subst (λ ts. HaveDistinctNames (tasks_read ts)) c.deref.ensures.value c.in_ok-refuse_double.ensures.ok in
    input_refusal (sites_read c.args.sites.items) c.in-Err.fault (tasks_read c.in_ok-tasks.tasks.items) c.in_ok-tasks.ensures.tasks distinct
    (λ n. subst (λ ts. rows_of (tasks_read ts) ≡ Err c.in-Err.fault) c.deref-2.ensures.value (c.in-Err.ensures.fault n))
