use Rattle.std.proofs.Common.{◌≡◌, ℕ, List, length, ◌∙◌, sym, ap}
use Rattle.std.specs.List.{filter}
use Rattle.task_model.specs.declared.task_row.TaskRow.{TaskRow}
use Rattle.task_graph.specs.PostOrders.{post_order}
use Rattle.task_graph.specs.TaskGraphs.{places, edges}
use Rattle.task_graph.specs.Plans.{is_named, in_name_order}
use Rattle.task_graph.proofs.Ending.{plan_is}
use Rattle.task_graph.proofs.plans.plan.Goals as goal

pub returns-clause-plan : goal.returns-clause-plan
returns-clause-plan c =
    let rows = c.args.graph.now in
    let chosen = places c.args.chosen.now in
    let given : c.as_slice.result.now ≡ chosen = c.as_slice.ensures ∙ c.in_ok-places.ensures in
    let count : length c.tasks.result.now ≡ length rows = ap length c.tasks.ensures.tasks in
    let ordered : c.as_slice-2.result.now ≡ in_name_order (length rows) chosen =
    c.as_slice-2.ensures ∙ c.in_ok-ordered.ensures.ordered ∙ ap (λ (k : ℕ). in_name_order k c.as_slice.result.now) count ∙ ap (in_name_order (length rows)) given in
    let walked : c.as_slice-3.result.now ≡ post_order (edges rows) (in_name_order (length rows) chosen) =
    c.as_slice-3.ensures ∙ c.in_ok-walked.ensures ∙ ap (post_order (edges rows)) ordered in
    c.in_ok-named.ensures ∙ ap (λ (rs : List TaskRow). filter (is_named rs) c.as_slice-3.result.now) c.tasks-2.ensures.tasks
    ∙ ap (filter (is_named rows)) walked ∙ sym (plan_is rows chosen)
