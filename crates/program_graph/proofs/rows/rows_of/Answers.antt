use Rattle.std.proofs.Common.{ℕ, suc, ◌<◌, List, ◌∷◌, drop, length, sym, ◌∙◌, ap, arith, add-one, drop-cons}
use Rattle.task_model.specs.declared.task_row.TaskRow.{TaskRow}
use Rattle.program_graph.specs.Tasks.{IsAccepted}
use Rattle.program_graph.specs.Rows.{row_of, rows_for}
use Rattle.program_graph.specs.Reading.{task_read, tasks_read}
use Rattle.program_graph.proofs.Chains.{prefixed, prefixed_one}
use Rattle.program_graph.proofs.NameOrder.{at-read}
use Rattle.program_graph.proofs.rows.rows_of.Goals as goal

pub row_of-requires-clause-accepted : goal.row_of-requires-clause-accepted
row_of-requires-clause-accepted c =
    at-read IsAccepted task_read c.args.tasks.now c.loop-place.place c.index-tasks-place.result c.requires.accepted (omega (arith, c.loop-place-test.true)) c.index-tasks-place.is

pub loop-place-preserved : goal.loop-place-preserved
loop-place-preserved c =
    let held = c.args.tasks.now in
    let tasks = tasks_read held in
    let place = c.loop-place.place in
    let t = c.index-tasks-place.result in
    let old = c.loop-place.rows.items in
    let below : place < length held = omega (arith, c.loop-place-test.true) in
    let next = drop-cons held place t below ∙ ap (λ x. x ∷ drop (suc place) held) (sym c.index-tasks-place.is) in
    c.loop-place.invariant
    ∙ ap (λ xs. prefixed old (rows_for tasks (tasks_read xs))) next
    ∙ prefixed_one old c.in_ok-row_of.field-0 (row_of tasks (task_read t)) (rows_for tasks (tasks_read (drop (suc place) held))) c.in_ok-row_of.ensures.ok
    ∙ ap (λ (rs : List TaskRow). prefixed rs (rows_for tasks (tasks_read (drop (suc place) held)))) (sym c.in_ok-push_row.ensures)
    ∙ ap (λ (n : ℕ). prefixed c.push_row.new.rows.items (rows_for tasks (tasks_read (drop n held)))) (sym (add-one place))
