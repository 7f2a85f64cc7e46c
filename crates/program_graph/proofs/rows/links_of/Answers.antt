use Rattle.std.proofs.Common.{◌≡◌, ℕ, ◌<◌, true, List, [], All, map, length, sym, subst, arith}
use denote.Ref.{Bor}
use Rattle.task_model.specs.TaskNames.{is_task_name}
use Rattle.task_annotations.specs.Reading.{declaration_read}
use Rattle.program_graph.specs.Reading.{task_read}
use Rattle.program_graph.proofs.Declared.{declared-names}
use Rattle.program_graph.proofs.NameOrder.{get-map, length-map}
use Rattle.program_graph.proofs.Names.{task_name-IsUtf8}
use Rattle.program_graph.proofs.Refusals.{accepted-name}
use Rattle.program_graph.proofs.rows.links_of.Goals as goal

pub link-requires-clause-task : goal.link-requires-clause-task
link-requires-clause-task c = task_name-IsUtf8 c.args.task.now.declaration.name.now (accepted-name (task_read c.args.task.now) c.requires.accepted)

pub link-requires-clause-input : goal.link-requires-clause-input
link-requires-clause-input c =
    let P : List ℕ → Type 0 = λ n. is_task_name n ≡ true in
    let now : Bor (List ℕ) → List ℕ = λ t. t.now in
    let none : Bor (List ℕ) = record { ref_ptr = (0, 0); now = [] } in
    let site = c.args.task.now.site in
    let names = declared-names site.class.now.pool site.method.now (declaration_read c.args.task.now.declaration) c.requires.accepted.declared.0 in
    let inputs = c.as_slice-inputs.result.now in
    let all : All P (map now inputs) = subst (λ (xs : List (Bor (List ℕ))). All P (map now xs)) (sym c.as_slice-inputs.ensures.value) names.inputs in
    let below : c.loop-place.place < length (map now inputs) = omega (arith, c.loop-place-test.true, length-map now inputs) in
    task_name-IsUtf8 _ (subst P (get-map now inputs c.loop-place.place none) (all c.loop-place.place [] below))
