use Rattle.std.proofs.Common.{◌≡◌, refl, sym, subst, ap, ◌∙◌, IsUtf8, Some}
use Rattle.std.proofs.lemmas.Bool.{iff_false}
use Rattle.out_store.specs.Names.{IsTaskName}
use Rattle.out_store.proofs.NameLaws.{task_text}
use Rattle.out_store.proofs.ReadingLaws.{folder_again, task_again}
use Rattle.out_store.proofs.names.task_of.Goals as goal

pub returns-then-not-is_task_name-clause-every : goal.returns-then-not-is_task_name-clause-every
returns-then-not-is_task_name-clause-every c task name same =
    let is = task_again c.args.folder.now task c.deref.result.now (c.deref.ensures.value ∙ c.in_ok-task.ensures) name same in
    absurd (iff_false c.is_task_name.ensures c.if-not-is_task_name.true (subst IsTaskName (sym is) name))

pub returns-in-Ok-clause-task : goal.returns-in-Ok-clause-task
returns-in-Ok-clause-task c =
    let ok = rw c.in-Ok.is at c.of.ensures.ok in
    let first : c.in-Ok.task ≡ c.deref.result.now = ok.0 ∙ c.deref-2.ensures.value ∙ sym c.deref.ensures.value in
    (subst IsTaskName (sym first) (c.is_task_name.ensures.0 c.if-not-is_task_name.false), λ lacks. folder_again c.args.folder.now c.in-Ok.task (first ∙ c.deref.ensures.value ∙ c.in_ok-task.ensures) lacks)

pub returns-in-Ok-clause-every : goal.returns-in-Ok-clause-every
returns-in-Ok-clause-every c task name same =
    let ok = rw c.in-Ok.is at c.of.ensures.ok in
    ap Some (task_again c.args.folder.now task c.in-Ok.task (ok.0 ∙ c.deref-2.ensures.value ∙ c.in_ok-task.ensures) name same)

pub unreachable-requires : goal.unreachable-requires
unreachable-requires c =
    let name : IsTaskName c.deref.result.now = c.is_task_name.ensures.0 c.if-not-is_task_name.false in
    let bad = rw (c.in-Err-BadText.is, c.in-Err-BadText.field-0-is) at c.of.ensures.bad_text in
    absurd (bad refl (subst IsUtf8 (c.deref.ensures.value ∙ sym c.deref-2.ensures.value) (task_text c.deref.result.now name)))
