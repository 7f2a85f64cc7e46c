use Rattle.std.proofs.Common.{◌≡◌, ◌≢◌, IfOk, refl, sym, ◌∙◌, subst}
use Rattle.std.specs.Int.{w32}
use Rattle.std.proofs.lemmas.Bool.{false≢true}
use Rattle.std.proofs.lemmas.Int.{to_z-of_z}
use Rattle.std.proofs.lemmas.Slice.Eq.{bytes_eq-Decides}
use Rattle.mill_top.proofs.EntryLaws.{no_int_why, other_why}
use Rattle.mill_top.proofs.TakingLaws.{reuse_step}
use Rattle.mill_top.proofs.taking.take_over.Goals as goal

pub run_task-requires-clause-why : goal.run_task-requires-clause-why
run_task-requires-clause-why g c =
    no_int_why c.args.job.now.task c.args.job.now.input _ c.args.entry.now c.requires.reads
    ((bytes_eq-Decides c.args.entry.now.input c.args.job.now.input).0 (sym c.eq.ensures ∙ c.if-eq.true)) (c.in-None.ensures.none refl)

pub run_task-requires-else-eq-clause-why : goal.run_task-requires-else-eq-clause-why
run_task-requires-else-eq-clause-why g c =
    let differs : c.args.entry.now.input ≢ c.args.job.now.input =
    λ same. false≢true (sym c.if-eq.false ∙ c.eq.ensures ∙ (bytes_eq-Decides c.args.entry.now.input c.args.job.now.input).1 same) in
    other_why c.args.job.now.task c.args.job.now.input _ c.args.entry.now c.requires.reads differs

pub returns-in-Some-clause-step : goal.returns-in-Some-clause-step
returns-in-Some-clause-step g c =
    reuse_step c.args.job.now.task c.args.job.now.input _ c.args.entry.now c.in-Some.value _ _ c.reuse.result _ _ c.requires.reads c.in-Some.ensures.some
    ((bytes_eq-Decides c.args.entry.now.input c.args.job.now.input).0 (sym c.eq.ensures ∙ c.if-eq.true))
    (subst (λ v. IfOk c.reuse.result (λ reused. reused ≡ v)) (to_z-of_z w32 c.in-Some.value c.in-Some.ensures.fits) c.reuse.ensures.value) c.reuse.ensures.ok c.reuse.ensures.err
