use Rattle.std.proofs.Common.{[], Ok, ap, sym, subst, ◌∙◌}
use Rattle.std.specs.Int.{w32}
use Rattle.std.proofs.lemmas.Int.{to_z-of_z}
use Rattle.mill_top.specs.declared.outcome.Outcome.TheVariants.{Returns}
use Rattle.mill_top.specs.Scratch.{result_of, value_of}
use Rattle.mill_top.specs.Walks.{IsStep}
use Rattle.mill_top.proofs.TakingLaws.{run_step, run_refused}
use Rattle.mill_top.proofs.taking.run_task.Goals as goal

pub returns-in_err-keep-clause-step : goal.returns-in_err-keep-clause-step
returns-in_err-keep-clause-step g c =
    run_refused c.args.job.now.task c.args.job.now.input c.in_ok-copy.field-0 (result_of c.args.job.now.body c.args.job.now.given) c.run-outcome.result c.args.found
    c.args.out.now.numbers c.keep.new.out.numbers (g.S.Store.content c.args.out.now.store) (g.S.Store.content c.keep.new.out.store) c.from_residual-in_err-keep.result
    c.args.takes.now c.push.new.self c.from_residual-in_err-keep.ensures.0 c.requires.is_new c.requires.why c.requires.next c.run-outcome.ensures c.in_ok-copy.ensures c.in_ok-push.ensures.ok
    c.in_err-keep.ensures.err c.in_err-keep.ensures.rows

pub returns-clause-step : goal.returns-clause-step
returns-clause-step g c =
    let value = result_of c.args.job.now.body c.args.job.now.given in
    let old = g.S.Store.content c.args.out.now.store in
    let new = g.S.Store.content c.keep.new.out.store in
    subst (λ own. IsStep c.args.job.now.task c.args.job.now.input (Returns value []) c.args.out.now.numbers c.keep.new.out.numbers old new (Ok own) c.args.takes.now c.push.new.self)
    (sym (to_z-of_z w32 c.value-value.result c.value-value.ensures.fits ∙ c.value-value.ensures.value ∙ ap value_of c.run-outcome.ensures))
    (run_step c.args.job.now.task c.args.job.now.input c.in_ok-copy.field-0 value c.run-outcome.result c.args.found c.in_ok-keep.field-0 c.args.out.now.numbers c.keep.new.out.numbers old new
    c.args.takes.now c.push.new.self c.requires.is_new c.requires.why c.run-outcome.ensures c.in_ok-copy.ensures c.in_ok-push.ensures.ok c.in_ok-keep.ensures.ok c.in_ok-keep.ensures.rows)
