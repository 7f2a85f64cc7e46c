use Rattle.std.proofs.Common.{FitsSigned, Some, sym, subst, ◌∙◌, drop, ◌+◌, arith}
use Rattle.std.specs.Int.{w32}
use Rattle.std.proofs.lemmas.Int.{to_z-of_z}
use Rattle.mill_top.specs.Walks.{IsWalked}
use Rattle.mill_top.proofs.WalkLaws.{more_at, stopped_at, next_at, walk_start, on_err}
use Rattle.mill_top.proofs.evaluating.take_all.Goals as goal

pub take_file-requires-clause-next : goal.take_file-requires-clause-next
take_file-requires-clause-next g c =
    next_at c.args.inputs.now c.args.plan.now c.args.out.now.numbers c.loop-file.out.numbers (g.S.Store.content c.args.out.now.store) (g.S.Store.content c.loop-file.out.store)
    c.loop-file.takes c.loop-file.file-index _ c.loop-file.given c.loop-file-test.true c.requires.ready c.loop-file.invariant.walked

pub returns-in_err-take_file-clause-err : goal.returns-in_err-take_file-clause-err
returns-in_err-take_file-clause-err g c =
    on_err c.from_residual.result _
    (stopped_at c.args.inputs.now c.args.plan.now c.args.out.now.numbers c.loop-file.out.numbers c.take_file.new.out.numbers
    (g.S.Store.content c.args.out.now.store) (g.S.Store.content c.loop-file.out.store) (g.S.Store.content c.take_file.new.out.store)
    c.loop-file.takes c.take_file.new.takes c.loop-file.file-index _ c.loop-file.given c.in_err-take_file.field-0.0 c.loop-file-test.true c.loop-file.invariant.walked c.in_err-take_file.ensures.step)

pub loop-file-preserved : goal.loop-file-preserved
loop-file-preserved g c = record {
  walked =
      subst (λ value. IsWalked c.args.inputs.now c.args.plan.now c.args.out.now.numbers c.take_file.new.out.numbers (g.S.Store.content c.args.out.now.store) (g.S.Store.content c.take_file.new.out.store) c.take_file.new.takes
      (drop (c.loop-file.file-index + 1) c.args.plan.now) (Some value)) (sym (to_z-of_z w32 c.in_ok-take_file.field-0 c.in_ok-take_file.ensures.fits))
      (more_at c.args.inputs.now c.args.plan.now c.args.out.now.numbers c.loop-file.out.numbers c.take_file.new.out.numbers
      (g.S.Store.content c.args.out.now.store) (g.S.Store.content c.loop-file.out.store) (g.S.Store.content c.take_file.new.out.store)
      c.loop-file.takes c.take_file.new.takes c.loop-file.file-index _ c.loop-file.given c.in_ok-take_file.field-0 c.loop-file-test.true c.loop-file.invariant.walked c.in_ok-take_file.ensures.step);
  fits = subst (FitsSigned w32) (sym (to_z-of_z w32 c.in_ok-take_file.field-0 c.in_ok-take_file.ensures.fits)) c.in_ok-take_file.ensures.fits;
  later = omega (arith, c.in_ok-take_file.ensures.cause.later, c.loop-file.invariant.later);
  kept = c.in_ok-take_file.ensures.kept ∙ c.loop-file.invariant.kept;
  plan = c.in_ok-take_file.ensures.plan ∙ c.loop-file.invariant.plan;
}
