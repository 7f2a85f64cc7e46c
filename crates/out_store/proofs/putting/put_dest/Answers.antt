use Rattle.std.proofs.Common.{ℕ, List, sym, ap, ap₂, subst, ◌∙◌, arith, inl, refl}
use Rattle.std.proofs.lemmas.List.{take_all}
use Rattle.io_traits.specs.Files.{File, put_in, LeftByPut}
use Rattle.out_store.specs.Changes.{puts_in}
use Rattle.out_store.specs.Names.{generation_name}
use Rattle.out_store.specs.Publishing.{dest_puts}
use Rattle.out_store.proofs.ChangeLaws.{put_more, put_left, on_err}
use Rattle.out_store.proofs.putting.put_dest.Goals as goal

abbrev placed : List ℕ → ℕ → File → File
placed task number file = (generation_name task number file.0, file.1)

pub returns-in_err-name-clause-err : goal.returns-in_err-name-clause-err
returns-in_err-name-clause-err g c =
    on_err c.from_residual.result (put_left c.args.files.now c.loop-path.path-index c.loop-path-item.result c.loop-path-test.true c.loop-path-item.is (placed c.args.task.now c.args.number) (g.S.Store.content c.args.store.now)
    (g.S.Store.content c.loop-path.store) (g.S.Store.content c.loop-path.store) c.loop-path.invariant.content (inl refl))

pub returns-in_err-put-clause-err : goal.returns-in_err-put-clause-err
returns-in_err-put-clause-err g c =
    on_err c.from_residual-in_err-put.result (put_left c.args.files.now c.loop-path.path-index c.loop-path-item.result c.loop-path-test.true c.loop-path-item.is (placed c.args.task.now c.args.number) (g.S.Store.content c.args.store.now)
    (g.S.Store.content c.loop-path.store) (g.S.Store.content c.put.new.self) c.loop-path.invariant.content
    (subst (λ (n : List ℕ). LeftByPut n c.loop-path-item.result.1 (g.S.Store.content c.loop-path.store) (g.S.Store.content c.put.new.self)) c.in_ok-name.ensures c.in_err-put.ensures.err))

pub loop-path-preserved : goal.loop-path-preserved
loop-path-preserved g c = record {
  content = c.in_ok-put.ensures.ok
      ∙ ap₂ (λ (n : List ℕ) (m : _). put_in n c.loop-path-item.result.1 m) c.in_ok-name.ensures c.loop-path.invariant.content
      ∙ sym (put_more c.args.files.now c.loop-path.path-index c.loop-path-item.result c.loop-path-test.true c.loop-path-item.is (placed c.args.task.now c.args.number) (g.S.Store.content c.args.store.now));
  later = omega (arith, c.in_ok-put.ensures.cause.later, c.loop-path.invariant.later);
  kept = c.in_ok-put.ensures.kept ∙ c.loop-path.invariant.kept;
  plan = c.in_ok-put.ensures.plan ∙ c.loop-path.invariant.plan;
}

pub returns-clause-ok : goal.returns-clause-ok
returns-clause-ok g c =
    c.loop-path.invariant.content ∙ ap (λ (fs : List File). puts_in (dest_puts c.args.task.now c.args.number fs) (g.S.Store.content c.args.store.now)) (take_all c.loop-path.path-index c.args.files.now c.loop-path-test.false)
