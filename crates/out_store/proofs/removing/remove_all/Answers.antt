use Rattle.std.proofs.Common.{ap, sym, ◌∙◌, arith, List, ℕ}
use Rattle.std.proofs.lemmas.List.{take_all}
use Rattle.io_traits.specs.Files.{take_out}
use Rattle.out_store.specs.Changes.{takes_out}
use Rattle.out_store.proofs.ChangeLaws.{removed_more, removed_left, on_err}
use Rattle.out_store.proofs.removing.remove_all.Goals as goal

pub returns-in_err-remove-clause-err : goal.returns-in_err-remove-clause-err
returns-in_err-remove-clause-err g c =
    on_err c.from_residual.result (removed_left c.args.names.now c.loop-name.name-index c.name-item.result c.loop-name-test.true c.name-item.is (g.S.Store.content c.args.store.now) (g.S.Store.content c.loop-name.store) (g.S.Store.content c.remove.new.self) c.loop-name.invariant.content c.in_err-remove.ensures.err)

pub loop-name-preserved : goal.loop-name-preserved
loop-name-preserved g c = record {
  content = c.in_ok-remove.ensures.ok ∙ ap (take_out c.name-item.result) c.loop-name.invariant.content ∙ sym (removed_more c.args.names.now c.loop-name.name-index c.name-item.result c.loop-name-test.true c.name-item.is (g.S.Store.content c.args.store.now));
  later = omega (arith, c.in_ok-remove.ensures.cause.later, c.loop-name.invariant.later);
  kept = c.in_ok-remove.ensures.kept ∙ c.loop-name.invariant.kept;
  plan = c.in_ok-remove.ensures.plan ∙ c.loop-name.invariant.plan;
}

pub returns-clause-ok : goal.returns-clause-ok
returns-clause-ok g c = c.loop-name.invariant.content ∙ ap (λ (ns : List (List ℕ)). takes_out ns (g.S.Store.content c.args.store.now)) (take_all c.loop-name.name-index c.args.names.now c.loop-name-test.false)
