use Rattle.std.proofs.Common.{arith, refl, sym, ◌∙◌, true≢false}
use Rattle.tree_value.proofs.Rising.{rising-from_neighbours}
use Rattle.out_entry.proofs.Rising.{not_rising}
use Rattle.out_entry.proofs.decode.is_rising.Goals as goal

pub returns-then-is_ge : goal.returns-then-is_ge
returns-then-is_ge c = (
  λ no_test. absurd (true≢false (sym no_test)),
  λ sorted. absurd (not_rising c.args.files.now c.loop-place.place c.index-files-place.result c.index-files-place-in-loop-place.result c.cmp.result (omega arith) c.loop-place-test.true c.cmp.ensures
      (sym c.is_ge.ensures ∙ c.if-is_ge.true) sorted),
)

pub returns : goal.returns
returns c = (λ _. rising-from_neighbours c.args.files.now (λ k below. c.loop-place.invariant k (omega arith)), λ _. refl)
