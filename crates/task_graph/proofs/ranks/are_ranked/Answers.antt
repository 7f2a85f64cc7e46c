use Rattle.std.proofs.Common.{◌≡◌, ℕ, ◌<◌, ◌⊎◌, take, true, get_or, subst, inl, inr, arith}
use Rattle.place_graph.specs.Graphs.{is_among}
use Rattle.place_graph.proofs.Marks.{among_more}
use Rattle.task_graph.proofs.ranks.are_ranked.Goals as goal

pub loop-place-preserved : goal.loop-place-preserved
loop-place-preserved c = λ x t. go x (among_more c.args.places.now c.loop-place.place-index x (omega arith) t)
  where
    go : (x : ℕ) → (is_among x (take c.loop-place.place-index c.args.places.now) ≡ true) ⊎ (get_or c.args.places.now c.loop-place.place-index 0 ≡ x) → 0 < get_or c.args.ranks.now x 0
    go x (inl t) = c.loop-place.invariant x t
    go x (inr e) = subst (λ (y : ℕ). 0 < get_or c.args.ranks.now y 0) e (omega (arith, c.if-ranks-place-eq0.false))
