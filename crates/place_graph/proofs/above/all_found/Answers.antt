use Rattle.std.proofs.Common.{◌≡◌, ℕ, ◌+◌, ◌⊎◌, take, true, get_or, subst, inl, inr, arith}
use Rattle.place_graph.specs.Graphs.{is_among}
use Rattle.place_graph.proofs.Marks.{among_more}
use Rattle.place_graph.proofs.above.all_found.Goals as goal

pub loop-place-preserved : goal.loop-place-preserved
loop-place-preserved c = λ x t. go x (among_more c.args.places.now c.loop-place.place-index x (omega arith) t)
  where
    go : (x : ℕ) → (is_among x (take c.loop-place.place-index c.args.places.now) ≡ true) ⊎ (get_or c.args.places.now c.loop-place.place-index 0 ≡ x) → get_or c.args.marks.now x 0 ≡ c.args.round
    go x (inl t) = c.loop-place.invariant x t
    go x (inr e) = subst (λ (y : ℕ). get_or c.args.marks.now y 0 ≡ c.args.round) e (omega (arith, c.if-marks-place.false))
