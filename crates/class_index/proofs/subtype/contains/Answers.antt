use Rattle.std.proofs.Common.{◌≡◌, ℕ, ◌+◌, ◌⊎◌, true, false, take, get_or, sym, subst, inl, inr, arith}
use Rattle.std.proofs.lemmas.Bool.{false_from_ne_true}
use Rattle.place_graph.specs.Graphs.{is_among}
use Rattle.place_graph.proofs.Marks.{among_at, among_more}
use Rattle.class_index.proofs.subtype.contains.Goals as goal

pub returns-then-other-place : goal.returns-then-other-place
returns-then-other-place c =
    sym (subst (λ (x : ℕ). is_among x c.args.places.now ≡ true) c.if-other-place.true (among_at c.args.places.now c.loop-other.other-index 0 (omega arith)))

pub loop-other-preserved : goal.loop-other-preserved
loop-other-preserved c =
    false_from_ne_true (is_among c.args.place (take (c.loop-other.other-index + 1) c.args.places.now))
    (λ t. no (among_more c.args.places.now c.loop-other.other-index c.args.place (omega arith) t))
  where
    no : (is_among c.args.place (take c.loop-other.other-index c.args.places.now) ≡ true) ⊎ (get_or c.args.places.now c.loop-other.other-index 0 ≡ c.args.place) → ⊥
    no (inl t) = let f : is_among c.args.place (take c.loop-other.other-index c.args.places.now) ≡ false = c.loop-other.invariant in cc
    no (inr e) = c.if-other-place.false e
