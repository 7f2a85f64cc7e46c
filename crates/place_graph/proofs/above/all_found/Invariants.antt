use Rattle.std.proofs.Common.{◌≡◌, ℕ, take, true, get_or}
use Rattle.place_graph.specs.Graphs.{is_among}
use Rattle.place_graph.proofs.above.all_found.Given as goal

abbrev pub invariant-loop-place : goal.invariant-loop-place
invariant-loop-place l = (x : ℕ) → is_among x (take l.place-index l.places) ≡ true → get_or l.marks x 0 ≡ l.round
