use Rattle.std.proofs.Common.{ℕ, ◌<◌, get_or}
use Rattle.task_graph.proofs.ranks.each_is_ranked.Given as goal

abbrev pub invariant-loop-place : goal.invariant-loop-place
invariant-loop-place l = (x : ℕ) → x < l.place → 0 < get_or l.ranks x 0
