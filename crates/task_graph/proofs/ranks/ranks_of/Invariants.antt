use Rattle.std.proofs.Common.{◌≡◌, ◌≤◌, length}
use Rattle.task_graph.specs.Rankings.{IsRankedTo}
use Rattle.task_graph.proofs.ranks.ranks_of.Given as goal

abbrev pub invariant-loop-place : goal.invariant-loop-place
invariant-loop-place l = IsRankedTo l.graph l.ranks.items l.most × (l.most ≤ length l.graph) × (length l.entered.items ≡ length l.graph)
