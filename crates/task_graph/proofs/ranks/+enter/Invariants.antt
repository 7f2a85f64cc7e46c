use Rattle.std.proofs.Common.{◌+◌, ◌*◌, ◌≤◌, length}
use Rattle.task_graph.specs.Rankings.{IsRankedTo}
use Rattle.task_graph.proofs.ranks.+enter.Given as goal

abbrev pub decreases-enter : goal.decreases-enter
decreases-enter l = 2 * l.depth

abbrev pub decreases-enter_all : goal.decreases-enter_all
decreases-enter_all l = 2 * l.depth + 1

abbrev pub invariant-enter_all-loop-place : goal.invariant-enter_all-loop-place
invariant-enter_all-loop-place l = IsRankedTo l.graph l.ranks l.more × (l.more ≤ length l.graph)
