use Rattle.std.proofs.Common.{take}
use Rattle.task_graph.specs.Rankings.{AllRanked}
use Rattle.task_graph.proofs.ranks.are_ranked.Given as goal

abbrev pub invariant-loop-place : goal.invariant-loop-place
invariant-loop-place l = AllRanked l.ranks (take l.place-index l.places)
