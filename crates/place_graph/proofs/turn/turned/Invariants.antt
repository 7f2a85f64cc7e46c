use Rattle.place_graph.specs.Turning.{IsTurned}
use Rattle.place_graph.proofs.turn.turned.Given as goal

abbrev pub invariant-loop-place : goal.invariant-loop-place
invariant-loop-place l = IsTurned l.graph l.place l.rows.items
