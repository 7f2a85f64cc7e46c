use Rattle.place_graph.specs.Searches.{AreReturning, AreSearched}
use Rattle.place_graph.proofs.reach.returning.Given as goal

abbrev pub invariant-loop-place : goal.invariant-loop-place
invariant-loop-place l = AreReturning l.graph l.place l.returning.items × AreSearched l.graph l.place
