use Rattle.mill_top.proofs.graph.Graph.+push_upstream.Given as goal

abbrev pub decreases-push_upstream : goal.decreases-push_upstream
decreases-push_upstream l = l.steps
