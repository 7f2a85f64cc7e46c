use Rattle.mill_top.proofs.graph.Graph.+leads.Given as goal

abbrev pub decreases-leads : goal.decreases-leads
decreases-leads l = l.steps
