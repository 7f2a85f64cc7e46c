use Rattle.std.proofs.Common.{List, ℕ, ◌∙◌, ap}
use Rattle.task_graph.specs.PostOrders.{post_order}
use Rattle.task_graph.proofs.Ending.{plan_graph, plan_within, plan_ends}
use Rattle.task_graph.proofs.plans.walk.Goals as goal

pub post_order_of-requires-clause-graph : goal.post_order_of-requires-clause-graph
post_order_of-requires-clause-graph c = plan_graph c.args.graph.now c.edges.result.now c.edges.ensures.edges c.edges.ensures.graph

pub post_order_of-requires-clause-places : goal.post_order_of-requires-clause-places
post_order_of-requires-clause-places c = plan_within c.args.graph.now c.edges.result.now c.args.tasks.now c.edges.ensures.edges c.requires

pub post_order_of-requires-clause-end : goal.post_order_of-requires-clause-end
post_order_of-requires-clause-end c = plan_ends c.args.graph.now c.edges.result.now c.args.tasks.now c.edges.ensures.edges c.edges.ensures.graph c.requires

pub returns : goal.returns
returns c = c.in_ok-walked.ensures ∙ ap (λ (g : List (List ℕ)). post_order g c.args.tasks.now) c.edges.ensures.edges
