use Rattle.std.proofs.Common.{List, [], ◌∷◌, ℕ, ◌∙◌, sym, ap}
use Rattle.task_graph.specs.PostOrders.{post_order}
use Rattle.task_graph.proofs.Ending.{group_graph, group_within, group_ends, group_is}
use Rattle.task_graph.proofs.group.walk.Goals as goal

pub post_order_of-requires-clause-graph : goal.post_order_of-requires-clause-graph
post_order_of-requires-clause-graph c = group_graph c.args.graph.now c.anonymous_edges.result.now c.anonymous_edges.ensures.edges c.anonymous_edges.ensures.graph

pub post_order_of-requires-clause-places : goal.post_order_of-requires-clause-places
post_order_of-requires-clause-places c = group_within c.args.graph.now c.anonymous_edges.result.now c.args.task c.anonymous_edges.ensures.edges c.requires

pub post_order_of-requires-clause-end : goal.post_order_of-requires-clause-end
post_order_of-requires-clause-end c = group_ends c.args.graph.now c.anonymous_edges.result.now c.args.task c.anonymous_edges.ensures.edges c.anonymous_edges.ensures.graph c.requires

pub returns : goal.returns
returns c =
    c.in_ok-walked.ensures ∙ ap (λ (g : List (List ℕ)). post_order g (c.args.task ∷ [])) c.anonymous_edges.ensures.edges ∙ sym (group_is c.args.graph.now c.args.task)
