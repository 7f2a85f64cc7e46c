use Rattle.std.proofs.Common.{length, sym, ◌∙◌, ap}
use Rattle.place_graph.specs.Graphs.{with_places}
use Rattle.task_graph.specs.PostOrders.{late_walks}
use Rattle.task_graph.proofs.Walking.{post_order_is}
use Rattle.task_graph.proofs.post_order.post_order_of.Goals as goal

pub returns : goal.returns
returns c =
    c.in_ok-visit_all.ensures.found ∙ ap (λ xs. with_places xs (late_walks (length c.args.graph.now) c.args.graph.now c.args.places.now)) c.new-found.ensures
    ∙ sym (post_order_is c.args.graph.now c.args.places.now)
