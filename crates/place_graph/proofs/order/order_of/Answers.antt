use Rattle.place_graph.proofs.Stuck.{whole, one_returns}
use Rattle.place_graph.proofs.order.order_of.Goals as goal

pub returns-then-known-graph : goal.returns-then-known-graph
returns-then-known-graph c =
    whole c.args.graph.now c.in_ok-above.above c.in_ok-above.ensures.0 c.in_ok-above.known c.requires c.in_ok-above.ensures.1 c.if-known-graph.true

pub returns : goal.returns
returns c =
    let found =
    one_returns c.args.graph.now c.in_ok-above.above c.in_ok-above.ensures.0 c.in_ok-above.known c.in_ok-marks.marks.items c.requires c.in_ok-above.ensures.1 c.in_ok-above.ensures.2
    c.in_ok-marks.ensures.searched c.in_ok-marks.ensures.returning c.if-known-graph.false in
    (c.in_ok-marks.ensures.returning, found.0, found.1)
