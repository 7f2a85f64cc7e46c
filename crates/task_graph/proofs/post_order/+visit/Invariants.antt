use Rattle.std.proofs.Common.{◌≡◌, ◌+◌, ◌*◌, take}
use Rattle.place_graph.specs.Graphs.{with_places}
use Rattle.place_graph.specs.Closing.{IsMarking}
use Rattle.task_graph.specs.PostOrders.{IsClosedUnder, late_walks}
use Rattle.task_graph.proofs.post_order.+visit.Given as goal

abbrev pub decreases-visit : goal.decreases-visit
decreases-visit l = 2 * l.depth

abbrev pub decreases-visit_all : goal.decreases-visit_all
decreases-visit_all l = 2 * l.depth + 1

abbrev pub invariant-visit_all-loop-place : goal.invariant-visit_all-loop-place
invariant-visit_all-loop-place l =
    IsMarking l.marks 1 l.found × IsClosedUnder l.graph l.found
    × (l.found ≡ with_places l.fn.found (late_walks l.depth l.graph (take l.place-index l.places)))
