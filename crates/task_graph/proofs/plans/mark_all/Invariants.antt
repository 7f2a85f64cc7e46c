use Rattle.std.proofs.Common.{◌≡◌, drop}
use Rattle.place_graph.specs.Graphs.{with_places}
use Rattle.place_graph.specs.Closing.{IsMarking}
use Rattle.task_graph.proofs.plans.mark_all.Given as goal

abbrev pub invariant-loop-place : goal.invariant-loop-place
invariant-loop-place l =
    IsMarking l.marks 1 l.found × (with_places l.found (drop l.place-index l.places) ≡ with_places l.fn.found l.places)
