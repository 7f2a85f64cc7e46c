use Rattle.std.proofs.Common.{◌≡◌, drop}
use Rattle.place_graph.specs.Graphs.{edges_of}
use Rattle.class_index.specs.Lookups.{in_interface, is_beaten}
use Rattle.class_index.proofs.lookup.is_beaten.Given as goal

abbrev pub invariant-loop-other : goal.invariant-loop-other
invariant-loop-other l =
    is_beaten (in_interface l.own l.all l.name l.descriptor) (edges_of l.above) l.place (drop l.other-index l.others)
    ≡ is_beaten (in_interface l.own l.all l.name l.descriptor) (edges_of l.above) l.place l.others
