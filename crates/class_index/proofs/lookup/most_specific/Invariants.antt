use Rattle.std.proofs.Common.{◌≡◌, take}
use Rattle.std.specs.List.{filter_map}
use Rattle.place_graph.specs.Graphs.{edges_of}
use Rattle.class_index.specs.Lookups.{in_interface, specific, choice_of}
use Rattle.class_index.proofs.lookup.most_specific.Given as goal

abbrev pub invariant-loop-place : goal.invariant-loop-place
invariant-loop-place l =
    l.choice ≡ choice_of (filter_map (specific (in_interface l.own l.all l.name l.descriptor) (edges_of l.above) l.others) (take l.place-index l.others))
