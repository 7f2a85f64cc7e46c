use Rattle.std.proofs.Common.{◌≡◌, take}
use Rattle.std.specs.List.{filter_map}
use Rattle.class_index.specs.Places.{place_in}
use Rattle.class_index.proofs.hierarchy.interfaces_of.Given as goal

abbrev pub invariant-loop-name : goal.invariant-loop-name
invariant-loop-name l = l.found ≡ filter_map (place_in l.places) (take l.name-index l.interfaces)
