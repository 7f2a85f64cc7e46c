use Rattle.std.proofs.Common.{◌≡◌, take, map}
use Rattle.class_index.specs.Places.{place_in}
use Rattle.class_index.specs.Hierarchy.{super_by}
use Rattle.class_index.proofs.hierarchy.supers_of.Given as goal

abbrev pub invariant-loop-class : goal.invariant-loop-class
invariant-loop-class l = l.supers ≡ map (super_by (place_in l.places)) (take l.class-index l.all)
