use Rattle.std.proofs.Common.{◌≡◌, take, map}
use Rattle.class_index.specs.Places.{place_in}
use Rattle.class_index.specs.Hierarchy.{directs_by}
use Rattle.class_index.proofs.hierarchy.hierarchy_of.Given as goal

abbrev pub invariant-loop-class : goal.invariant-loop-class
invariant-loop-class l = l.graph ≡ map (directs_by (place_in l.places)) (take l.class-index l.all)
