use Rattle.std.proofs.Common.{◌≤◌, length, drop}
use Rattle.class_index.specs.Hierarchy.{names}
use Rattle.class_index.specs.Places.{IsPlaces, place_in}
use Rattle.class_index.proofs.hierarchy.places_of.Given as goal

abbrev pub invariant-loop-at : goal.invariant-loop-at
invariant-loop-at l = (l.at ≤ length l.all) × IsPlaces l.at (drop l.at (names l.all)) (place_in l.places)

abbrev pub decreases-loop-at : goal.decreases-loop-at
decreases-loop-at l = l.at
