use Rattle.std.proofs.Common.{◌≡◌, None, drop}
use Rattle.std.specs.Option.{option_copied}
use Rattle.class_index.specs.Places.{place_in}
use Rattle.class_index.specs.Least.{least_from}
use Rattle.class_index.specs.Supers.{missing_by}
use Rattle.class_index.proofs.fault.least_missing.Given as goal

abbrev pub invariant-loop-class : goal.invariant-loop-class
invariant-loop-class l =
    least_from (option_copied l.least) (missing_by (place_in l.places) l.own (drop l.class-index l.classes)) ≡ least_from None (missing_by (place_in l.places) l.own l.classes)
