use Rattle.std.proofs.Common.{◌≡◌, drop}
use Rattle.class_index.specs.Lookups.{in_interface, first_in}
use Rattle.class_index.proofs.lookup.first_in.Given as goal

abbrev pub invariant-loop-place : goal.invariant-loop-place
invariant-loop-place l =
    first_in (in_interface l.own l.all l.name l.descriptor) (drop l.place-index l.places) ≡ first_in (in_interface l.own l.all l.name l.descriptor) l.places
