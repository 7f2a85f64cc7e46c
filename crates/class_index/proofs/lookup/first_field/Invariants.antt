use Rattle.std.proofs.Common.{◌≡◌, drop}
use Rattle.class_index.specs.Lookups.{field_at, first_field}
use Rattle.class_index.proofs.lookup.first_field.Given as goal

abbrev pub invariant-loop-place : goal.invariant-loop-place
invariant-loop-place l =
    first_field (field_at l.all l.name l.descriptor) (drop l.place-index l.places) ≡ first_field (field_at l.all l.name l.descriptor) l.places
