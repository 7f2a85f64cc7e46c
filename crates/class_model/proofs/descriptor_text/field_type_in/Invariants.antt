use Rattle.std.proofs.Common.{◌≡◌, length}
use Rattle.class_model.specs.Descriptors.{field_type_at}
use Rattle.class_model.specs.TypeForms.{wrapped}
use Rattle.class_model.proofs.descriptor_text.field_type_in.Given as goal

abbrev pub invariant-loop-more : goal.invariant-loop-more
invariant-loop-more l = field_type_at l.bytes ≡ wrapped l.dimensions (field_type_at l.rest)

abbrev pub decreases-loop-more : goal.decreases-loop-more
decreases-loop-more l = length l.rest
