use Rattle.std.proofs.Common.{◌≡◌, ◌≤◌, length}
use Rattle.class_model.specs.Descriptors.{field_types_at}
use Rattle.class_model.specs.TypeForms.{are_within}
use Rattle.class_model.proofs.descriptor_text.parameters_fit.Given as goal

abbrev pub invariant-loop-first : goal.invariant-loop-first
invariant-loop-first l =
    (are_within l.most 0 (field_types_at (length l.bytes) l.bytes) ≡ are_within l.most l.used (field_types_at (length l.rest) l.rest)) × (l.used ≤ l.most)

abbrev pub decreases-loop-first : goal.decreases-loop-first
decreases-loop-first l = length l.rest
