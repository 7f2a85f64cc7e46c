use Rattle.std.proofs.Common.{◌≡◌, ◌≤◌, take}
use Rattle.std.specs.Prelude.{count_by}
use Rattle.class_model.specs.Shape.{has_code}
use Rattle.class_read.proofs.limits.counted.Given as goal

abbrev pub invariant-loop-method : goal.invariant-loop-method
invariant-loop-method l = (l.count ≡ count_by (λ m. has_code m.attributes) (take l.method-index l.methods)) × (l.count ≤ l.method-index)
