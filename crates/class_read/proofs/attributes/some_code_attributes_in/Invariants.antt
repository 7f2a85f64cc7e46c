use Rattle.std.proofs.Common.{◌≡◌, ◌-◌, []}
use Rattle.class_model.specs.Attributes.{in_code}
use Rattle.class_text.specs.Readers.{many_after}
use Rattle.class_text.specs.Attributes.{code_attribute_at}
use Rattle.const_pool.specs.Faults.{with_front}
use Rattle.class_read.specs.Stands.{Keeps}
use Rattle.class_read.proofs.attributes.some_code_attributes_in.Given as goal

abbrev pub invariant-loop-i : goal.invariant-loop-i
invariant-loop-i l =
    Keeps l.pool in_code l.found × (with_front l.found.list (many_after (code_attribute_at l.pool) l.found.list (l.count - l.i) l.end l.rest) ≡ many_after (code_attribute_at l.pool) [] l.count l.end l.bytes)
