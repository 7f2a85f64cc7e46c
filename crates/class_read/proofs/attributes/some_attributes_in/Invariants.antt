use Rattle.std.proofs.Common.{◌≡◌, ◌-◌, []}
use Rattle.class_text.specs.Readers.{many_after}
use Rattle.class_text.specs.Attributes.{attribute_at}
use Rattle.const_pool.specs.Faults.{with_front}
use Rattle.class_read.specs.Stands.{stand_of, Keeps}
use Rattle.class_read.proofs.attributes.some_attributes_in.Given as goal

abbrev pub invariant-loop-i : goal.invariant-loop-i
invariant-loop-i l =
    Keeps l.pool (stand_of l.stand) l.found × (with_front l.found.list (many_after (attribute_at l.pool (stand_of l.stand) l.barred) l.found.list (l.count - l.i) l.end l.rest) ≡ many_after (attribute_at l.pool (stand_of l.stand) l.barred) [] l.count l.end l.bytes)
