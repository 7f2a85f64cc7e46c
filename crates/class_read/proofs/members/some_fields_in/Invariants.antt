use Rattle.std.proofs.Common.{◌≡◌, ◌-◌, []}
use Rattle.const_pool.specs.SeenMembers.{HasSeen}
use Rattle.class_text.specs.Readers.{many_after}
use Rattle.class_text.specs.Classes.{field_at}
use Rattle.const_pool.specs.Faults.{with_front}
use Rattle.class_read.proofs.members.some_fields_in.Given as goal

abbrev pub invariant-loop-i : goal.invariant-loop-i
invariant-loop-i l =
    (with_front l.before.list (many_after (field_at l.pool) l.before.list (l.count - l.i) l.end l.rest) ≡ many_after (field_at l.pool) [] l.count l.end l.bytes)
    × HasSeen l.pool l.before.list l.before.keys
