use Rattle.std.proofs.Common.{◌≡◌, ◌-◌}
use Rattle.class_text.specs.Readers.{many_at, many_after}
use Rattle.const_pool.specs.Faults.{with_front}
use Rattle.class_read.proofs.item_lists.many_in.Given as goal

abbrev pub invariant-loop-i : goal.invariant-loop-i
invariant-loop-i g l = with_front l.items (many_after (λ before. g.R.ReadItem.one l.reader) l.items (l.count - l.i) l.end l.rest) ≡ many_at (g.R.ReadItem.one l.reader) l.count l.end l.bytes
