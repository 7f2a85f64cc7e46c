-- None of the pairs so far has the key.
use Rattle.std.proofs.Common.{◌≡◌, ◌+◌, ◌-◌, ◌*◌}
use Rattle.jvm_tables.specs.Switches.{chosen, lookup_pairs}
use Rattle.jvm_tables.proofs.switching.offset_among.Given as goal

abbrev pub invariant-loop-k : goal.invariant-loop-k
invariant-loop-k l = chosen l.default l.key (lookup_pairs (l.count - l.k) (l.at + 8 * l.k) l.bytes) ≡ chosen l.default l.key (lookup_pairs l.count l.at l.bytes)
