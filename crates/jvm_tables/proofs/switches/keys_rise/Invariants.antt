-- The pairs from the one before k on rise exactly where all of them do.
use Rattle.std.proofs.Common.{◌≡◌, ◌+◌, ◌-◌, ◌*◌}
use Rattle.jvm_tables.specs.Switches.{keys_rise, lookup_pairs}
use Rattle.jvm_tables.proofs.switches.keys_rise.Given as goal

abbrev pub invariant-loop-k : goal.invariant-loop-k
invariant-loop-k l = keys_rise (lookup_pairs (l.count - (l.k - 1)) (l.at + 8 * (l.k - 1)) l.bytes) ≡ keys_rise (lookup_pairs l.count l.at l.bytes)
