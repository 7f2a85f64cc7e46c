use Rattle.std.proofs.Common.{◌≡◌, take, map}
use Rattle.class_verify.specs.ConstantTables.{has_float_entry}
use Rattle.class_verify.proofs.constant_tables.float_entries.Given as goal

abbrev pub invariant-loop-entry : goal.invariant-loop-entry
invariant-loop-entry l = l.found.items ≡ map (has_float_entry l.pool) (take l.entry-index l.entries)
