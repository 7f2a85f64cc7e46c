-- None of the rows so far has the key.
use Rattle.std.proofs.Common.{◌≡◌, drop}
use Rattle.jvm_tables.specs.Natives.{native_from, all_stated}
use Rattle.jvm_tables.proofs.natives.find_native.Given as goal

abbrev pub invariant-loop-at : goal.invariant-loop-at
invariant-loop-at l = native_from l.at l.class l.name l.descriptor (all_stated (drop l.at l.rows)) ≡ native_from 0 l.class l.name l.descriptor (all_stated l.rows)
