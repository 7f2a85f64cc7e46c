-- None of the rows so far has the name.
use Rattle.std.proofs.Common.{◌≡◌, drop}
use Rattle.jvm_tables.specs.Externals.{external_from, all_stated}
use Rattle.jvm_tables.proofs.externals.find_external.Given as goal

abbrev pub invariant-loop-at : goal.invariant-loop-at
invariant-loop-at l = external_from l.at l.class (all_stated (drop l.at l.rows)) ≡ external_from 0 l.class (all_stated l.rows)
