use Rattle.std.proofs.Common.{◌≡◌, drop}
use Rattle.class_code.specs.Bootstraps.{table_in}
use Rattle.class_code.proofs.bootstraps.table_in.Given as goal

abbrev pub invariant-loop-attribute : goal.invariant-loop-attribute
invariant-loop-attribute l = table_in l.attributes ≡ table_in (drop l.attribute-index l.attributes)
