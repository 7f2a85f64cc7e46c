use Rattle.std.proofs.Common.{◌≡◌, ◌++◌, take, map}
use Rattle.jvm_tables.specs.Externals.{externals}
use Rattle.class_index.specs.Outlines.{outer_outline}
use Rattle.class_index.proofs.index.add_external.Given as goal

abbrev pub invariant-loop-row : goal.invariant-loop-row
invariant-loop-row l = l.all ≡ l.fn.all ++ map outer_outline (take l.row externals)
