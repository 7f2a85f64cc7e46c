use Rattle.std.proofs.Common.{◌≡◌, replicate}
use Rattle.jvm_tables.specs.declared.instruction.ValueKind.TheVariants.{Int}
use Rattle.class_code.proofs.constants.put_ints.Given as goal

abbrev pub invariant-loop : goal.invariant-loop
invariant-loop l = l.kinds.items ≡ replicate l.counter Int
