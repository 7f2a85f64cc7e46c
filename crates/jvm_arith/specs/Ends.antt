-- What the code says of an instruction's effect.
use Rattle.std.specs.Prelude.{Option, Some, None}
use Rattle.jvm_heap.specs.Operands.{Operands}
use Rattle.native_model.specs.Thrown.{division_by_zero}
use Rattle.jvm_model.specs.Arithmetic.{Effect, leaves, raises}
use Rattle.jvm_arith.specs.declared.numbers.ArithEnd.{ArithEnd}
use Rattle.jvm_arith.specs.declared.numbers.ArithEnd.TheVariants as arith_ends

-- with the operands that are left
abbrev pub done_of : ArithEnd → Operands → Option Effect
done_of arith_ends.Done new = Some (leaves new)
done_of arith_ends.ByZero new = Some (raises division_by_zero new)
done_of arith_ends.Stuck new = None
