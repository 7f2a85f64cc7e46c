-- What the code says of an instruction that stays in its frame.
use Rattle.std.specs.Prelude.{ℕ, ℤ, List, Option, Some, None, slice_get, option_and_then}
use Rattle.jvm_tables.specs.declared.instruction.ValueKind.TheVariants as values
use Rattle.jvm_heap.specs.declared.slot.Slot.{Slot}
use Rattle.native_model.specs.Table.{value_in}
use Rattle.native_model.specs.Thrown.{division_by_zero}
use Rattle.jvm_model.specs.Working.{Work, Step, next, jump, throw}
use Rattle.jvm_arith.specs.declared.frame_end.FrameEnd.{FrameEnd}
use Rattle.jvm_arith.specs.declared.frame_end.FrameEnd.TheVariants as ends

-- with the locals and the operands that are left
abbrev pub ended_of : FrameEnd → Work → Option Step
ended_of ends.Next new = Some (next new)
ended_of (ends.Jump target) new = Some (jump target new)
ended_of ends.ByZero new = Some (throw division_by_zero new)
ended_of ends.Stuck new = None

-- the value of a kind that begins in a local
unfoldable pub int_at : List Slot → ℕ → Option ℤ
int_at locals at = option_and_then (value_in values.Int) (slice_get locals at)

unfoldable pub long_at : List Slot → ℕ → Option ℤ
long_at locals at = option_and_then (value_in values.Long) (slice_get locals at)

unfoldable pub reference_at : List Slot → ℕ → Option ℕ
reference_at locals at = option_and_then (value_in values.Reference) (slice_get locals at)
