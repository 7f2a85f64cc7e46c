-- What each row of the table says is what its operation does.
use Rattle.std.specs.Prelude.{◌≡◌, ℕ, false, Some}
use Rattle.jvm_tables.specs.declared.instruction.OpRow.{OpRow}
use Rattle.jvm_tables.specs.Operations.{kind_read, kind_written, flow_of, may_throw, constant_of, initialises}
use Rattle.jvm_tables.specs.Opcodes.{row_of}
use Rattle.jvm_tables.specs.StackEffects.{stack_effect}

-- it holds of the row of each opcode that isn't one on floats
abbrev pub EachRow : (OpRow → Type 0) → Type 0
EachRow P = (op : ℕ) (row : OpRow) → row_of op ≡ Some row → row.is_float ≡ false → P row

abbrev pub TakesAsTold : Type 0
TakesAsTold = EachRow (λ row. row.takes ≡ (stack_effect row.operation).0)

abbrev pub GivesAsTold : Type 0
GivesAsTold = EachRow (λ row. row.gives ≡ (stack_effect row.operation).1)

abbrev pub ReadsAsTold : Type 0
ReadsAsTold = EachRow (λ row. row.reads ≡ kind_read row.operation)

abbrev pub WritesAsTold : Type 0
WritesAsTold = EachRow (λ row. row.writes ≡ kind_written row.operation)

abbrev pub FlowsAsTold : Type 0
FlowsAsTold = EachRow (λ row. row.flow ≡ flow_of row.operation)

abbrev pub ThrowsAsTold : Type 0
ThrowsAsTold = EachRow (λ row. row.throws ≡ may_throw row.operation)

abbrev pub NamesAsTold : Type 0
NamesAsTold = EachRow (λ row. row.constant ≡ constant_of row.operation)

abbrev pub InitialisesAsTold : Type 0
InitialisesAsTold = EachRow (λ row. row.initialises ≡ initialises row.operation)
