-- The number that an instruction itself pushes (JVMS 6.5, iconst_<i>, lconst_<l>, bipush and sipush).
use Rattle.std.specs.Prelude.{Option, Some, None, if◌then◌else◌, ℤ}
use Rattle.jvm_tables.specs.declared.code.Instr.{Instr}
use Rattle.jvm_tables.specs.declared.instruction.OpRow.{OpRow}
use Rattle.jvm_tables.specs.declared.instruction.Operation.{Operation}
use Rattle.jvm_tables.specs.declared.instruction.Operation.TheVariants.{PushInt, PushLong}
use Rattle.jvm_tables.specs.declared.pushed.PushedNumber.{PushedNumber}
use Rattle.jvm_tables.specs.declared.pushed.PushedNumber.TheVariants as numbers
use Rattle.jvm_tables.specs.Agreement.{is_bare}

abbrev pub number_for : Operation → ℤ → Option PushedNumber
number_for PushInt n = Some (numbers.Int n)
number_for PushLong n = Some (numbers.Long n)
number_for _ n = None

-- the number that the opcode implies, or the operand
abbrev pub pushed : Option OpRow → Instr → Option PushedNumber
pushed None instr = None
pushed (Some row) instr = number_for row.operation (if is_bare row.form then row.implied else instr.first)
