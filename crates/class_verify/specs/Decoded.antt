-- The instruction at a place of the code with its row, or the cause that there is none (JVMS 6.5).
use Rattle.std.specs.Prelude.{ℕ, List, drop, Option, Some, None, Result, Ok, Err}
use Rattle.jvm_tables.specs.declared.code.CodeFault.{CodeFault}
use Rattle.jvm_tables.specs.declared.code.CodeFault.TheVariants.{FloatOp, UnknownOp, CutShort, BadOperand}
use Rattle.jvm_tables.specs.declared.code.Instr.{Instr}
use Rattle.jvm_tables.specs.declared.instruction.OpRow.{OpRow}
use Rattle.jvm_tables.specs.Decoding.{decoding}
use Rattle.jvm_tables.specs.Opcodes.{row_of}
use Rattle.class_verify.specs.declared.cause.Cause.{Cause}
use Rattle.class_verify.specs.declared.cause.Cause.TheVariants.{FloatUsed, BadCode}

abbrev pub with_row : Instr → Option OpRow → Result (Instr × OpRow) Cause
with_row instr None = Err BadCode
with_row instr (Some row) = Ok (instr, row)

-- An opcode on floats is float use; what is no instruction else is bad code.
abbrev pub told : Result Instr CodeFault → Result (Instr × OpRow) Cause
told (Ok instr) = with_row instr (row_of instr.op)
told (Err (FloatOp op)) = Err FloatUsed
told (Err (UnknownOp op)) = Err BadCode
told (Err CutShort) = Err BadCode
told (Err BadOperand) = Err BadCode

unfoldable pub decoded : List ℕ → ℕ → Result (Instr × OpRow) Cause
decoded code pc = told (decoding pc (drop pc code))
