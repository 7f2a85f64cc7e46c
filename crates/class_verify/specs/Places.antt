-- Where instructions begin.
use Rattle.std.specs.Prelude.{ℕ, zero, suc, ◌+◌, Bool, false, ◌||◌, ◌==◌, nat_lt, List, length, drop, Option, Some, None, option_and_then, Result, Ok, Err, if◌then◌else◌}
use Rattle.jvm_tables.specs.declared.code.CodeFault.{CodeFault}
use Rattle.jvm_tables.specs.declared.code.CodeFault.TheVariants.{FloatOp, UnknownOp, CutShort, BadOperand}
use Rattle.jvm_tables.specs.declared.code.Instr.{Instr}
use Rattle.jvm_tables.specs.declared.instruction.OpRow.{OpRow}
use Rattle.jvm_tables.specs.Decoding.{decoding}
use Rattle.jvm_tables.specs.Opcodes.{row_of}

abbrev pub float_length : OpRow → Option ℕ
float_length row = if row.is_float then Some row.length else None

-- An opcode on floats has the length of its row (JVMS 6.5). Behind what is no instruction nothing begins.
abbrev pub length_by : Result Instr CodeFault → Option ℕ
length_by (Ok instr) = Some instr.length
length_by (Err (FloatOp op)) = option_and_then float_length (row_of op)
length_by (Err (UnknownOp op)) = None
length_by (Err CutShort) = None
length_by (Err BadOperand) = None

-- a place that lies within the code
abbrev pub within : List ℕ → ℕ → Option ℕ
within code pc = if nat_lt pc (length code) then Some pc else None

-- where the next instruction begins
unfoldable pub next_place : List ℕ → ℕ → Option ℕ
next_place code pc = option_and_then (λ n. within code (pc + n)) (length_by (decoding pc (drop pc code)))

-- one of at most so many instructions from a place on begins at pc
unfoldable pub leads_to : List ℕ → ℕ → Option ℕ → ℕ → Bool
leads_to code zero at pc = false
leads_to code (suc most) None pc = false
leads_to code (suc most) (Some at) pc = at == pc || leads_to code most (next_place code at) pc

-- an instruction of the code begins at pc; there are at most as many as bytes
unfoldable pub begins : List ℕ → ℕ → Bool
begins code pc = leads_to code (length code) (Some 0) pc
