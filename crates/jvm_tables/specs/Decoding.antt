-- The instruction that begins at a place of the code, by the row of its opcode (JVMS 6.5).
use Rattle.std.specs.Prelude.{ℕ, true, false, ◌&&◌, ◌==◌, if◌then◌else◌, List, drop, Option, Some, None, Result, Ok, Err, ℤ, pos, nat_le}
use Rattle.std.specs.Int.{w8, w16, cast_signed}
use Rattle.jvm_tables.specs.declared.code.CodeFault.{CodeFault}
use Rattle.jvm_tables.specs.declared.code.CodeFault.TheVariants.{FloatOp, UnknownOp, BadOperand}
use Rattle.jvm_tables.specs.declared.code.Instr.{Instr}
use Rattle.jvm_tables.specs.declared.instruction.Form.{Form}
use Rattle.jvm_tables.specs.declared.instruction.Form.TheVariants as forms
use Rattle.jvm_tables.specs.declared.instruction.OpRow.{OpRow}
use Rattle.jvm_tables.specs.Opcodes.{row_of}
use Rattle.jvm_tables.specs.Switches.{◌>>=◌, byte_at, short_at, word_at, table_switch, lookup_switch}

-- the row's instruction, of the row's length, with these operands
abbrev pub plain : ℕ → OpRow → ℤ → ℤ → Instr
plain pc row first second =
    record { pc = pc; op = row.opcode; wide = false; length = row.length; first = first; second = second }

unfoldable pub interface_call : ℕ → OpRow → List ℕ → Result Instr CodeFault
interface_call pc row bytes = do
  constant ← short_at bytes 0
  count ← byte_at bytes 2
  end ← byte_at bytes 3
  if end == 0 then Ok (plain pc row (pos constant) (pos count)) else Err BadOperand

unfoldable pub call_site : ℕ → OpRow → List ℕ → Result Instr CodeFault
call_site pc row bytes = do
  constant ← short_at bytes 0
  end ← short_at bytes 2
  if end == 0 then Ok (plain pc row (pos constant) (pos 0)) else Err BadOperand

-- the codes of element types are 4 to 11 (JVMS 6.5, newarray)
unfoldable pub element_type : ℕ → OpRow → List ℕ → Result Instr CodeFault
element_type pc row bytes = do
  code ← byte_at bytes 0
  if nat_le 4 code && nat_le code 11 then Ok (plain pc row (pos code) (pos 0)) else Err BadOperand

unfoldable pub dimensions : ℕ → OpRow → List ℕ → Result Instr CodeFault
dimensions pc row bytes = do
  constant ← short_at bytes 0
  count ← byte_at bytes 2
  if count == 0 then Err BadOperand else Ok (plain pc row (pos constant) (pos count))

unfoldable pub increment : ℕ → OpRow → List ℕ → Result Instr CodeFault
increment pc row bytes = do
  local ← byte_at bytes 0
  by ← byte_at bytes 1
  Ok (plain pc row (pos local) (cast_signed w8 by))

-- a load or a store behind `wide`
unfoldable pub wide_local : ℕ → OpRow → List ℕ → Result Instr CodeFault
wide_local pc row bytes = do
  local ← short_at bytes 0
  Ok (record { pc = pc; op = row.opcode; wide = true; length = 4; first = pos local; second = pos 0 })

unfoldable pub wide_increment : ℕ → OpRow → List ℕ → Result Instr CodeFault
wide_increment pc row bytes = do
  local ← short_at bytes 0
  by ← short_at bytes 2
  Ok (record { pc = pc; op = row.opcode; wide = true; length = 6; first = pos local; second = cast_signed w16 by })

abbrev pub wide_form : Form → ℕ → OpRow → List ℕ → Result Instr CodeFault
wide_form forms.LocalIncrement pc row bytes = wide_increment pc row bytes
wide_form _ pc row bytes = wide_local pc row bytes

-- the row of an opcode before which `wide` may go
abbrev pub widened : Option OpRow → Result OpRow CodeFault
widened None = Err BadOperand
widened (Some row) = if row.takes_wide then Ok row else Err BadOperand

unfoldable pub wide : ℕ → List ℕ → Result Instr CodeFault
wide pc bytes = do
  op ← byte_at bytes 0
  row ← widened (row_of op)
  wide_form row.form pc row (drop 1 bytes)

-- the instruction of a row whose operands have this form
abbrev pub by_form : Form → ℕ → OpRow → List ℕ → Result Instr CodeFault
by_form forms.Bare pc row bytes = Ok (plain pc row (pos 0) (pos 0))
by_form forms.Byte pc row bytes = byte_at bytes 0 >>= λ n. Ok (plain pc row (cast_signed w8 n) (pos 0))
by_form forms.Short pc row bytes = short_at bytes 0 >>= λ n. Ok (plain pc row (cast_signed w16 n) (pos 0))
by_form forms.ByteConstant pc row bytes = byte_at bytes 0 >>= λ n. Ok (plain pc row (pos n) (pos 0))
by_form forms.Constant pc row bytes = short_at bytes 0 >>= λ n. Ok (plain pc row (pos n) (pos 0))
by_form forms.Local pc row bytes = byte_at bytes 0 >>= λ n. Ok (plain pc row (pos n) (pos 0))
by_form forms.LocalIncrement pc row bytes = increment pc row bytes
by_form forms.Branch pc row bytes = short_at bytes 0 >>= λ n. Ok (plain pc row (cast_signed w16 n) (pos 0))
by_form forms.WideBranch pc row bytes = word_at bytes 0 >>= λ z. Ok (plain pc row z (pos 0))
by_form forms.TableSwitch pc row bytes = table_switch pc row bytes
by_form forms.LookupSwitch pc row bytes = lookup_switch pc row bytes
by_form forms.InterfaceCall pc row bytes = interface_call pc row bytes
by_form forms.CallSite pc row bytes = call_site pc row bytes
by_form forms.ElementType pc row bytes = element_type pc row bytes
by_form forms.Dimensions pc row bytes = dimensions pc row bytes
by_form forms.Wide pc row bytes = wide pc bytes

-- the row of an opcode that is no float use
abbrev pub known : ℕ → Option OpRow → Result OpRow CodeFault
known op None = Err (UnknownOp op)
known op (Some row) = if row.is_float then Err (FloatOp op) else Ok row

-- the instruction at pc, of the bytes of the code from there on
unfoldable pub decoding : ℕ → List ℕ → Result Instr CodeFault
decoding pc bytes = do
  op ← byte_at bytes 0
  row ← known op (row_of op)
  by_form row.form pc row (drop 1 bytes)
