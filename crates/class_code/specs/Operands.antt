-- What the operands of an instruction say (JVMS 6.5).
use Rattle.std.specs.Prelude.{ℕ, ◌||◌, if◌then◌else◌}
use Rattle.jvm_tables.specs.declared.code.Instr.{Instr}
use Rattle.jvm_tables.specs.declared.instruction.OpRow.{OpRow}
use Rattle.jvm_tables.specs.Agreement.{names_local, increments}
use Rattle.class_code.specs.Constants.{number_of}

-- the local that an instruction names, or that its opcode implies
abbrev pub local_of : OpRow → Instr → ℕ
local_of row instr =
    if names_local row.form || increments row.form then number_of instr.first else number_of row.implied
