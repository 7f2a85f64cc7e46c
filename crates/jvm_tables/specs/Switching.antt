-- Where a decoded switch goes (JVMS 6.5, tableswitch and lookupswitch).
use Rattle.std.specs.Prelude.{◌≡◌, ℕ, ◌≤◌, List, length, drop, map, Option, Some, None, Ok, ℤ, IsTrue}
use Rattle.jvm_tables.specs.declared.code.Instr.{Instr}
use Rattle.jvm_tables.specs.declared.instruction.Form.{Form}
use Rattle.jvm_tables.specs.declared.instruction.Form.TheVariants.{Bare}
use Rattle.jvm_tables.specs.declared.instruction.OpRow.{OpRow}
use Rattle.jvm_tables.specs.Agreement.{is_switch}
use Rattle.jvm_tables.specs.Decoding.{decoding}
use Rattle.jvm_tables.specs.Opcodes.{row_of}
use Rattle.jvm_tables.specs.Switches.{pairs_of, chosen, target}

abbrev pub form_of : Option OpRow → Form
form_of None = Bare
form_of (Some row) = row.form

-- the instruction is what decoding gives at its place, and a switch
pub record IsSwitchAt (code : List ℕ) (instr : Instr) : Type 0 where
  pub small : length code ≤ 65535
  pub decoded : decoding instr.pc (drop instr.pc code) ≡ Ok instr
  pub switch : IsTrue (is_switch (form_of (row_of instr.op)))

-- its pairs of key and offset
abbrev pub pairs_at : List ℕ → Instr → List (ℤ × ℤ)
pairs_at code instr = pairs_of (form_of (row_of instr.op)) instr.pc (drop 1 (drop instr.pc code))

-- its keys, and where each leads to
abbrev pub cases_at : List ℕ → Instr → List (ℤ × ℕ)
cases_at code instr = map (λ p. (p.0, target instr.pc p.1)) (pairs_at code instr)

-- where it goes at a key
abbrev pub target_at : List ℕ → Instr → ℤ → ℕ
target_at code instr key = target instr.pc (chosen instr.first key (pairs_at code instr))
