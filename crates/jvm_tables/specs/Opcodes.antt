-- The table of instructions (JVMS 6.5), by opcode.
use Rattle.std.specs.Prelude.{ℕ, ◌+◌, Bool, true, ◌&&◌, ◌==◌, if◌then◌else◌, List, [], ◌∷◌, Option, Some, None}
use Rattle.jvm_tables.specs.declared.instruction.OpRow.{OpRow}
use Rattle.jvm_tables.specs.declared.opcodes.TheConstants.{OPCODES}

-- the first row of that opcode
abbrev pub find_row : ℕ → List (Option OpRow) → Option OpRow
find_row op [] = None
find_row op (None ∷ rows) = find_row op rows
find_row op (Some row ∷ rows) = if row.opcode == op then Some row else find_row op rows

-- the row of an opcode
unfoldable pub row_of : ℕ → Option OpRow
row_of op = find_row op OPCODES

-- each row stands at its own opcode, counted from `at` on: so no opcode has two
abbrev pub stands_from : ℕ → List (Option OpRow) → Bool
stands_from at [] = true
stands_from at (None ∷ rows) = stands_from (at + 1) rows
stands_from at (Some row ∷ rows) = (row.opcode == at) && stands_from (at + 1) rows

-- each row passes the test
abbrev pub every : (OpRow → Bool) → List (Option OpRow) → Bool
every test [] = true
every test (None ∷ rows) = every test rows
every test (Some row ∷ rows) = test row && every test rows
