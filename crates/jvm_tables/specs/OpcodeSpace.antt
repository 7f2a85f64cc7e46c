-- Which opcodes code may have, and which of them are on floats or doubles (JVMS 6.5, 6.2).
use Rattle.std.specs.Prelude.{ℕ, ◌+◌, Bool, true, not, ◌&&◌, ◌||◌, ◌==◌, nat_le, List, [], ◌∷◌, Option, Some, None}
use Rattle.jvm_tables.specs.declared.instruction.OpRow.{OpRow}
use Rattle.jvm_tables.specs.Agreement.{same}

-- jsr and ret, which no class file of a version from 51 on has (JVMS 4.9.1)
abbrev pub is_subroutine : ℕ → Bool
is_subroutine op = op == 168 || op == 169

abbrev pub is_within : ℕ → ℕ → ℕ → Bool
is_within low high op = nat_le low op && nat_le op high

abbrev pub is_float_opcode : ℕ → Bool
is_float_opcode op =
    is_within 11 15 op  -- fconst_0 to dconst_1
    || is_within 23 24 op  -- fload, dload
    || is_within 34 41 op  -- fload_0 to dload_3
    || is_within 48 49 op  -- faload, daload
    || is_within 56 57 op  -- fstore, dstore
    || is_within 67 74 op  -- fstore_0 to dstore_3
    || is_within 81 82 op  -- fastore, dastore
    || is_within 98 99 op  -- fadd, dadd
    || is_within 102 103 op  -- fsub, dsub
    || is_within 106 107 op  -- fmul, dmul
    || is_within 110 111 op  -- fdiv, ddiv
    || is_within 114 115 op  -- frem, drem
    || is_within 118 119 op  -- fneg, dneg
    || is_within 134 135 op  -- i2f, i2d
    || is_within 137 144 op  -- l2f to d2f
    || is_within 149 152 op  -- fcmpl to dcmpg
    || is_within 174 175 op  -- freturn, dreturn

-- From `at` on each opcode has a row but for those of subroutines, and its row is float use where the opcode is.
abbrev pub is_told_from : ℕ → List (Option OpRow) → Bool
is_told_from at [] = true
is_told_from at (None ∷ rows) = is_subroutine at && is_told_from (at + 1) rows
is_told_from at (Some row ∷ rows) =
    not (is_subroutine at) && same row.is_float (is_float_opcode at) && is_told_from (at + 1) rows
