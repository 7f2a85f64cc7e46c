-- What holds of each instruction that is decoded, and of what it leaves, in parts (JVMS 6.5).
use Rattle.std.specs.Prelude.{◌≡◌, ℕ, ◌+◌, ◌≤◌, true, false, List, length, reverse, drop, Some, Ok}
use Rattle.jvm_tables.specs.declared.code.Instr.{Instr}
use Rattle.jvm_tables.specs.declared.instruction.OpRow.{OpRow}
use Rattle.jvm_tables.specs.Decoding.{decoding}
use Rattle.jvm_tables.specs.Opcodes.{row_of}
use Rattle.class_model.specs.declared.class_file.Class.{Class}
use Rattle.class_verify.specs.declared.kinds.Kind.{Kind}
use Rattle.class_verify.specs.declared.shape.Shape.{Shape}
use Rattle.class_code.specs.Constants.{Use, use_of}
use Rattle.class_verify.specs.Decoded.{decoded}
use Rattle.class_code.specs.Operands.{local_of}
use Rattle.class_verify.specs.Effects.{is_slots, stack_after, is_read, with_store, left}
use Rattle.class_verify.specs.Places.{within, next_place}
use Rattle.class_verify.specs.Stacks.{below_values, with_values, moved}

-- an instruction that is decoded stands at its pc, and its row is that of its opcode
pub record IsPlaced (code : List ℕ) (pc : ℕ) (instr : Instr) (row : OpRow) : Type 0 where
  pub own : decoding pc (drop pc code) ≡ Ok instr
  pub place : instr.pc ≡ pc
  pub own_row : row_of instr.op ≡ Some row
  pub next : next_place code pc ≡ within code (pc + instr.length)

abbrev pub EachIsPlaced : Type 0
EachIsPlaced = (code : List ℕ) (pc : ℕ) (instr : Instr) (row : OpRow) → decoded code pc ≡ Ok (instr, row) → IsPlaced code pc instr row

-- the local is read and written, the stack moved, and its limit kept
pub record IsLeft (class : Class) (most : ℕ) (row : OpRow) (instr : Instr) (shape after : Shape) : Type 0 where
  pub reads : is_read row.reads (local_of row instr) shape.locals ≡ true
  pub writes : with_store row.writes (local_of row instr) shape.locals ≡ Some after.locals
  pub stack : stack_after class row instr shape.stack ≡ Some after.stack
  pub room : length after.stack ≤ most

abbrev pub EachLeavesByParts : Type 0
EachLeavesByParts =
    (class : Class) (most : ℕ) (row : OpRow) (instr : Instr) (shape after : Shape) → left class most row instr shape ≡ Some after
    → IsLeft class most row instr shape after

abbrev pub EachPartIsLeft : Type 0
EachPartIsLeft =
    (class : Class) (most : ℕ) (row : OpRow) (instr : Instr) (shape after : Shape) → IsLeft class most row instr shape after
    → left class most row instr shape ≡ Some after

-- values are taken, and others given
pub record IsExchanged (class : Class) (row : OpRow) (instr : Instr) (stack after : List Kind) : Type 0 where
  pub values : Use
  pub told : use_of class row instr ≡ Some values
  pub rest : List Kind
  pub taken : below_values (reverse values.takes) stack ≡ Some rest
  pub given : after ≡ with_values values.gives rest

abbrev pub EachExchanges : Type 0
EachExchanges =
    (class : Class) (row : OpRow) (instr : Instr) (stack after : List Kind) → is_slots row.takes ≡ false
    → stack_after class row instr stack ≡ Some after → IsExchanged class row instr stack after

abbrev pub EachMoves : Type 0
EachMoves =
    (class : Class) (row : OpRow) (instr : Instr) (stack after : List Kind) → is_slots row.takes ≡ true
    → stack_after class row instr stack ≡ Some after → moved row.operation stack ≡ Some after
