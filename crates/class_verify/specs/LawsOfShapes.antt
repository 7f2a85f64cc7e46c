-- What holds of each shape that the definitions tell, and of shapes that fit others.
use Rattle.std.specs.Prelude.{◌≡◌, ℕ, ◌≤◌, true, length, Contains, Some}
use Rattle.jvm_tables.specs.declared.code.Instr.{Instr}
use Rattle.jvm_tables.specs.declared.instruction.OpRow.{OpRow}
use Rattle.class_model.specs.declared.attribute_forms.Handler.{Handler}
use Rattle.class_model.specs.declared.class_file.Class.{Class}
use Rattle.class_model.specs.declared.class_file.Member.{Member}
use Rattle.class_verify.specs.declared.frames.Limits.{Limits}
use Rattle.class_verify.specs.declared.frames.Written.{Written}
use Rattle.class_verify.specs.declared.shape.Shape.{Shape}
use Rattle.class_verify.specs.Bodies.{Body, HasShape}
use Rattle.class_verify.specs.Effects.{left}
use Rattle.class_verify.specs.Misfits.{BodyFits}
use Rattle.class_verify.specs.Pairs.{is_paired_stack, are_paired_locals}
use Rattle.class_verify.specs.Shapes.{shape_fits}
use Rattle.class_code.specs.Control.{covers}
use Rattle.class_code.specs.Codes.{CodeParts}
use Rattle.class_verify.specs.Verified.{body_of}

-- Each long has its second slot, the stack is within its limit, and there are as many locals as the code has.
pub record IsFormed (limits : Limits) (shape : Shape) : Type 0 where
  pub stack : is_paired_stack shape.stack ≡ true
  pub locals : are_paired_locals shape.locals ≡ true
  pub room : length shape.stack ≤ limits.stack
  pub count : length shape.locals ≡ limits.locals

-- the first shape, and that of each frame that the file writes
pub record IsFormedBody (body : Body) : Type 0 where
  pub first : (shape : Shape) → body.first ≡ Some shape → IsFormed body.limits shape
  pub frames : (w : Written) (shape : Shape) → Contains body.frames w → w.shape ≡ Some shape → IsFormed body.limits shape

abbrev pub EachBodyIsFormed : Type 0
EachBodyIsFormed = (class : Class) (m : Member) (c : CodeParts) → IsFormedBody (body_of class m c)

abbrev pub EachShapeIsFormed : Type 0
EachShapeIsFormed = (body : Body) (pc : ℕ) (shape : Shape) → IsFormedBody body → HasShape body pc shape → IsFormed body.limits shape

-- An instruction leaves a formed shape of a formed one.
abbrev pub EachStaysFormed : Type 0
EachStaysFormed =
    (class : Class) (limits : Limits) (row : OpRow) (instr : Instr) (shape after : Shape) → IsFormed limits shape
    → left class limits.stack row instr shape ≡ Some after → IsFormed limits after

-- There is room for the thrown reference wherever a handler catches.
abbrev pub EachHandlerHasRoom : Type 0
EachHandlerHasRoom =
    (body : Body) (pc : ℕ) (shape : Shape) (h : Handler) → BodyFits body → IsFormedBody body → HasShape body pc shape
    → Contains body.table h → covers pc h ≡ true → 1 ≤ body.limits.stack

abbrev pub FitsItself : Type 0
FitsItself = (shape : Shape) → shape_fits shape shape ≡ true

abbrev pub FitsThrough : Type 0
FitsThrough = (a b c : Shape) → shape_fits a b ≡ true → shape_fits b c ≡ true → shape_fits a c ≡ true

-- What fits another shape and has the second slots of its longs on the stack, as a running frame: an instruction
-- leaves of it what fits what it leaves of the other.
pub record IsLeftSo (class : Class) (most : ℕ) (row : OpRow) (instr : Instr) (shape after : Shape) : Type 0 where
  pub own : Shape
  pub leaves : left class most row instr shape ≡ Some own
  pub fits : shape_fits own after ≡ true
  pub paired : is_paired_stack own.stack ≡ true

abbrev pub EachIsMonotone : Type 0
EachIsMonotone =
    (class : Class) (most : ℕ) (row : OpRow) (instr : Instr) (shape wanted after : Shape) → shape_fits shape wanted ≡ true
    → is_paired_stack shape.stack ≡ true → left class most row instr wanted ≡ Some after → IsLeftSo class most row instr shape after
