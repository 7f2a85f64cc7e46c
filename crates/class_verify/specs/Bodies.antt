-- The code of a method with what verification asks of it, and the shape before each instruction.
use Rattle.std.specs.Prelude.{◌≡◌, ℕ, zero, suc, ◌&&◌, ◌==◌, List, Option, Some, None, is_none, option_map, option_and_then, Result, Ok, Err, if◌then◌else◌}
use Rattle.jvm_tables.specs.declared.code.Instr.{Instr}
use Rattle.jvm_tables.specs.declared.instruction.OpRow.{OpRow}
use Rattle.jvm_tables.specs.declared.instruction.ValueKind.{ValueKind}
use Rattle.class_model.specs.declared.attribute_forms.Handler.{Handler}
use Rattle.class_model.specs.declared.class_file.Class.{Class}
use Rattle.class_verify.specs.declared.cause.Cause.{Cause}
use Rattle.class_verify.specs.declared.frames.Limits.{Limits}
use Rattle.class_verify.specs.declared.frames.Written.{Written}
use Rattle.class_verify.specs.declared.shape.Shape.{Shape}
use Rattle.class_verify.specs.Decoded.{decoded}
use Rattle.class_verify.specs.Effects.{left}
use Rattle.class_verify.specs.Frames.{frame_at}
use Rattle.class_verify.specs.Places.{next_place}
use Rattle.class_verify.specs.Shapes.{shape_fits}
use Rattle.class_code.specs.Control.{falls}

-- `result` is the kind of the method's result; `first` is the shape as it begins, None where the arguments pass the
-- locals.
pub record Body : Type 0 where
  pub class : Class
  pub result : Option ValueKind
  pub limits : Limits
  pub code : List ℕ
  pub table : List Handler
  pub first : Option Shape
  pub frames : List Written

-- an instruction by its place, and what the one before it leaves where control goes on from there
pub record Point : Type 0 where
  pub pc : ℕ
  pub arrives : Option Shape

-- a shape that comes to a frame, if one does, fits it
abbrev pub joined_to : Option Shape → Shape → Option Shape
joined_to None wanted = Some wanted
joined_to (Some shape) wanted = if shape_fits shape wanted then Some wanted else None

abbrev pub joined : Option Shape → Option Written → Option Shape
joined arrives None = arrives
joined arrives (Some w) = option_and_then (joined_to arrives) w.shape

-- The shape before an instruction: that of the frame that the file writes there, into which what arrives fits, else
-- what arrives.
unfoldable pub shape_before : Body → Point → Option Shape
shape_before body point =
    if point.pc == 0 && is_none body.first then None
    else joined point.arrives (frame_at body.code body.frames point.pc)

-- what an instruction leaves to the next one, where control goes on there
abbrev pub fallen_by : Body → Option Shape → Instr → OpRow → Option Shape
fallen_by body shape instr row =
    if falls row.flow then option_and_then (left body.class body.limits.stack row instr) shape else None

abbrev pub fallen : Body → Option Shape → Result (Instr × OpRow) Cause → Option Shape
fallen body shape (Ok found) = fallen_by body shape found.0 found.1
fallen body shape (Err cause) = None

abbrev pub first_point : Body → Point
first_point body = record { pc = 0; arrives = body.first }

unfoldable pub following : Body → Point → Option Point
following body point =
    option_map (λ pc. record { pc = pc; arrives = fallen body (shape_before body point) (decoded body.code point.pc) })
    (next_place body.code point.pc)

-- the instruction so many instructions after the first
unfoldable pub point_of : Body → ℕ → Option Point
point_of body zero = Some (first_point body)
point_of body (suc n) = option_and_then (following body) (point_of body n)

-- An instruction begins at pc, and this is the shape before it.
abbrev pub HasShape : Body → ℕ → Shape → Type 0
HasShape body pc shape =
    (n : ℕ) × (p : Point) × (point_of body n ≡ Some p) × (p.pc ≡ pc) × (shape_before body p ≡ Some shape)
