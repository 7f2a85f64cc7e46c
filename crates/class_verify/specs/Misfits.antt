-- What keeps code from fitting (JVMS 4.10.1), and the first such misfit.
use Rattle.std.specs.Prelude.{◌≡◌, ℕ, ◌≤◌, Bool, true, false, not, ◌&&◌, ◌||◌, List, filter, map, Contains, Option, Some, None, is_some, Result, Ok, Err}
use Rattle.std.specs.List.{list_all}
use Rattle.jvm_tables.specs.declared.code.Instr.{Instr}
use Rattle.jvm_tables.specs.declared.instruction.Flow.{Flow}
use Rattle.jvm_tables.specs.declared.instruction.Flow.TheVariants as flows
use Rattle.jvm_tables.specs.declared.instruction.Operands.{Operands}
use Rattle.jvm_tables.specs.declared.instruction.OpRow.{OpRow}
use Rattle.jvm_tables.specs.declared.instruction.ValueKind.{ValueKind}
use Rattle.jvm_tables.specs.Agreement.{is_nothing, is_one}
use Rattle.class_verify.specs.declared.cause.Cause.{Cause}
use Rattle.class_verify.specs.declared.cause.Cause.TheVariants.{FloatUsed, BadJump, UnknownBootstrap, BadFrame}
use Rattle.class_verify.specs.declared.frames.Written.{Written}
use Rattle.class_verify.specs.declared.shape.Shape.{Shape}
use Rattle.class_verify.specs.Bodies.{Body, Point, point_of, shape_before}
use Rattle.class_verify.specs.Decoded.{decoded}
use Rattle.class_verify.specs.Effects.{left}
use Rattle.class_verify.specs.Floats.{uses_float}
use Rattle.class_verify.specs.Frames.{frame_at}
use Rattle.class_verify.specs.Places.{begins, next_place}
use Rattle.class_code.specs.Sites.{has_unknown_site}
use Rattle.class_code.specs.Control.{targets_by}
use Rattle.class_verify.specs.Targets.{accepts, catches}

-- a cause where a test fails
abbrev pub unless : Bool → Cause → Option Cause
unless true cause = None
unless false cause = Some cause

-- the first of two
infixr 8 ◌<|>◌
abbrev pub ◌<|>◌ : Option Cause → Option Cause → Option Cause
None <|> next = next
(Some cause) <|> next = Some cause

abbrev pub is_float_frame : Option Written → Bool
is_float_frame None = false
is_float_frame (Some w) = w.has_float

-- what a return takes is the method's result
abbrev pub is_result : Option ValueKind → Operands → Bool
is_result None takes = is_nothing takes
is_result (Some kind) takes = is_one kind takes

-- Control that goes on finds an instruction, and control that returns has the result.
abbrev pub ends_well : Body → ℕ → Flow → Operands → Bool
ends_well body pc flows.Next takes = is_some (next_place body.code pc)
ends_well body pc flows.Branch takes = is_some (next_place body.code pc)
ends_well body pc flows.Return takes = is_result body.result takes
ends_well body pc _ takes = true

abbrev pub is_sound_after : Body → OpRow → Instr → Option Shape → Bool
is_sound_after body row instr None = false
is_sound_after body row instr (Some after) =
    list_all (accepts body.code body.frames after) (targets_by row.flow body.code instr)
    && ends_well body instr.pc row.flow row.takes

-- There is a shape, each handler accepts its locals, and what the instruction leaves is accepted where control goes.
abbrev pub is_sound : Body → OpRow → Instr → Option Shape → Bool
is_sound body row instr None = false
is_sound body row instr (Some shape) =
    list_all (catches body.code body.frames instr.pc shape.locals) body.table
    && is_sound_after body row instr (left body.class body.limits.stack row instr shape)

-- the first cause that lies in what the instruction names
unfoldable pub named_cause : Body → ℕ → Instr → OpRow → Option Cause
named_cause body pc instr row =
    unless (not (uses_float body.class row instr || is_float_frame (frame_at body.code body.frames pc))) FloatUsed
    <|> unless (not (has_unknown_site body.class row instr)) UnknownBootstrap
    <|> unless (list_all (begins body.code) (targets_by row.flow body.code instr)) BadJump

-- the first cause that holds of an instruction that decodes
unfoldable pub cause_of : Body → Point → Instr → OpRow → Option Cause
cause_of body point instr row =
    named_cause body point.pc instr row <|> unless (is_sound body row instr (shape_before body point)) BadFrame

abbrev pub by_decoded : Body → Point → Result (Instr × OpRow) Cause → Option Cause
by_decoded body point (Ok found) = cause_of body point found.0 found.1
by_decoded body point (Err cause) = Some cause

-- the first cause that holds of the instruction at a point
unfoldable pub cause_at : Body → Point → Option Cause
cause_at body point = by_decoded body point (decoded body.code point.pc)

-- the offsets of frames at which no instruction begins
unfoldable pub strays : List ℕ → List Written → List ℕ
strays code frames = map (λ w. w.at) (filter (λ w. not (begins code w.at)) frames)

pub data IsMisfit (body : Body) : ℕ → Cause → Type 0 where
  at_instruction : (n : ℕ) (p : Point) (cause : Cause) → point_of body n ≡ Some p → cause_at body p ≡ Some cause → IsMisfit body p.pc cause
  at_no_instruction : (pc : ℕ) → Contains (strays body.code body.frames) pc → IsMisfit body pc BadFrame

abbrev pub BodyFits : Body → Type 0
BodyFits body = (pc : ℕ) (cause : Cause) → IsMisfit body pc cause → ⊥

-- no misfit is at a lesser pc
pub record IsFirstMisfit (body : Body) (pc : ℕ) (cause : Cause) : Type 0 where
  pub misfit : IsMisfit body pc cause
  pub first : (other : ℕ) (of_other : Cause) → IsMisfit body other of_other → pc ≤ other
