-- Code that fits by a family of shapes, one for each instruction (JVMS 4.10.1). Where there is such a family the code
-- fits, so that its check asks for no more.
use Rattle.std.specs.Prelude.{◌≡◌, ℕ, ◌<◌, true, false, [], ◌∷◌, length, Contains, Some, Ok}
use Rattle.jvm_tables.specs.declared.code.Instr.{Instr}
use Rattle.jvm_tables.specs.declared.instruction.OpRow.{OpRow}
use Rattle.class_model.specs.declared.attribute_forms.Handler.{Handler}
use Rattle.class_verify.specs.declared.frames.Written.{Written}
use Rattle.class_verify.specs.declared.kinds.Kind.TheVariants as kinds
use Rattle.class_verify.specs.declared.shape.Shape.{Shape}
use Rattle.class_verify.specs.Bodies.{Body}
use Rattle.class_verify.specs.Decoded.{decoded}
use Rattle.class_verify.specs.Effects.{left}
use Rattle.class_verify.specs.Floats.{uses_float}
use Rattle.class_verify.specs.Frames.{frame_at}
use Rattle.class_verify.specs.Kinds.{all_fit}
use Rattle.class_verify.specs.LawsOfShapes.{IsFormedBody}
use Rattle.class_verify.specs.Misfits.{BodyFits, ends_well}
use Rattle.class_verify.specs.Places.{next_place, begins}
use Rattle.class_verify.specs.Shapes.{shape_fits}
use Rattle.class_code.specs.Sites.{has_unknown_site}
use Rattle.class_code.specs.Control.{covers, falls, targets_by}

-- the file writes a frame
abbrev pub IsFramed : Body → ℕ → Type 0
IsFramed body pc = (w : Written) × (frame_at body.code body.frames pc ≡ Some w)

-- an instruction begins at a target, with a frame that takes in what is left
pub record IsTarget (body : Body) (shapes : ℕ → Shape) (after : Shape) (target : ℕ) : Type 0 where
  pub begun : begins body.code target ≡ true
  pub framed : IsFramed body target
  pub fits : shape_fits after (shapes target) ≡ true

-- a handler has a frame of the thrown reference alone, which takes in the locals
pub record IsHandler (body : Body) (shapes : ℕ → Shape) (pc : ℕ) (h : Handler) : Type 0 where
  pub framed : IsFramed body h.handler
  pub thrown : (shapes h.handler).stack ≡ kinds.Reference ∷ []
  pub locals : all_fit (shapes pc).locals (shapes h.handler).locals ≡ true

-- The rules at an instruction. Where control doesn't go on from it, the file writes a frame at the next one.
pub record IsRight (body : Body) (shapes : ℕ → Shape) (pc : ℕ) : Type 0 where
  pub instr : Instr
  pub row : OpRow
  pub after : Shape
  pub decodes : decoded body.code pc ≡ Ok (instr, row)
  pub no_float : uses_float body.class row instr ≡ false
  pub known_site : has_unknown_site body.class row instr ≡ false
  pub leaves : left body.class body.limits.stack row instr (shapes pc) ≡ Some after
  pub targets : (target : ℕ) → Contains (targets_by row.flow body.code instr) target → IsTarget body shapes after target
  pub handlers : (h : Handler) → Contains body.table h → covers pc h ≡ true → IsHandler body shapes pc h
  pub ends : ends_well body pc row.flow row.takes ≡ true
  pub goes_on : (next : ℕ) → next_place body.code pc ≡ Some next → falls row.flow ≡ true → shape_fits after (shapes next) ≡ true
  pub resumes : (next : ℕ) → next_place body.code pc ≡ Some next → falls row.flow ≡ false → IsFramed body next

-- a shape for each instruction, also where control never comes: the frame's where one stands, and at the first one that
-- into which the method's own fits
pub record IsFamily (body : Body) (shapes : ℕ → Shape) : Type 0 where
  pub some : 0 < length body.code
  pub first : Shape
  pub begins_with : body.first ≡ Some first
  pub first_fits : shape_fits first (shapes 0) ≡ true
  pub frames : (pc : ℕ) (w : Written) → frame_at body.code body.frames pc ≡ Some w → (w.has_float ≡ false) × (w.shape ≡ Some (shapes pc))
  pub placed : (w : Written) → Contains body.frames w → begins body.code w.at ≡ true
  pub each : (pc : ℕ) → begins body.code pc ≡ true → IsRight body shapes pc

abbrev pub EachFamilyFits : Type 0
EachFamilyFits = (body : Body) (shapes : ℕ → Shape) → IsFormedBody body → IsFamily body shapes → BodyFits body
