-- What holds at each instruction of code that fits: what a machine meets there.
use Rattle.std.specs.Prelude.{◌≡◌, ℕ, ◌≤◌, true, false, List, [], ◌∷◌, length, Contains, Some, Ok}
use Rattle.jvm_tables.specs.declared.code.Instr.{Instr}
use Rattle.jvm_tables.specs.declared.instruction.Flow.TheVariants.{Return}
use Rattle.jvm_tables.specs.declared.instruction.OpRow.{OpRow}
use Rattle.class_model.specs.declared.attribute_forms.Handler.{Handler}
use Rattle.class_verify.specs.declared.kinds.Kind.{Kind}
use Rattle.class_verify.specs.declared.kinds.Kind.TheVariants as kinds
use Rattle.class_verify.specs.declared.shape.Shape.{Shape}
use Rattle.class_verify.specs.Bodies.{Body, HasShape}
use Rattle.class_verify.specs.Decoded.{decoded}
use Rattle.class_verify.specs.Effects.{left}
use Rattle.class_verify.specs.Floats.{uses_float}
use Rattle.class_verify.specs.Kinds.{all_fit}
use Rattle.class_verify.specs.Misfits.{BodyFits, is_result}
use Rattle.class_verify.specs.Places.{next_place}
use Rattle.class_verify.specs.Shapes.{shape_fits}
use Rattle.class_code.specs.Control.{covers, falls, targets_by}
use Rattle.class_code.specs.Sites.{has_unknown_site}

-- An instruction begins at the pc, and a shape fits the one before it.
abbrev pub IsMet : Body → ℕ → Shape → Type 0
IsMet body pc shape = (there : Shape) × HasShape body pc there × (shape_fits shape there ≡ true)

-- The shape before a handler is the thrown reference alone, over locals into which these fit.
abbrev pub IsCaught : Body → ℕ → List Kind → Type 0
IsCaught body pc locals =
    (there : Shape) × HasShape body pc there × (there.stack ≡ kinds.Reference ∷ []) × (all_fit locals there.locals ≡ true)

-- An instruction with its row that finds what it takes in the shape before it, and what it leaves.
pub record IsSafe (body : Body) (pc : ℕ) (shape : Shape) (instr : Instr) (row : OpRow) (after : Shape) : Type 0 where
  pub decodes : decoded body.code pc ≡ Ok (instr, row)
  pub no_float : uses_float body.class row instr ≡ false
  pub known_site : has_unknown_site body.class row instr ≡ false
  pub leaves : left body.class body.limits.stack row instr shape ≡ Some after
  pub stack : length after.stack ≤ body.limits.stack
  pub targets : (target : ℕ) → Contains (targets_by row.flow body.code instr) target → IsMet body target after
  pub next : falls row.flow ≡ true → (next : ℕ) × (next_place body.code pc ≡ Some next) × IsMet body next after
  pub handlers : (h : Handler) → Contains body.table h → covers pc h ≡ true → IsCaught body h.handler shape.locals
  pub returns : row.flow ≡ Return → is_result body.result row.takes ≡ true

-- In code that fits, at each instruction that has a shape: it decodes, uses no float, names no unknown call site, and
-- finds there what it takes. What it leaves is within the limits and fits the shape at each target and at the next instruction where control goes on, each of which
-- begins an instruction. Each handler whose range has the pc accepts the locals, and a return has the method's result.
abbrev pub EachIsSafe : Type 0
EachIsSafe =
    (body : Body) (pc : ℕ) (shape : Shape) → BodyFits body → HasShape body pc shape → (instr : Instr) × (row : OpRow) × (after : Shape) × IsSafe body pc shape instr row after

-- The same of an instruction that is decoded already.
abbrev pub EachGivenIsSafe : Type 0
EachGivenIsSafe =
    (body : Body) (pc : ℕ) (shape : Shape) (instr : Instr) (row : OpRow) → BodyFits body → HasShape body pc shape → decoded body.code pc ≡ Ok (instr, row)
    → (after : Shape) × IsSafe body pc shape instr row after
