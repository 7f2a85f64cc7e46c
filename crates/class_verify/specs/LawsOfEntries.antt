-- The shape as a method begins (JVMS 4.10.1.6).
use Rattle.std.specs.Prelude.{◌≡◌, ◌≤◌, List, [], length, flat_map, Some}
use Rattle.jvm_tables.specs.declared.instruction.ValueKind.{ValueKind}
use Rattle.class_model.specs.declared.class_file.Class.{Class}
use Rattle.class_model.specs.declared.class_file.Member.{Member}
use Rattle.class_model.specs.Shape.{descriptor_text}
use Rattle.class_verify.specs.declared.frames.Limits.{Limits}
use Rattle.class_verify.specs.declared.shape.Shape.{Shape}
use Rattle.class_verify.specs.Bodies.{Body}
use Rattle.class_verify.specs.Frames.{first_kinds}
use Rattle.class_verify.specs.Padding.{padded}
use Rattle.class_verify.specs.Kinds.{slots}
use Rattle.class_verify.specs.Laws.{IsMet}
use Rattle.class_verify.specs.Misfits.{BodyFits}
use Rattle.class_code.specs.Codes.{CodeParts}
use Rattle.class_verify.specs.Verified.{limits_of, body_of}

-- In code that fits there is a first shape, and it fits the one at the first instruction, where the file may write a
-- frame that asks for less.
abbrev pub EachBegins : Type 0
EachBegins = (body : Body) → BodyFits body → (first : Shape) × (body.first ≡ Some first) × IsMet body 0 first

-- nothing on the stack, and in the locals the slots of values of these kinds, the others being Top
pub record IsEntry (limits : Limits) (kinds : List ValueKind) (shape : Shape) : Type 0 where
  pub stack : shape.stack ≡ []
  pub locals : shape.locals ≡ padded limits.locals (flat_map slots kinds)
  pub room : length (flat_map slots kinds) ≤ limits.locals

-- The first shape of a method has `this`, where the method is no static one, and the parameters.
abbrev pub EachEntryIsTold : Type 0
EachEntryIsTold =
    (class : Class) (m : Member) (c : CodeParts) (shape : Shape) → (body_of class m c).first ≡ Some shape
    → IsEntry (limits_of c) (first_kinds m.flags (descriptor_text class.pool m)) shape
