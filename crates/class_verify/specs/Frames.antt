-- The frames that a stack map writes (JVMS 4.7.4).
use Rattle.std.specs.Prelude.{ℕ, ◌+◌, ◌-◌, Bool, ◌||◌, ◌==◌, nat_lt, nat_le, List, [], ◌∷◌, ◌++◌, length, take, flat_map, reverse, find, Option, Some, None, if◌then◌else◌}
use Rattle.std.specs.List.{list_any}
use Rattle.jvm_tables.specs.declared.instruction.ValueKind.{ValueKind}
use Rattle.jvm_tables.specs.declared.instruction.ValueKind.TheVariants as values
use Rattle.class_model.specs.declared.stack_map.StackFrame.{StackFrame}
use Rattle.class_model.specs.declared.stack_map.FrameType.{FrameType}
use Rattle.class_model.specs.Shape.{is_static}
use Rattle.class_verify.specs.declared.kinds.Kind.{Kind}
use Rattle.class_verify.specs.declared.kinds.Kind.TheVariants as kinds
use Rattle.class_verify.specs.declared.frames.Limits.{Limits}
use Rattle.class_verify.specs.declared.frames.Written.{Written}
use Rattle.class_verify.specs.declared.shape.Shape.{Shape}
use Rattle.class_code.specs.Types.{parameter_kinds}
use Rattle.class_verify.specs.Padding.{padded}

-- a Float or a Double
abbrev pub is_float : FrameType → Bool
is_float t = t.tag == 2 || t.tag == 3

-- the slots of a type that is no float; null and the uninitialised types are references
abbrev pub slots_of : FrameType → List Kind
slots_of t =
    if t.tag == 0 then kinds.Top ∷ []
    else if t.tag == 1 then kinds.Int ∷ []
    else if t.tag == 4 then kinds.Long ∷ kinds.Top ∷ []
    else kinds.Reference ∷ []

unfoldable pub all_slots : List FrameType → List Kind
all_slots types = flat_map slots_of types

-- the type of a value
abbrev pub type_of : ValueKind → FrameType
type_of values.Int = record { tag = 1; index = 0 }
type_of values.Long = record { tag = 4; index = 0 }
type_of values.Reference = record { tag = 7; index = 0 }

-- the locals as a method begins: `this` of an instance method, and the parameters (JVMS 4.10.1.6)
abbrev pub own_kinds : ℕ → List ValueKind
own_kinds flags = if is_static flags then [] else values.Reference ∷ []

abbrev pub first_kinds : ℕ → List ℕ → List ValueKind
first_kinds flags descriptor = own_kinds flags ++ parameter_kinds descriptor

-- what types say of locals and stack, where these are within their limits
unfoldable pub shape_of : Limits → List FrameType → List FrameType → Option Shape
shape_of limits locals stack =
    if nat_le (length (all_slots locals)) limits.locals
    then (if nat_le (length (all_slots stack)) limits.stack
    then Some (record { stack = reverse (all_slots stack); locals = padded limits.locals (all_slots locals) })
    else None)
    else None

-- how many of the last locals a frame takes away: 251 less the tag of a chop frame
abbrev pub chopped : StackFrame → ℕ
chopped f = if nat_lt f.tag 248 then 0 else 251 - f.tag

-- the types of the locals before a frame that it keeps
unfoldable pub kept : StackFrame → List FrameType → List FrameType
kept f before = if f.tag == 255 then [] else take (length before - chopped f) before

-- the types of locals at a frame, given those before it
abbrev pub types_after : StackFrame → List FrameType → List FrameType
types_after f before = kept f before ++ f.locals

abbrev pub has_float : List FrameType → List FrameType → Bool
has_float locals stack = list_any is_float locals || list_any is_float stack

-- A frame whose locals have these types, and that takes away as many as there are or fewer. With Float or Double, or
-- past the limits, it tells no shape.
abbrev pub written : Limits → ℕ → Bool → List FrameType → List FrameType → Written
written limits at enough locals stack = record {
  at = at;
  has_float = has_float locals stack;
  shape = if has_float locals stack then None else if enough then shape_of limits locals stack else None;
}

-- The frames with their offsets, the first of them at least at `next`: an offset is the delta from there, and the next
-- frame is behind it.
unfoldable pub frames_from : Limits → ℕ → List FrameType → List StackFrame → List Written
frames_from limits next before [] = []
frames_from limits next before (f ∷ frames) =
    written limits (next + f.delta) (nat_le (chopped f) (length before)) (types_after f before) f.stack
    ∷ frames_from limits (next + f.delta + 1) (types_after f before) frames

-- the frame that the file writes for a place in the code
unfoldable pub frame_at : List ℕ → List Written → ℕ → Option Written
frame_at code frames pc = if nat_lt pc (length code) then find (λ w. w.at == pc) frames else None
