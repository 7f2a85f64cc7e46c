-- Where an exception leads that leaves a frame.
use Rattle.std.specs.Prelude.{◌≡◌, ℕ, List, [], ◌∷◌, Option}
use Rattle.class_model.specs.declared.identifiers.ClassId.{ClassId}
use Rattle.jvm_heap.specs.declared.slot.Slot.{Slot}
use Rattle.jvm_heap.specs.declared.slot.Slot.TheVariants.{Ref}
use Rattle.jvm_heap.specs.Operands.{with_slots, pushed}
use Rattle.jvm_model.specs.Plans.{Oracle, Plan, end_of}
use Rattle.jvm_model.specs.States.{State, Shared, MethodFrame, Frame}
use Rattle.jvm_model.specs.Frames.{Move, unwound, at_handler}
use Rattle.jvm_state.specs.Moves.{move_of}
use Rattle.jvm_invoke.specs.declared.unwinding.Left.{Left}
use Rattle.jvm_invoke.specs.declared.unwinding.Left.TheVariants as lefts

-- a move, or an exception that goes on through the frames below
abbrev pub leads_on : Oracle → (ClassId → List ℕ) → Left → State → Move
leads_on oracle named (lefts.Moves move) s = move_of move s
leads_on oracle named (lefts.Passes o class) s = end_of oracle (unwound s.frames s.shared o (named class))

-- where the exception goes on, the frames below are as they were
abbrev pub KeepsFrames : Left → State → State → Type 0
KeepsFrames (lefts.Moves move) old new = Unit {0}
KeepsFrames (lefts.Passes o class) old new = new.frames ≡ old.frames

-- a method that goes on at a handler, with the exception alone on its stack
abbrev pub caught_at : MethodFrame → List Frame → Shared → ℕ → ℕ → Plan Move
caught_at f frames s o handler = at_handler f frames s handler (pushed (Ref o) (with_slots f.operands []))
