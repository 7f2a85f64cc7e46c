-- The step of the machine (JVMS 2.11): one instruction, or one callback of a native.
use Rattle.std.specs.Prelude.{ℕ, ◌==◌, List, [], ◌∷◌, Option, Some, None, option_map, if◌then◌else◌}
use Rattle.jvm_tables.specs.declared.instruction.OpRow.{OpRow}
use Rattle.jvm_tables.specs.Opcodes.{row_of}
use Rattle.class_model.specs.declared.identifiers.MemberRef.{MemberRef}
use Rattle.class_code.specs.Rows.{Line, MethodRow}
use Rattle.jvm_heap.specs.declared.slot.Slot.{Slot}
use Rattle.jvm_heap.specs.Heaps.{object_at}
use Rattle.native_model.specs.Worlds.{NamedObject, class_of}
use Rattle.native_model.specs.Answers.{Last, file, names, supplied}
use Rattle.native_model.specs.Answers as natives
use Rattle.jvm_model.specs.declared.action.Action.{Action}
use Rattle.jvm_model.specs.Plans.{Plan, ends, asks, code_of}
use Rattle.jvm_model.specs.Actions.{action_of}
use Rattle.jvm_model.specs.Working.{Work, work, Step, next, jump, throw, worked}
use Rattle.jvm_model.specs.States.{MethodFrame, NativeFrame, Frame, of_method, of_native, forwarding, adapting, initialising, Shared, State, state, with_world, with_next, at_pc}
use Rattle.jvm_model.specs.Calls.{virtual_callee}
use Rattle.jvm_model.specs.Frames.{Move, goes, stuck, raised, attempted, unwound, goes_on}
use Rattle.jvm_model.specs.Arrays.{narrowed_by}
use Rattle.jvm_model.specs.Lambdas.{result_of}
use Rattle.jvm_model.specs.Driving.{answer_of, native_begun, native_further, opened, static_begun_of, call_begun, delivered}
use Rattle.jvm_model.specs.Instructions.{Effect, results, jumps, enters, statically, opens, runs, returns, rethrows, effect}

-- the pc of the first line
abbrev pub first_pc : List Line → ℕ
first_pc [] = 0
first_pc (line ∷ lines) = line.pc

-- the line at a pc, and the pc of the one behind it
unfoldable pub line_at : ℕ → List Line → Option (Line × ℕ)
line_at pc [] = None
line_at pc (line ∷ lines) = if line.pc == pc then Some (line, first_pc lines) else line_at pc lines

abbrev pub frame_with : Work → MethodFrame → MethodFrame
frame_with w f = record { method = f.method; pc = f.pc; next = f.next; locals = w.locals; operands = w.operands }

abbrev pub moved : List Frame → Shared → ℕ → MethodFrame → Plan Move
moved frames s pc f = ends (goes (state s (of_method (at_pc pc f) ∷ frames)))

-- an instruction that stays in its frame
abbrev pub stayed : List Frame → Shared → MethodFrame → Option Step → Plan Move
stayed frames s f None = ends stuck
stayed frames s f (Some (next w)) = moved frames s f.next (frame_with w f)
stayed frames s f (Some (jump pc w)) = moved frames s pc (frame_with w f)
stayed frames s f (Some (throw t w)) = raised (of_method (frame_with w f) ∷ frames) s t

abbrev pub narrowed_result : MemberRef → Option Slot → Option Slot
narrowed_result method v = option_map (narrowed_by (result_of method.descriptor)) v

abbrev pub class_at : Option NamedObject → List ℕ
class_at None = []
class_at (Some o) = class_of o

-- what an effect leads to, where a frame stands before others
abbrev pub effected : List Frame → Shared → MethodFrame → Effect → Plan Move
effected frames s f (results w v g) = goes_on g frames (with_world w s) v
effected frames s f (jumps pc g) = moved frames s pc g
effected frames s f (enters callee slots g) = call_begun (delivered (of_method g ∷ frames)) (of_method g ∷ frames) s slots callee
effected frames s f (statically target slots g) = static_begun_of (delivered (of_method g ∷ frames)) (of_method g ∷ frames) s slots target
effected frames s f (opens class pending g) = opened (delivered (of_method g ∷ frames)) (of_method g ∷ frames) s class pending
effected frames s f (runs called slots g) = native_begun (delivered (of_method g ∷ frames)) (of_method g ∷ frames) s called slots
effected frames s f (returns v) = delivered frames s (narrowed_result f.method v)
effected frames s f (rethrows o) = unwound (of_method f ∷ frames) s o (class_at (object_at o s.world.heap))

abbrev pub by_action : List Frame → Shared → MethodFrame → OpRow → Line → Option Action → Plan Move
by_action frames s f row line (Some action) = stayed frames s f (worked action (work f.locals f.operands))
by_action frames s f row line None = attempted (of_method f ∷ frames) s (effect row.operation line f s.world) (effected frames s f)

abbrev pub by_row : List Frame → Shared → MethodFrame → Line → Option OpRow → Plan Move
by_row frames s f line None = ends stuck
by_row frames s f line (Some row) = by_action frames s f row line (action_of row line)

abbrev pub at_line : List Frame → Shared → MethodFrame → Option (Line × ℕ) → Plan Move
at_line frames s f None = ends stuck
at_line frames s f (Some found) = by_row frames s (with_next found.1 f) found.0 (row_of found.0.op)

abbrev pub fetched : List Frame → Shared → MethodFrame → Option MethodRow → Plan Move
fetched frames s f None = ends stuck
fetched frames s f (Some row) = at_line frames s f (line_at f.pc row.lines)

-- a virtual call by a frame that stays below it
abbrev pub called_on : Frame → List Frame → Shared → MemberRef → List Slot → Plan Move
called_on frame frames s method slots =
    attempted (frame ∷ frames) s (virtual_callee method slots s.world)
    (λ callee. call_begun (delivered (frame ∷ frames)) (frame ∷ frames) s slots callee)

-- a native that has a frame calls back
abbrev pub calls_back : NativeFrame → List Frame → Shared → Option natives.Answer → Plan Move
calls_back n frames s (Some (natives.calls_back method slots)) = called_on (of_native n) frames s method slots
calls_back n frames s _ = ends stuck

unfoldable pub step_of : List Frame → Shared → Plan Move
step_of [] s = ends stuck
step_of (of_method f ∷ frames) s = asks (code_of f.method) (λ row. fetched frames s f row)
step_of (of_native n ∷ frames) s = calls_back n frames s (answer_of n.called n.arguments n.progress s.world)
step_of (forwarding a method slots ∷ frames) s = called_on (forwarding a method slots) frames s method slots
step_of (adapting a ∷ frames) s = ends stuck
step_of (initialising i ∷ frames) s = ends stuck

abbrev pub step : State → Plan Move
step s = step_of s.frames s.shared

-- a native goes on by what it needed
unfoldable pub supplied_to : List Frame → Last → Shared → Plan Move
supplied_to (of_native n ∷ frames) given s = native_further (delivered frames) frames s n (supplied given n.progress)
supplied_to _ given s = ends stuck

abbrev pub supply : Last → State → Plan Move
supply given s = supplied_to s.frames given s.shared
