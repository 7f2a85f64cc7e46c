-- How frames end and go on: exceptions, results, and the start of methods and natives (JVMS 2.6.4, 2.6.5, 2.10).
use Rattle.std.specs.Prelude.{ℕ, suc, ◌+◌, ◌-◌, nat_lt, nat_le, Bool, true, false, ◌&&◌, List, [], ◌∷◌, ◌++◌, length, reverse, replicate, codes, Option, Some, None, option_map, option_and_then, if◌then◌else◌}
use Rattle.jvm_tables.specs.declared.instruction.ValueKind.{ValueKind}
use Rattle.jvm_tables.specs.declared.instruction.ValueKind.TheVariants as values
use Rattle.class_model.specs.declared.identifiers.MemberRef.{MemberRef}
use Rattle.class_code.specs.Rows.{MethodRow, Catch}
use Rattle.jvm_heap.specs.declared.slot.Slot.{Slot}
use Rattle.jvm_heap.specs.declared.slot.Slot.TheVariants.{Top, Int, Long, Ref}
use Rattle.jvm_heap.specs.Operands.{Operands, with_slots, pushed, ValueOf, taken}
use Rattle.jvm_heap.specs.Objects.{throwable, text}
use Rattle.jvm_heap.specs.Heaps.{empty, allocated}
use Rattle.native_model.specs.declared.budget.Budget.{Budget}
use Rattle.native_model.specs.declared.budget.Budget.TheVariants as budgets
use Rattle.native_model.specs.Worlds.{NamedHeap, World, with_heap, Reference}
use Rattle.native_model.specs.Thrown.{Thrown}
use Rattle.native_model.specs.Answers as natives
use Rattle.native_model.specs.Answers.{Progress, after_callback}
use Rattle.jvm_model.specs.Plans.{Plan, ends, asks, after, code_of, below}
use Rattle.jvm_model.specs.States.{MethodFrame, NativeFrame, Frame, of_method, of_native, forwarding, adapting, initialising, Shared, State, state, with_world, with_operands, at_pc}
use Rattle.jvm_model.specs.Attempts.{Tried, fine, raises, runs_out, is_stuck, Attempt}

-- how a run ends: with a result, with an exception by number, or with a budget that is spent
pub data Ending : Type 0 where
  gave : Option Slot → Ending
  threw : ℕ → Ending
  spent : Budget → Ending

pub data Need : Type 0 where
  file_at : Reference → List ℕ → Need
  names_below : Reference → Need

-- Where a step leads. It is stuck where a state meets what verification excludes.
pub data Move : Type 0 where
  goes : State → Move
  finishes : Ending → World → Move
  needs : Need → State → Move
  stuck : Move

-- what goes on with a result
abbrev pub Onward : Type 0
Onward = Shared → Option Slot → Plan Move

-- Where a budget is spent nothing is left of the objects.
abbrev pub without_objects : World → World
without_objects w = with_heap empty w

abbrev pub runs_dry : Budget → Shared → Plan Move
runs_dry b s = ends (finishes (spent b) (without_objects s.world))

-- exceptions

abbrev pub in_heap : NamedHeap → Shared → Shared
in_heap h s = with_world (with_heap h s.world) s

-- the number of the object that is made behind the next one
abbrev pub number_behind_next : NamedHeap → ℕ
number_behind_next h = length h.objects + 2

abbrev pub message_made : List ℕ → ℕ × NamedHeap → Option (ℕ × NamedHeap)
message_made units made = option_map (λ m. (made.0, m.1)) (allocated (text units) made.1)

-- an exception, and behind it its message
abbrev pub exception_with : List ℕ → NamedHeap → Option (List ℕ) → Option (ℕ × NamedHeap)
exception_with class h None = allocated (throwable class [] 0 0) h
exception_with class h (Some units) =
    option_and_then (message_made units) (allocated (throwable class [] (number_behind_next h) 0) h)

abbrev pub exception_made : Thrown → NamedHeap → Option (ℕ × NamedHeap)
exception_made t h = exception_with t.class h t.message

abbrev pub covers : ℕ → Catch → Bool
covers pc c = nat_le c.start pc && nat_lt pc c.end

-- what is caught is of the class, and where none is named all is; an absent class catches nothing
abbrev pub if_caught : List ℕ → Option (List ℕ) → Plan Move → Plan Move → Plan Move
if_caught class None caught past = caught
if_caught class (Some name) caught past = asks (below class name) (λ is. if is then caught else past)

-- the first range of the table that covers the pc and catches the class (JVMS 2.10)
abbrev pub first_handler : List ℕ → ℕ → List Catch → (ℕ → Plan Move) → Plan Move → Plan Move
first_handler class pc [] caught past = past
first_handler class pc (c ∷ catches) caught past =
    if covers pc c then if_caught class c.class (caught c.handler) (first_handler class pc catches caught past)
    else first_handler class pc catches caught past

-- the exception alone on the stack, at the handler
abbrev pub at_handler : MethodFrame → List Frame → Shared → ℕ → Option Operands → Plan Move
at_handler f frames s handler None = ends stuck
at_handler f frames s handler (Some operands) =
    ends (goes (state s (of_method (at_pc handler (with_operands operands f)) ∷ frames)))

abbrev pub caught_in : MethodFrame → List Frame → Shared → ℕ → List ℕ → Plan Move → Option MethodRow → Plan Move
caught_in f frames s o class past None = ends stuck
caught_in f frames s o class past (Some row) =
    first_handler class f.pc row.catches (λ handler. at_handler f frames s handler (pushed (Ref o) (with_slots f.operands []))) past

abbrev pub marked_failed : List ℕ → Shared → Shared
marked_failed class s = record { world = s.world; statics = s.statics; initialised = (class, true) ∷ s.initialised }

abbrev pub initializer_error : List ℕ
initializer_error = codes "java/lang/ExceptionInInitializerError"

-- The class has failed. What is no Error becomes the cause of an ExceptionInInitializerError (JVMS 5.5, step 10).
abbrev pub wrapped : Shared → (Shared → ℕ → List ℕ → Plan Move) → Option (ℕ × NamedHeap) → Plan Move
wrapped s past None = runs_dry budgets.Cells s
wrapped s past (Some made) = past (in_heap made.1 s) made.0 initializer_error

abbrev pub failed_by : Shared → ℕ → List ℕ → (Shared → ℕ → List ℕ → Plan Move) → Bool → Plan Move
failed_by s o class past true = past s o class
failed_by s o class past false = wrapped s past (allocated (throwable initializer_error [] 0 o) s.world.heap)

-- An exception of a class leaves frame after frame until one catches it.
unfoldable pub unwound : List Frame → Shared → ℕ → List ℕ → Plan Move
unwound [] s o class = ends (finishes (threw o) s.world)
unwound (of_method f ∷ frames) s o class = asks (code_of f.method) (λ row. caught_in f frames s o class (unwound frames s o class) row)
unwound (of_native n ∷ frames) s o class = unwound frames s o class
unwound (forwarding a method arguments ∷ frames) s o class = unwound frames s o class
unwound (adapting a ∷ frames) s o class = unwound frames s o class
unwound (initialising i ∷ frames) s o class =
    asks (below class (codes "java/lang/Error")) (λ is. failed_by (marked_failed i.class s) o class (λ t p c. unwound frames t p c) is)

abbrev pub thrown_in : List Frame → Shared → List ℕ → Option (ℕ × NamedHeap) → Plan Move
thrown_in frames s class None = runs_dry budgets.Cells s
thrown_in frames s class (Some made) = unwound frames (in_heap made.1 s) made.0 class

-- an exception is made and thrown
unfoldable pub raised : List Frame → Shared → Thrown → Plan Move
raised frames s t = thrown_in frames s t.class (exception_made t s.world.heap)

-- how an attempt goes on, where what it throws leaves these frames
abbrev pub settled : {A : Type 0} → List Frame → Shared → (A → Plan Move) → Tried A → Plan Move
settled frames s next (fine a) = next a
settled frames s next (raises t) = raised frames s t
settled frames s next (runs_out b) = runs_dry b s
settled frames s next is_stuck = ends stuck

abbrev pub attempted : {A : Type 0} → List Frame → Shared → Attempt A → (A → Plan Move) → Plan Move
attempted frames s plan next = after plan (settled frames s next)

-- frames of methods and natives

abbrev pub is_counted : Frame → Bool
is_counted (of_method f) = true
is_counted (of_native n) = true
is_counted (forwarding a method arguments) = true
is_counted _ = false

-- how many frames are counted
abbrev pub counted : List Frame → ℕ
counted [] = 0
counted (f ∷ frames) = if is_counted f then suc (counted frames) else counted frames

abbrev pub most_frames : ℕ
most_frames = 1024

-- there is room for one counted frame more
abbrev pub if_room : List Frame → Shared → Plan Move → Plan Move
if_room frames s next = if nat_lt (counted frames) most_frames then next else runs_dry budgets.Frames s

-- arguments in locals: a long and its second slot
abbrev pub laid_out : List Slot → List Slot
laid_out [] = []
laid_out (Long n ∷ slots) = Long n ∷ Top ∷ laid_out slots
laid_out (slot ∷ slots) = slot ∷ laid_out slots

abbrev pub first_locals : ℕ → List Slot → List Slot
first_locals most slots = laid_out slots ++ replicate (most - length (laid_out slots)) Top

abbrev pub first_frame : MemberRef → MethodRow → List Slot → MethodFrame
first_frame method row arguments = record {
  method = method;
  pc = 0;
  next = 0;
  locals = first_locals row.max_locals arguments;
  operands = record { slots = []; limit = row.max_stack };
}

abbrev pub started_by : List Frame → Shared → MemberRef → List Slot → Option MethodRow → Plan Move
started_by frames s method arguments None = ends stuck
started_by frames s method arguments (Some row) =
    if_room frames s (ends (goes (state s (of_method (first_frame method row arguments) ∷ frames))))

-- a method of the program begins
unfoldable pub started : List Frame → Shared → MemberRef → List Slot → Plan Move
started frames s method arguments = asks (code_of method) (λ row. started_by frames s method arguments row)

-- a value on the operand stack
abbrev pub given_slot : Slot → Operands → Option Operands
given_slot Top o = None
given_slot (Long n) o = option_and_then (pushed Top) (pushed (Long n) o)
given_slot slot o = pushed slot o

abbrev pub given_back : Option Slot → Operands → Option Operands
given_back None o = Some o
given_back (Some slot) o = given_slot slot o

abbrev pub resumed : MethodFrame → List Frame → Shared → Option Operands → Plan Move
resumed f frames s None = ends stuck
resumed f frames s (Some operands) = ends (goes (state s (of_method (at_pc f.next (with_operands operands f)) ∷ frames)))

-- a method goes on behind its present instruction, with a result where there is one
abbrev pub goes_on : MethodFrame → List Frame → Shared → Option Slot → Plan Move
goes_on f frames s v = resumed f frames s (given_back v f.operands)

-- A native ends, and its result goes on; or it waits, in a frame of its own.
abbrev pub answered : List Frame → Shared → (Plan Move → Plan Move) → NativeFrame → Onward → natives.Answer → Plan Move
answered frames s room n onward (natives.gives v w) = onward (with_world w s) v
answered frames s room n onward (natives.throws t) = raised frames s t
answered frames s room n onward (natives.calls_back method slots) = room (ends (goes (state s (of_native n ∷ frames))))
answered frames s room n onward (natives.needs_file reference path) = ends (needs (file_at reference path) (state s (of_native n ∷ frames)))
answered frames s room n onward (natives.needs_names reference) = ends (needs (names_below reference) (state s (of_native n ∷ frames)))
answered frames s room n onward (natives.spends b) = runs_dry b s

abbrev pub answered_or_stuck : List Frame → Shared → (Plan Move → Plan Move) → NativeFrame → Onward → Option natives.Answer → Plan Move
answered_or_stuck frames s room n onward None = ends stuck
answered_or_stuck frames s room n onward (Some answer) = answered frames s room n onward answer

-- values of kinds that are taken, the first kind on top, before some slots
abbrev pub slot_of : (k : ValueKind) → ValueOf k → Slot
slot_of values.Int n = Int n
slot_of values.Long n = Long n
slot_of values.Reference n = Ref n

abbrev pub taken_before : List ValueKind → List Slot → Operands → Option (List Slot × Operands)
taken_before [] slots o = Some (slots, o)
taken_before (k ∷ kinds) slots o = option_and_then (λ found. taken_before kinds (slot_of k found.0 ∷ slots) found.1) (taken k o)

-- arguments of kinds, the last on top, in order
abbrev pub arguments_taken : List ValueKind → Operands → Option (List Slot × Operands)
arguments_taken kinds o = taken_before (reverse kinds) [] o
