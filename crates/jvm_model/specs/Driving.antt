-- How calls begin and results go on, frame by frame.
use Rattle.std.specs.Prelude.{ℕ, zero, suc, ◌==◌, Bool, true, false, ◌||◌, List, [], ◌∷◌, codes, bytes_eq, Option, Some, None, slice_get, if◌then◌else◌}
use Rattle.jvm_tables.specs.Natives.{natives}
use Rattle.class_model.specs.declared.identifiers.MemberRef.{MemberRef}
use Rattle.class_model.specs.Descriptors.{FieldType}
use Rattle.class_model.specs.Shape.{has_flag}
use Rattle.class_index.specs.Naming.{Target, own_method, ClassFacts}
use Rattle.class_index.specs.Outlines.{interface_flag, abstract_flag}
use Rattle.jvm_heap.specs.declared.slot.Slot.{Slot}
use Rattle.jvm_heap.specs.declared.slot.Slot.TheVariants.{Ref}
use Rattle.jvm_heap.specs.Objects.{lambda}
use Rattle.jvm_heap.specs.Heaps.{object_at, allocated}
use Rattle.native_model.specs.declared.budget.Budget.TheVariants as budgets
use Rattle.native_model.specs.Worlds.{Origin, NamedObject, NamedHeap, World}
use Rattle.native_model.specs.Thrown.{null_pointer, incompatible_change, instantiation}
use Rattle.native_model.specs.Answers.{Progress, begun, after_callback}
use Rattle.native_model.specs.Answers as natives
use Rattle.native_model.specs.Table.{cases, native_answer}
use Rattle.jvm_model.specs.Plans.{Layout, Plan, ends, asks, layout_of, levels_of}
use Rattle.jvm_model.specs.States.{Called, native, concatenation, NativeFrame, Adaptation, gives_object, converts, Pending, nothing, reads, writes, makes, calls, constructs, Frame, of_method, of_native, forwarding, adapting, initialising, Shared, state}
use Rattle.jvm_model.specs.Attempts.{Attempt, gives, throws, or_stuck, ◌>>=◌}
use Rattle.jvm_model.specs.Types.{facts, is_instance, object_of, holds_or}
use Rattle.jvm_model.specs.Calls.{Callee, own, table_row, lambda_method, of_program, callee_of, virtual_callee, special_callee, static_target}
use Rattle.jvm_model.specs.Frames.{gave, Move, goes, finishes, stuck, Onward, runs_dry, in_heap, attempted, if_room, started, goes_on, answered_or_stuck}
use Rattle.jvm_model.specs.Concatenating.{parameter_types, concatenation_answer}
use Rattle.jvm_model.specs.Initialising.{static_value, with_static, object_by, initialised_further, initialised_by}
use Rattle.jvm_model.specs.Lambdas.{lambda_arguments, adaptation_of, converted}

-- natives

abbrev pub if_there : Option Slot → Attempt (Unit {0}) → Attempt (Unit {0})
if_there (Some (Ref zero)) rest = throws null_pointer
if_there _ rest = rest

-- arguments that may not be null
abbrev pub are_there : List ℕ → List Slot → Attempt (Unit {0})
are_there [] slots = gives tt
are_there (at ∷ places) slots = if_there (slice_get slots at) (are_there places slots)

-- an object is of the type of its parameter
abbrev pub fits_type : FieldType → Slot → World → Attempt (Unit {0})
fits_type t (Ref (suc n)) w = object_of (suc n) w >>= λ o. is_instance o t >>= holds_or incompatible_change
fits_type t _ w = gives tt

abbrev pub fit_types : List FieldType → List Slot → World → Attempt (Unit {0})
fit_types (t ∷ kinds) (slot ∷ slots) w = fits_type t slot w >>= λ fits. fit_types kinds slots w
fit_types _ _ w = gives tt

abbrev pub without_receiver : Bool → List Slot → List Slot
without_receiver false (slot ∷ slots) = slots
without_receiver is_static slots = slots

-- Null checks of all operands, then their classes.
abbrev pub arguments_checked : ℕ → List Slot → World → Attempt (Unit {0})
arguments_checked at slots w = do
  case ← or_stuck (slice_get cases at)
  stated ← or_stuck (slice_get natives at)
  there ← are_there case.wanted slots
  fit_types (parameter_types stated.descriptor) (without_receiver stated.is_static slots) w

-- what a native's frame answers
abbrev pub answer_of : Called → List Slot → Progress → World → Option natives.Answer
answer_of (native at) slots p w = native_answer at slots p w
answer_of (concatenation descriptor recipe constants) slots p w = Some (concatenation_answer descriptor recipe constants slots p w)

abbrev pub native_frame : Called → List Slot → Progress → NativeFrame
native_frame called slots p = record { called = called; arguments = slots; progress = p }

-- it begins: it has a frame only where it calls back
abbrev pub native_begun : Onward → List Frame → Shared → Called → List Slot → Plan Move
native_begun onward frames s called slots =
    answered_or_stuck frames s (if_room frames s) (native_frame called slots begun) onward (answer_of called slots begun s.world)

abbrev pub row_begun : Onward → List Frame → Shared → ℕ → List Slot → Plan Move
row_begun onward frames s at slots =
    attempted frames s (arguments_checked at slots s.world) (λ checked. native_begun onward frames s (native at) slots)

-- it goes on in its frame
abbrev pub native_further : Onward → List Frame → Shared → NativeFrame → Progress → Plan Move
native_further onward frames s n p =
    answered_or_stuck frames s (λ plan. plan) (native_frame n.called n.arguments p) onward (answer_of n.called n.arguments p s.world)

-- methods

-- a method of the program, or a native
abbrev pub begun_plainly : Onward → List Frame → Shared → List Slot → Callee → Plan Move
begun_plainly onward frames s slots (own method flags) = started frames s method slots
begun_plainly onward frames s slots (table_row at) = row_begun onward frames s at slots
begun_plainly onward frames s slots (lambda_method origin captured) = ends stuck

-- a result is adapted and goes on
abbrev pub adapted : Onward → List Frame → Adaptation → Onward
adapted onward frames (gives_object n) s v = onward s (Some (Ref n))
adapted onward frames (converts from to) s v =
    attempted frames s (converted from to v s.world) (λ done. onward (in_heap done.1 s) done.0)

-- new objects

abbrev pub allocated_by : List Frame → Shared → (Shared → ℕ → Plan Move) → Option (ℕ × NamedHeap) → Plan Move
allocated_by frames s next None = runs_dry budgets.Cells s
allocated_by frames s next (Some made) = next (in_heap made.1 s) made.0

abbrev pub object_made : List ℕ → List Frame → Shared → (Shared → ℕ → Plan Move) → Option Layout → Plan Move
object_made class frames s next None = ends stuck
object_made class frames s next (Some l) = allocated_by frames s next (allocated (object_by class l) s.world.heap)

-- an object, and then its `<init>`, whose result is the object
abbrev pub construction : Onward → List Frame → MemberRef → List ℕ → List Slot → Shared → ℕ → Plan Move
construction onward frames init caller slots s n =
    attempted (adapting (gives_object n) ∷ frames) s (special_callee caller init (Ref n ∷ slots) s.world)
    (λ callee. begun_plainly (adapted onward frames (gives_object n)) (adapting (gives_object n) ∷ frames) s (Ref n ∷ slots) callee)

abbrev pub static_given : Onward → Shared → Option Slot → Plan Move
static_given onward s None = ends stuck
static_given onward s (Some slot) = onward s (Some slot)

abbrev pub with_statics : MemberRef → Slot → Shared → Shared
with_statics field slot s = record { world = s.world; statics = with_static s.statics field slot; initialised = s.initialised }

-- what was pending is done, now that its class is initialised
unfoldable pub performed : Onward → List Frame → Pending → Shared → Plan Move
performed onward frames nothing s = onward s None
performed onward frames (reads field) s = static_given onward s (static_value s.statics field)
performed onward frames (writes field slot) s = onward (with_statics field slot s) None
performed onward frames (makes class) s =
    asks (layout_of class) (λ l. object_made class frames s (λ t n. onward t (Some (Ref n))) l)
performed onward frames (calls method flags slots) s =
    attempted frames s (of_program method flags) (λ callee. begun_plainly onward frames s slots callee)
performed onward frames (constructs class init caller slots) s =
    asks (layout_of class) (λ l. object_made class frames s (construction onward frames init caller slots) l)

-- a class is initialised, and then something is done
abbrev pub opened : Onward → List Frame → Shared → List ℕ → Pending → Plan Move
opened onward frames s class pending =
    asks (levels_of class) (λ levels. initialised_by levels frames (performed onward frames) pending s)

-- code makes no object of an abstract class, of an interface, and of mill/PathRef
abbrev pub is_unmakeable : List ℕ → ClassFacts → Bool
is_unmakeable name found =
    has_flag abstract_flag found.flags || has_flag interface_flag found.flags || bytes_eq name (codes "mill/PathRef")

abbrev pub if_makeable : Bool → Attempt (Unit {0})
if_makeable true = throws instantiation
if_makeable false = gives tt

abbrev pub is_makeable : List ℕ → Attempt (Unit {0})
is_makeable name = facts name >>= λ found. if_makeable (is_unmakeable name found)

abbrev pub static_begun_of : Onward → List Frame → Shared → List Slot → Target → Plan Move
static_begun_of onward frames s slots (own_method method flags) = opened onward frames s method.owner (calls method flags slots)
static_begun_of onward frames s slots target =
    attempted frames s (callee_of target) (λ callee. begun_plainly onward frames s slots callee)

-- invokestatic
abbrev pub static_begun : Onward → List Frame → Shared → MemberRef → List Slot → Plan Move
static_begun onward frames s method slots =
    attempted frames s (static_target method) (λ target. static_begun_of onward frames s slots target)

-- lambdas

abbrev pub is_lambda : Option NamedObject → Bool
is_lambda (Some (lambda origin captured)) = true
is_lambda _ = false

abbrev pub has_lambda : List Slot → World → Bool
has_lambda (Ref n ∷ slots) w = is_lambda (object_at n w.heap)
has_lambda _ w = false

-- A lambda's method that is found on another lambda has a frame, and its call counts as that of a native.
abbrev pub virtual_begun : Onward → List Frame → Adaptation → Shared → MemberRef → List Slot → Plan Move
virtual_begun onward frames a s method slots =
    if has_lambda slots s.world then if_room frames s (ends (goes (state s (forwarding a method slots ∷ frames))))
    else attempted (adapting a ∷ frames) s (virtual_callee method slots s.world)
    (λ callee. begun_plainly (adapted onward frames a) (adapting a ∷ frames) s slots callee)

-- JVMS 4.4.8: 6 is static, 7 special, 8 makes an object, and 5 and 9 are virtual
abbrev pub implementing_begun : ℕ → Onward → List Frame → Adaptation → Origin → Shared → List Slot → Plan Move
implementing_begun kind onward frames a origin s slots =
    if kind == 6 then static_begun (adapted onward frames a) (adapting a ∷ frames) s origin.site.implementing.member slots
    else if kind == 7 then attempted (adapting a ∷ frames) s (special_callee origin.caller origin.site.implementing.member slots s.world)
    (λ callee. begun_plainly (adapted onward frames a) (adapting a ∷ frames) s slots callee)
    else if kind == 8 then attempted (adapting a ∷ frames) s (is_makeable origin.site.implementing.member.owner)
    (λ makeable. opened (adapted onward frames a) (adapting a ∷ frames) s origin.site.implementing.member.owner
    (constructs origin.site.implementing.member.owner origin.site.implementing.member origin.caller slots))
    else virtual_begun onward frames a s origin.site.implementing.member slots

-- the method of a lambda, on arguments without the lambda
abbrev pub lambda_begun : Onward → List Frame → Shared → Origin → List Slot → List Slot → Plan Move
lambda_begun onward frames s origin captured slots =
    attempted frames s (lambda_arguments origin.site captured slots s.world)
    (λ ready. implementing_begun origin.site.implementing.kind onward frames (adaptation_of origin.site) origin (in_heap ready.1 s) ready.0)

-- a call begins
unfoldable pub call_begun : Onward → List Frame → Shared → List Slot → Callee → Plan Move
call_begun onward frames s slots (lambda_method origin captured) = lambda_begun onward frames s origin captured (without_receiver false slots)
call_begun onward frames s slots callee = begun_plainly onward frames s slots callee

-- A result goes on with the frame below, and through all that ends at once.
unfoldable pub delivered : List Frame → Onward
delivered [] s v = ends (finishes (gave v) s.world)
delivered (of_method f ∷ frames) s v = goes_on f frames s v
delivered (of_native n ∷ frames) s v = native_further (delivered frames) frames s n (after_callback v n.progress)
delivered (forwarding a method slots ∷ frames) s v = adapted (delivered frames) frames a s v
delivered (adapting a ∷ frames) s v = adapted (delivered frames) frames a s v
delivered (initialising i ∷ frames) s v = initialised_further i frames (performed (delivered frames) frames) s
