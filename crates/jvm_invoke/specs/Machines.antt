-- The machine as its code keeps it shows a state, by the names that a program gives its places.
use Rattle.std.specs.Prelude.{◌≡◌, ℕ, Bool, List, [], ◌∷◌, map, Option, Some, None, Result, Err, IfOk, IsErrOf}
use Rattle.class_model.specs.declared.identifiers.ClassId.{ClassId}
use Rattle.class_model.specs.declared.identifiers.MemberId.{MemberId}
use Rattle.jvm_heap.specs.declared.fault.HeapFault.{HeapFault}
use Rattle.jvm_heap.specs.declared.fault.HeapFault.TheVariants as faults
use Rattle.jvm_heap.specs.declared.slot.Slot.{Slot}
use Rattle.native_model.specs.Worlds.{World, NamedHeap}
use Rattle.jvm_model.specs.Plans.{Initialiser}
use Rattle.jvm_model.specs.Frames.{in_heap}
use Rattle.jvm_model.specs.States.{Shared, State, state}
use Rattle.jvm_model.specs.States as states
use Rattle.jvm_resolve.specs.declared.stop.Stop.{Stop}
use Rattle.jvm_resolve.specs.declared.stop.Stop.TheVariants as stops
use Rattle.jvm_state.specs.declared.frame.Frame.{Frame}
use Rattle.jvm_state.specs.Frames.{frame_of}
use Rattle.jvm_state.specs.Names.{Names}

-- a state, with the program that names its places
pub record Running (P : Type 0) : Type 0 where
  pub program : P
  pub state : State

abbrev pub running : {P : Type 0} → P → State → Running P
running program s = record { program = program; state = s }

abbrev pub frames_named : Names → (ClassId → Initialiser) → List Frame → List states.Frame
frames_named n initialiser frames = map (frame_of n initialiser) frames

abbrev pub shared_named : Names → World → List (MemberId × Slot) → List (ClassId × Bool) → Shared
shared_named n w statics classes = record {
  world = w;
  statics = map (λ s. (n.field s.0, s.1)) statics;
  initialised = map (λ c. (n.class c.0, c.1)) classes;
}

abbrev pub first_of : {A : Type 0} → List A → Option (A × List A)
first_of [] = None
first_of (a ∷ rest) = Some (a, rest)

-- Objects are made as is defined. Where the cells don't suffice the heap may hold some of them.
pub record MakesInAll (defined : Option (ℕ × NamedHeap)) (result : Result ℕ HeapFault) (new : NamedHeap) : Type 0 where
  pub made : IfOk result (λ number. defined ≡ Some (number, new))
  pub full : IsErrOf result faults.Full → defined ≡ None

-- nothing but the objects is other
abbrev pub ObjectsAlone : {P : Type 0} → Running P → Running P → Type 0
ObjectsAlone old new = new ≡ running old.program (state (in_heap new.state.shared.world.heap old.state.shared) old.state.frames)

-- where it throws all is as it was
abbrev pub StaysIfThrown : {A P : Type 0} → Result A Stop → Running P → Running P → Type 0
StaysIfThrown (Err (stops.Throws t)) old new = new ≡ old
StaysIfThrown _ old new = Unit {0}
