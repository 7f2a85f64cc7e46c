-- The state of the machine (JVMS 2.5). Classes, methods and fields are told by name.
use Rattle.std.specs.Prelude.{ℕ, Bool, List, Option}
use Rattle.class_model.specs.declared.identifiers.MemberRef.{MemberRef}
use Rattle.class_model.specs.Descriptors.{FieldType}
use Rattle.class_code.specs.Named.{Named}
use Rattle.jvm_heap.specs.declared.slot.Slot.{Slot}
use Rattle.jvm_heap.specs.Operands.{Operands}
use Rattle.native_model.specs.Worlds.{World}
use Rattle.native_model.specs.Answers.{Progress}
use Rattle.jvm_model.specs.Plans.{Initialiser}

-- A frame of a method: the pc of its present instruction, and that of the one behind it, to which a call returns (JVMS 2.6).
pub record MethodFrame : Type 0 where
  pub method : MemberRef
  pub pc : ℕ
  pub next : ℕ
  pub locals : List Slot
  pub operands : Operands

-- what a native's frame runs: a row of the table of natives, or a concatenation by its descriptor, recipe and constants
pub data Called : Type 0 where
  native : ℕ → Called
  concatenation : List ℕ → List ℕ → List Named → Called

-- a native that calls back: its arguments, the receiver first, and how far it is
pub record NativeFrame : Type 0 where
  pub called : Called
  pub arguments : List Slot
  pub progress : Progress

-- What is made of a result before it goes on: a new object in its place, or a value of one type as one of another, None for
-- none.
pub data Adaptation : Type 0 where
  gives_object : ℕ → Adaptation
  converts : Option FieldType → Option FieldType → Adaptation

-- what goes on when a class is initialised
pub data Pending : Type 0 where
  nothing : Pending
  reads : MemberRef → Pending
  writes : MemberRef → Slot → Pending
  makes : List ℕ → Pending
  -- a method of the program with its flags, and its arguments
  calls : MemberRef → ℕ → List Slot → Pending
  -- an object of a class, made by an `<init>` that code of another class names, with its arguments
  constructs : List ℕ → MemberRef → List ℕ → List Slot → Pending

-- A class that is being initialised: the superinterfaces that are still to be, and whether its `<clinit>` is still to run.
pub record InitialisingFrame : Type 0 where
  pub class : List ℕ
  pub interfaces : List Initialiser
  pub has_method : Bool
  pub pending : Pending

-- Frames of methods, and of natives and lambdas that call on, are counted; the others hold what goes on behind them.
pub data Frame : Type 0 where
  of_method : MethodFrame → Frame
  of_native : NativeFrame → Frame
  -- a lambda whose method is found on another lambda, which it calls with these values
  forwarding : Adaptation → MemberRef → List Slot → Frame
  adapting : Adaptation → Frame
  initialising : InitialisingFrame → Frame

-- What all frames share: the world, the static fields, and the classes that are initialised, in progress too, each with
-- whether it failed.
pub record Shared : Type 0 where
  pub world : World
  pub statics : List (MemberRef × Slot)
  pub initialised : List (List ℕ × Bool)

-- the frames, the top first
pub record State : Type 0 where
  pub shared : Shared
  pub frames : List Frame

abbrev pub with_world : World → Shared → Shared
with_world world s = record { world = world; statics = s.statics; initialised = s.initialised }

abbrev pub state : Shared → List Frame → State
state s frames = record { shared = s; frames = frames }

abbrev pub with_operands : Operands → MethodFrame → MethodFrame
with_operands operands f = record { method = f.method; pc = f.pc; next = f.next; locals = f.locals; operands = operands }

-- at another instruction
abbrev pub at_pc : ℕ → MethodFrame → MethodFrame
at_pc pc f = record { method = f.method; pc = pc; next = f.next; locals = f.locals; operands = f.operands }

abbrev pub with_next : ℕ → MethodFrame → MethodFrame
with_next next f = record { method = f.method; pc = f.pc; next = next; locals = f.locals; operands = f.operands }
