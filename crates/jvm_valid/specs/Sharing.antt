-- What frames share, as the classes of the program say (JVMS 5.5).
use Rattle.std.specs.Prelude.{◌≡◌, ℕ, Bool, List, Contains, Option, Some, option_map}
use Rattle.class_model.specs.declared.class_file.Class.{Class}
use Rattle.class_model.specs.declared.identifiers.MemberRef.{MemberRef}
use Rattle.class_model.specs.Programs.{find_class}
use Rattle.class_code.specs.Types.{kind_of}
use Rattle.jvm_heap.specs.declared.slot.Slot.{Slot}
use Rattle.jvm_model.specs.Plans.{StaticField, Initialiser}
use Rattle.jvm_model.specs.Programs.{initialiser}
use Rattle.jvm_model.specs.States.{Shared}
use Rattle.jvm_model.specs.Initialising.{field_ref, static_value}
use Rattle.jvm_valid.specs.Values.{IsOfKind}
use Rattle.jvm_valid.specs.Heaps.{IsHeap}

abbrev pub initialiser_of : List Class → List ℕ → Option Initialiser
initialiser_of program class = option_map initialiser (find_class class program)

-- a static field of a class of the program, by the class that declares it
pub record IsStatic (program : List Class) (field : MemberRef) : Type 0 where
  pub own : Initialiser
  pub declared : initialiser_of program field.owner ≡ Some own
  pub found : StaticField
  pub listed : Contains own.fields found
  pub named : field ≡ field_ref field.owner found

-- a static field has a value of its kind
abbrev pub HasValue : Shared → MemberRef → Type 0
HasValue s field = (slot : Slot) × (static_value s.statics field ≡ Some slot) × IsOfKind s.world.heap (kind_of field.descriptor) slot

-- a class that is initialised, or is being
abbrev pub IsBegun : Shared → List ℕ → Type 0
IsBegun s class = (failed : Bool) × Contains s.initialised (class, failed)

-- The heap is one, each class that is initialised is of the program, and it has its static fields.
pub record IsShared (program : List Class) (s : Shared) : Type 0 where
  pub heap : IsHeap program s.world.heap
  pub classes : (class : List ℕ) → IsBegun s class → (own : Initialiser) × (initialiser_of program class ≡ Some own)
  pub statics : (field : MemberRef) → IsStatic program field → IsBegun s field.owner → HasValue s field
