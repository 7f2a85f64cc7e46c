-- What goes on when a value is given to a frame that waits: the kinds that each frame is given, and gives in its turn.
use Rattle.std.specs.Prelude.{◌≡◌, ℕ, ◌≤◌, Bool, false, true, ◌||◌, ◌⊎◌, List, [], ◌∷◌, Option, Some, None, option_and_then, option_map, IsSome, slice_get}
use Rattle.jvm_tables.specs.declared.instruction.ValueKind.{ValueKind}
use Rattle.jvm_tables.specs.declared.instruction.ValueKind.TheVariants as values
use Rattle.jvm_tables.specs.Natives.{Native, natives}
use Rattle.class_model.specs.declared.class_file.Class.{Class}
use Rattle.class_model.specs.declared.identifiers.MemberRef.{MemberRef}
use Rattle.class_model.specs.Shape.{is_native, is_abstract}
use Rattle.class_code.specs.Sites.{narrows}
use Rattle.class_code.specs.Types.{kind, kind_of, parameter_kinds, result_kind}
use Rattle.jvm_heap.specs.declared.slot.Slot.{Slot}
use Rattle.native_model.specs.Worlds.{NamedHeap, World}
use Rattle.native_model.specs.Answers.{results, calls_back}
use Rattle.native_model.specs.Table.{Case, cases}
use Rattle.jvm_model.specs.Plans.{layout_of, Initialiser}
use Rattle.jvm_model.specs.Programs.{oracle, row_of_method}
use Rattle.jvm_model.specs.States.{Called, native, concatenation, NativeFrame, Adaptation, gives_object, converts, Pending, nothing, reads, writes, makes, calls, constructs, InitialisingFrame, Shared}
use Rattle.jvm_model.specs.Driving.{answer_of}
use Rattle.jvm_valid.specs.Values.{IsNumber, AreThere, IsOfKind, AreValues}
use Rattle.jvm_valid.specs.Sharing.{initialiser_of, IsStatic, IsBegun}

-- natives

-- the kinds of what a native takes, the receiver first
abbrev pub taken_by : Called → Option (List ValueKind)
taken_by (native at) = option_map (λ (c : Case). c.kinds) (slice_get cases at)
taken_by (concatenation descriptor recipe constants) = Some (parameter_kinds descriptor)

-- the kind of what it gives, None for none
abbrev pub given_by : Called → Option ValueKind
given_by (native at) = option_and_then (λ (row : Native). result_kind row.descriptor) (slice_get natives at)
given_by (concatenation descriptor recipe constants) = Some values.Reference

-- a native's frame has arguments of its kinds, and what its callbacks gave is there
pub record IsNative (s : Shared) (n : NativeFrame) : Type 0 where
  pub kinds : List ValueKind
  pub known : taken_by n.called ≡ Some kinds
  pub arguments : AreValues s.world.heap kinds n.arguments
  pub given : AreThere s.world.heap (results n.progress)

abbrev pub CallsBack : NativeFrame → World → Type 0
CallsBack n w = (method : MemberRef) × (slots : List Slot) × (answer_of n.called n.arguments n.progress w ≡ Some (calls_back method slots))

-- results of one type as of another

abbrev pub is_narrowing : Option ValueKind → Option ValueKind → Bool
is_narrowing (Some from) (Some to) = narrows from to
is_narrowing _ _ = false

-- what is given becomes this
abbrev pub Adapts : NamedHeap → Adaptation → Option ValueKind → Option ValueKind → Type 0
Adapts h (gives_object n) given kind = IsNumber h n × (1 ≤ n) × (kind ≡ Some values.Reference)
Adapts h (converts from None) given gives = gives ≡ None
Adapts h (converts None (Some to)) given gives = ⊥
Adapts h (converts (Some from) (Some to)) given gives =
    (given ≡ kind from) × (gives ≡ kind to) × IsSome given × IsSome gives × (is_narrowing given gives ≡ false)

-- initialising

-- a method of the program that has a row, or that can't be called
abbrev pub IsCallable : List Class → MemberRef → ℕ → Type 0
IsCallable program method flags = (is_native flags || is_abstract flags ≡ true) ⊎ IsSome (row_of_method program method)

-- what goes on for a class gives this
abbrev pub Performs : List Class → Shared → List ℕ → Pending → Option ValueKind → Type 0
Performs program s class nothing gives = gives ≡ None
Performs program s class (reads field) gives =
    (class ≡ field.owner) × IsStatic program field × (gives ≡ kind_of field.descriptor) × IsSome gives
Performs program s class (writes field slot) gives =
    (class ≡ field.owner) × IsStatic program field × IsOfKind s.world.heap (kind_of field.descriptor) slot × (gives ≡ None)
Performs program s class (makes made) gives = IsSome (oracle program (layout_of made)) × (gives ≡ Some values.Reference)
Performs program s class (calls method flags slots) gives =
    IsCallable program method flags × AreValues s.world.heap (parameter_kinds method.descriptor) slots × (gives ≡ result_kind method.descriptor)
Performs program s class (constructs made init caller slots) gives =
    IsSome (oracle program (layout_of made)) × AreValues s.world.heap (parameter_kinds init.descriptor) slots × (gives ≡ Some values.Reference)

-- a class with what its initialising does, as the program has it
abbrev pub IsInitialiser : List Class → Initialiser → Type 0
IsInitialiser program x = initialiser_of program x.class ≡ Some x

abbrev pub AreInitialisers : List Class → List Initialiser → Type 0
AreInitialisers program [] = Unit {0}
AreInitialisers program (x ∷ interfaces) = IsInitialiser program x × AreInitialisers program interfaces

-- a class that is being initialised, behind which something goes on that gives this
pub record IsInitialising (program : List Class) (s : Shared) (i : InitialisingFrame) (gives : Option ValueKind) : Type 0 where
  pub begun : IsBegun s i.class
  pub own : Initialiser
  pub known : initialiser_of program i.class ≡ Some own
  pub method : i.has_method ≡ true → own.has_method ≡ true
  pub interfaces : AreInitialisers program i.interfaces
  pub pending : Performs program s i.class i.pending gives
