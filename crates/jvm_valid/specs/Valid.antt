-- Valid states: those that a run of a verified program is to meet.
use Rattle.std.specs.Prelude.{◌≡◌, List, [], ◌∷◌, Option}
use Rattle.jvm_tables.specs.declared.instruction.ValueKind.{ValueKind}
use Rattle.jvm_tables.specs.declared.instruction.ValueKind.TheVariants.{Reference}
use Rattle.class_model.specs.declared.class_file.Class.{Class}
use Rattle.class_code.specs.Types.{parameter_kinds, result_kind}
use Rattle.jvm_model.specs.States.{Frame, of_method, of_native, forwarding, adapting, initialising, Shared, State}
use Rattle.jvm_valid.specs.Values.{AreValues}
use Rattle.jvm_valid.specs.Sharing.{IsShared}
use Rattle.jvm_valid.specs.Waiting.{given_by, IsNative, CallsBack, Adapts, IsInitialising}
use Rattle.jvm_valid.specs.Frames.{StandsIn, WaitsIn}

-- Frames that wait for a value of a kind, or for the end of what gives none, the top first. Below the last one the run ends
-- with what its method gives.
abbrev pub Await : List Class → Option ValueKind → Shared → Option ValueKind → List Frame → Type 0
Await program wanted s given [] = given ≡ wanted
Await program wanted s given (of_method f ∷ frames) =
    WaitsIn program s.world.heap given f × Await program wanted s (result_kind f.method.descriptor) frames
Await program wanted s given (of_native n ∷ frames) = IsNative s n × Await program wanted s (given_by n.called) frames
Await program wanted s given (forwarding a method slots ∷ frames) =
    (gives : Option ValueKind) × Adapts s.world.heap a given gives × Await program wanted s gives frames
Await program wanted s given (adapting a ∷ frames) =
    (gives : Option ValueKind) × Adapts s.world.heap a given gives × Await program wanted s gives frames
Await program wanted s given (initialising i ∷ frames) =
    (gives : Option ValueKind) × IsInitialising program s i gives × Await program wanted s gives frames

-- The frame on top makes the next step: a method's before an instruction, a native's or a lambda's before its call. All
-- below it wait.
abbrev pub Stand : List Class → Option ValueKind → Shared → List Frame → Type 0
Stand program wanted s (of_method f ∷ frames) =
    StandsIn program s.world.heap f × Await program wanted s (result_kind f.method.descriptor) frames
Stand program wanted s (of_native n ∷ frames) =
    IsNative s n × CallsBack n s.world × Await program wanted s (given_by n.called) frames
Stand program wanted s (forwarding a method slots ∷ frames) =
    AreValues s.world.heap (Reference ∷ parameter_kinds method.descriptor) slots
    × (gives : Option ValueKind) × Adapts s.world.heap a (result_kind method.descriptor) gives × Await program wanted s gives frames
Stand program wanted s _ = ⊥

-- a state of a run whose method gives a value of a kind, or none
pub record IsValid (program : List Class) (wanted : Option ValueKind) (s : State) : Type 0 where
  pub shared : IsShared program s.shared
  pub frames : Stand program wanted s.shared s.frames
