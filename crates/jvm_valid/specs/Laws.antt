-- Laws of valid states.
use Rattle.std.specs.Prelude.{◌≡◌, true, List, [], Option, Some}
use Rattle.jvm_tables.specs.declared.instruction.ValueKind.{ValueKind}
use Rattle.class_model.specs.declared.class_file.Class.{Class}
use Rattle.class_model.specs.declared.class_file.Member.{Member}
use Rattle.class_model.specs.declared.identifiers.MemberRef.{MemberRef}
use Rattle.class_model.specs.Shape.{is_static}
use Rattle.tree_value.specs.Values.{Whole}
use Rattle.class_code.specs.Codes.{CodeParts}
use Rattle.class_code.specs.Rows.{MethodRow}
use Rattle.class_code.specs.Types.{result_kind}
use Rattle.class_verify.specs.Frames.{first_kinds}
use Rattle.class_verify.specs.Programs.{IsVerified}
use Rattle.jvm_heap.specs.declared.slot.Slot.{Slot}
use Rattle.jvm_heap.specs.Heaps.{empty}
use Rattle.native_model.specs.Worlds.{NamedHeap}
use Rattle.native_model.specs.declared.budget.Budget.TheVariants.{Frames}
use Rattle.jvm_model.specs.Plans.{end_of}
use Rattle.jvm_model.specs.Programs.{oracle, row_of_method}
use Rattle.jvm_model.specs.States.{Frame, Shared, State}
use Rattle.jvm_model.specs.Concatenating.{parameter_types}
use Rattle.jvm_model.specs.Bodies.{Task, all_fit, arguments, first_shared}
use Rattle.jvm_model.specs.Frames.{Move, goes, finishes, spent, started}
use Rattle.jvm_valid.specs.Values.{AreValues}
use Rattle.jvm_valid.specs.Sharing.{IsShared}
use Rattle.jvm_valid.specs.Frames.{IsMethod}
use Rattle.jvm_valid.specs.Valid.{Await, IsValid}

-- a valid state, or no frame is left for it
abbrev pub IsBegin : List Class → Option ValueKind → Move → Type 0
IsBegin program wanted (goes t) = IsValid program wanted t
IsBegin program wanted (finishes (spent Frames) w) = Unit {0}
IsBegin program wanted _ = ⊥

-- A method that is called on values of the kinds of its parameters, above frames that wait for what it gives, begins in a
-- valid state, where there is room for its frame.
abbrev pub EachCallBegins : Type 0
EachCallBegins =
    (program : List Class) (wanted : Option ValueKind) (s : Shared) (frames : List Frame) (method : MemberRef) (slots : List Slot)
    (class : Class) (member : Member) (code : CodeParts) (row : MethodRow) → IsVerified program → IsShared program s → IsMethod program method class member code
    → row_of_method program method ≡ Some row → AreValues s.world.heap (first_kinds member.flags method.descriptor) slots
    → Await program wanted s (result_kind method.descriptor) frames → IsBegin program wanted (end_of (oracle program) (started frames s method slots))

-- The state in which the body of a task starts: its arguments fit, and the cells suffice for them.
pub record IsReady (program : List Class) (task : Task) (values : List Whole) (ready : List Slot × NamedHeap) : Type 0 where
  pub class : Class
  pub member : Member
  pub code : CodeParts
  pub method : IsMethod program task.method class member code
  pub static : is_static member.flags ≡ true
  pub row : MethodRow
  pub told : row_of_method program task.method ≡ Some row
  pub fit : all_fit (parameter_types task.method.descriptor) values ≡ true
  pub placed : arguments (parameter_types task.method.descriptor) values empty ≡ Some ready

-- It is valid; one frame is always left.
abbrev pub EachBodyBegins : Type 0
EachBodyBegins =
    (program : List Class) (task : Task) (values : List Whole) (ready : List Slot × NamedHeap) → IsVerified program → IsReady program task values ready
    → (t : State) × (end_of (oracle program) (started [] (first_shared task ready.1) task.method ready.0) ≡ goes t) × IsValid program (result_kind task.method.descriptor) t
