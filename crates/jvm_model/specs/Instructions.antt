-- What the instructions do that leave their frame or read the heap (JVMS 6.5). After resolution come the null check, the check
-- of the class, the other exceptions in the order of JVMS 6.5, and then cells.
use Rattle.std.specs.Prelude.{ℕ, zero, suc, ◌==◌, ℤ, pos, unsigned_abs, Bool, true, false, not, List, [], ◌∷◌, length, replicate, slice_get, position, Option, Some, None, option_map, if◌then◌else◌}
use Rattle.std.specs.Ordering.{int_eq}
use Rattle.std.specs.Int.{w32, w64, cast_signed}
use Rattle.jvm_tables.specs.declared.instruction.ValueKind.{ValueKind}
use Rattle.jvm_tables.specs.declared.instruction.ValueKind.TheVariants as values
use Rattle.jvm_tables.specs.declared.instruction.Operation.{Operation}
use Rattle.jvm_tables.specs.declared.instruction.Operation.TheVariants as operations
use Rattle.jvm_tables.specs.declared.elements.ElementKind.{ElementKind}
use Rattle.jvm_tables.specs.declared.elements.ElementKind.TheVariants as elements
use Rattle.jvm_tables.specs.Elements.{element_of}
use Rattle.class_model.specs.declared.identifiers.MemberRef.{MemberRef}
use Rattle.class_model.specs.Descriptors.{FieldType, field_type}
use Rattle.class_model.specs.Descriptors as types
use Rattle.class_code.specs.Named.{Named}
use Rattle.class_code.specs.Named as named
use Rattle.class_code.specs.Rows.{Operand, constant, lambda_made, concatenated, Line}
use Rattle.class_code.specs.Sites.{LambdaSite, interface}
use Rattle.class_code.specs.Types.{kind_of, parameter_kinds}
use Rattle.class_index.specs.Naming.{ClassFacts, Target}
use Rattle.class_index.specs.Outlines.{interface_flag}
use Rattle.class_model.specs.Shape.{has_flag}
use Rattle.line_text.specs.Lines.{units_of_name}
use Rattle.jvm_heap.specs.declared.slot.Slot.{Slot}
use Rattle.jvm_heap.specs.declared.slot.Slot.TheVariants.{Int, Long, Ref}
use Rattle.jvm_heap.specs.Operands.{Values, taken, all_taken}
use Rattle.jvm_heap.specs.Objects.{primitive, ArrayKind, throwable, lambda}
use Rattle.jvm_heap.specs.Heaps.{allocated, fresh_array, constant_text, slot_at, with_slot}
use Rattle.native_model.specs.declared.budget.Budget.TheVariants as budgets
use Rattle.native_model.specs.Answers.{truth}
use Rattle.native_model.specs.Strings.{is_index}
use Rattle.native_model.specs.Worlds.{Origin, NamedObject, NamedHeap, World, with_heap, class_of}
use Rattle.native_model.specs.Thrown.{null_pointer, incompatible_change, unsupported, class_cast, array_store, array_bounds, absent_field}
use Rattle.jvm_model.specs.Plans.{resolve_field, layout_of}
use Rattle.jvm_model.specs.States.{MethodFrame, Called, concatenation, Pending, reads, writes, makes, with_operands}
use Rattle.jvm_model.specs.Attempts.{Attempt, gives, throws, sticks, asked, or_stuck, or_out, ◌>>=◌}
use Rattle.jvm_model.specs.Actions.{first_of, target_of}
use Rattle.jvm_model.specs.Types.{type_named, array_type, is_instance, is_known, facts, object_of, holds_or}
use Rattle.jvm_model.specs.Calls.{Callee, checked, resolved, if_static, virtual_callee, special_callee, static_target}
use Rattle.jvm_model.specs.Frames.{slot_of, arguments_taken}
use Rattle.jvm_model.specs.Initialising.{same_member}
use Rattle.jvm_model.specs.Driving.{is_makeable}
use Rattle.jvm_model.specs.Arrays.{arrays_of, arrays_named, arrays_made, sizes_of, is_of, is_of_references, array_for, narrowed_by, narrowed_in}

-- What follows in the frame, whose operands are taken: a result; a jump; a call; a static target; a class that is initialised
-- before something is done; a concatenation; the return of a value; or an exception that is there.
pub data Effect : Type 0 where
  results : World → Option Slot → MethodFrame → Effect
  jumps : ℕ → MethodFrame → Effect
  enters : Callee → List Slot → MethodFrame → Effect
  statically : Target → List Slot → MethodFrame → Effect
  opens : List ℕ → Pending → MethodFrame → Effect
  runs : Called → List Slot → MethodFrame → Effect
  returns : Option Slot → Effect
  rethrows : ℕ → Effect

-- operands

abbrev pub popped : (kinds : List ValueKind) → MethodFrame → Attempt (Values kinds × MethodFrame)
popped kinds f = or_stuck (option_map (λ found. (found.0, with_operands found.1 f)) (all_taken kinds f.operands))

abbrev pub popped_slots : List ValueKind → MethodFrame → Attempt (List Slot × MethodFrame)
popped_slots kinds f = or_stuck (option_map (λ found. (found.0, with_operands found.1 f)) (arguments_taken kinds f.operands))

abbrev pub one_popped : ValueKind → MethodFrame → Attempt (Slot × MethodFrame)
one_popped k f = or_stuck (option_map (λ found. (slot_of k found.0, with_operands found.1 f)) (taken k f.operands))

-- what an operand names

abbrev pub member_in : Operand → Option MemberRef
member_in (constant (named.member tag m)) = Some m
member_in _ = None

abbrev pub class_in : Operand → Option (List ℕ)
class_in (constant (named.class name)) = Some name
class_in _ = None

abbrev pub constant_in : Operand → Option Named
constant_in (constant c) = Some c
constant_in _ = None

-- constants (JVMS 6.5, ldc): those of classes, handles and method types can't be loaded

abbrev pub made_reference : World → ℕ × NamedHeap → Slot × World
made_reference w made = (Ref made.0, with_heap made.1 w)

abbrev pub constant_value : Named → World → Attempt (Slot × World)
constant_value (named.int n) w = gives (Int (cast_signed w32 n), w)
constant_value (named.long n) w = gives (Long (cast_signed w64 n), w)
constant_value (named.text bytes) w =
    or_out budgets.Cells (option_map (made_reference w) (constant_text (units_of_name bytes) w.heap))
constant_value _ w = throws unsupported

abbrev pub constant_pushed : Operand → MethodFrame → World → Attempt Effect
constant_pushed operand f w = do
  c ← or_stuck (constant_in operand)
  v ← constant_value c w
  gives (results v.1 (Some v.0) f)

-- fields

abbrev pub field_ref : List ℕ → MemberRef → MemberRef
field_ref owner m = record { owner = owner; name = m.name; descriptor = m.descriptor }

abbrev pub same_truth : Bool → Bool → Bool
same_truth a b = if a then b else not b

abbrev pub field_by : Bool → MemberRef → Option (List ℕ × Bool) → Attempt MemberRef
field_by static m None = throws (absent_field m.name)
field_by static m (Some found) = if same_truth static found.1 then gives (field_ref found.0 m) else throws incompatible_change

-- what a reference resolves to: a field of the class that declares it, static or not (JVMS 5.4.3.2)
abbrev pub field_resolved : Bool → MemberRef → Attempt MemberRef
field_resolved static m = do
  here ← is_known (type_named m.owner)
  found ← asked (resolve_field m)
  field_by static m found

abbrev pub present : ℕ → Attempt ℕ
present zero = throws null_pointer
present (suc n) = gives (suc n)

-- the object of a field instruction, and the place of the field in it
abbrev pub field_place : MemberRef → MemberRef → ℕ → World → Attempt (ℕ × ℕ)
field_place m field n w = do
  there ← present n
  o ← object_of there w
  fits ← checked m.owner o
  answer ← asked (layout_of (class_of o))
  layout ← or_stuck answer
  place ← or_stuck (position (same_member field) layout.fields)
  gives (there, place)

abbrev pub field_read : MemberRef → MethodFrame → World → Attempt Effect
field_read m f w = do
  got ← popped (values.Reference ∷ []) f
  field ← field_resolved false m
  at ← field_place m field got.0.0 w
  slot ← or_stuck (slot_at at.0 at.1 w.heap)
  gives (results w (Some slot) got.1)

abbrev pub field_written : MemberRef → MethodFrame → World → Attempt Effect
field_written m f w = do
  kind ← or_stuck (kind_of m.descriptor)
  value ← one_popped kind f
  got ← popped (values.Reference ∷ []) value.1
  field ← field_resolved false m
  at ← field_place m field got.0.0 w
  heap ← or_stuck (with_slot at.0 at.1 (narrowed_by (field_type m.descriptor) value.0) w.heap)
  gives (results (with_heap heap w) None got.1)

-- the class that declares the field is initialised
abbrev pub static_read : MemberRef → MethodFrame → Attempt Effect
static_read m f = field_resolved true m >>= λ field. gives (opens field.owner (reads field) f)

abbrev pub static_written : MemberRef → MethodFrame → Attempt Effect
static_written m f = do
  kind ← or_stuck (kind_of m.descriptor)
  value ← one_popped kind f
  field ← field_resolved true m
  gives (opens field.owner (writes field (narrowed_by (field_type m.descriptor) value.0)) value.1)

-- arrays

abbrev pub index_in : ℤ → List Slot → Attempt ℕ
index_in i slots = if is_index i (length slots) then gives (unsigned_abs i) else throws (array_bounds i (length slots))

abbrev pub element_loaded : (ArrayKind (List ℕ) → Bool) → MethodFrame → World → Attempt Effect
element_loaded test f w = do
  got ← popped (values.Int ∷ values.Reference ∷ []) f
  a ← array_for test got.0.1.0 w
  at ← index_in got.0.0 a.1
  slot ← or_stuck (slice_get a.1 at)
  gives (results w (Some slot) got.1)

abbrev pub component_holds : FieldType → ℕ → World → Attempt (Unit {0})
component_holds (types.array t) n w = object_of n w >>= λ o. is_instance o t >>= holds_or array_store
component_holds _ n w = sticks

-- The element is of the type of the array's components, or null.
abbrev pub can_hold : ArrayKind (List ℕ) → Slot → World → Attempt (Unit {0})
can_hold kind (Ref (suc n)) w = component_holds (array_type kind) (suc n) w
can_hold kind _ w = gives tt

abbrev pub element_stored : ValueKind → (ArrayKind (List ℕ) → Bool) → MethodFrame → World → Attempt Effect
element_stored kind test f w = do
  value ← one_popped kind f
  got ← popped (values.Int ∷ values.Reference ∷ []) value.1
  a ← array_for test got.0.1.0 w
  at ← index_in got.0.0 a.1
  holds ← can_hold a.0 value.0 w
  heap ← or_stuck (with_slot got.0.1.0 at (narrowed_in a.0.base value.0) w.heap)
  gives (results (with_heap heap w) None got.1)

abbrev pub made_result : World → MethodFrame → Option (ℕ × NamedHeap) → Attempt Effect
made_result w f made = or_out budgets.Cells (option_map (λ m. results (with_heap m.1 w) (Some (Ref m.0)) f) made)

abbrev pub first_size : List ℕ → ℕ
first_size [] = 0
first_size (n ∷ sizes) = n

abbrev pub array_made : ArrayKind (List ℕ) → MethodFrame → World → Attempt Effect
array_made kind f w = do
  got ← popped_slots (values.Int ∷ []) f
  sizes ← sizes_of got.0
  made_result w got.1 (allocated (fresh_array kind (first_size sizes)) w.heap)

-- newarray, by the code of its element type
abbrev pub number_array_made : ℤ → MethodFrame → World → Attempt Effect
number_array_made code f w =
    or_stuck (element_of code) >>= λ kind. array_made (record { base = primitive kind; depth = 1 }) f w

-- anewarray, by the class of its components
abbrev pub reference_array_made : List ℕ → MethodFrame → World → Attempt Effect
reference_array_made name f w = do
  here ← is_known (type_named name)
  array_made (arrays_of (type_named name)) f w

abbrev pub many_arrays_made : List ℕ → ℕ → MethodFrame → World → Attempt Effect
many_arrays_made name dimensions f w = do
  got ← popped_slots (replicate dimensions values.Int) f
  here ← is_known (type_named name)
  kind ← or_stuck (arrays_named (type_named name))
  sizes ← sizes_of got.0
  made_result w got.1 (arrays_made sizes kind w.heap)

abbrev pub array_length : MethodFrame → World → Attempt Effect
array_length f w = do
  got ← popped (values.Reference ∷ []) f
  a ← array_for (λ kind. true) got.0.0 w
  gives (results w (Some (Int (pos (length a.1)))) got.1)

-- classes

abbrev pub object_newly : List ℕ → MethodFrame → Attempt Effect
object_newly name f = is_makeable name >>= λ makeable. gives (opens name (makes name) f)

abbrev pub type_tested : List ℕ → ℕ → World → Attempt Bool
type_tested name n w = do
  here ← is_known (type_named name)
  o ← object_of n w
  is_instance o (type_named name)

-- null is of each class, and resolves none
abbrev pub checked_cast : List ℕ → ℕ → MethodFrame → World → Attempt Effect
checked_cast name zero f w = gives (results w (Some (Ref 0)) f)
checked_cast name (suc n) f w = do
  is ← type_tested name (suc n) w
  fits ← holds_or class_cast is
  gives (results w (Some (Ref (suc n))) f)

abbrev pub instance_tested : List ℕ → ℕ → MethodFrame → World → Attempt Effect
instance_tested name zero f w = gives (results w (Some (Int (pos 0))) f)
instance_tested name (suc n) f w = do
  is ← type_tested name (suc n) w
  gives (results w (Some (Int (truth is))) f)

abbrev pub on_popped : (ℕ → MethodFrame → World → Attempt Effect) → MethodFrame → World → Attempt Effect
on_popped next f w = popped (values.Reference ∷ []) f >>= λ got. next got.0.0 got.1 w

-- monitors are null checks
abbrev pub monitor : ℕ → MethodFrame → World → Attempt Effect
monitor n f w = present n >>= λ there. gives (results w None f)

abbrev pub if_throwable : ℕ → NamedObject → Attempt Effect
if_throwable n (throwable class fields message cause) = gives (rethrows n)
if_throwable n _ = throws incompatible_change

abbrev pub exception_thrown : ℕ → MethodFrame → World → Attempt Effect
exception_thrown n f w = present n >>= λ there. object_of there w >>= if_throwable there

-- calls

abbrev pub kinds_with_receiver : MemberRef → List ValueKind
kinds_with_receiver m = values.Reference ∷ parameter_kinds m.descriptor

abbrev pub called_virtually : MemberRef → MethodFrame → World → Attempt Effect
called_virtually m f w = do
  got ← popped_slots (kinds_with_receiver m) f
  callee ← virtual_callee m got.0 w
  gives (enters callee got.0 got.1)

abbrev pub called_specially : MemberRef → MethodFrame → World → Attempt Effect
called_specially m f w = do
  got ← popped_slots (kinds_with_receiver m) f
  callee ← special_callee f.method.owner m got.0 w
  gives (enters callee got.0 got.1)

abbrev pub called_statically : MemberRef → MethodFrame → Attempt Effect
called_statically m f = do
  got ← popped_slots (parameter_kinds m.descriptor) f
  target ← static_target m
  gives (statically target got.0 got.1)

-- call sites

-- kinds 6 are static, all others aren't
abbrev pub site_resolved : LambdaSite → Attempt Target
site_resolved l = resolved l.implementing.member >>= if_static (l.implementing.kind == 6)

abbrev pub if_interface : ClassFacts → Attempt (Unit {0})
if_interface found = if has_flag interface_flag found.flags then gives tt else throws incompatible_change

-- a lambda that is made in the code of a frame
abbrev pub origin_in : MethodFrame → LambdaSite → Origin
origin_in f l = record { caller = f.method.owner; site = l }

-- The interface and the implementing method are resolved, and an object is made that has the captured values.
abbrev pub lambda_created : Origin → List ℕ → MethodFrame → World → Attempt Effect
lambda_created origin name f w = do
  got ← popped_slots (parameter_kinds origin.site.descriptor) f
  found ← facts name
  fits ← if_interface found
  target ← site_resolved origin.site
  made_result w got.1 (allocated (lambda origin got.0) w.heap)

abbrev pub site_run : Operand → MethodFrame → World → Attempt Effect
site_run (lambda_made l) f w = or_stuck (interface l) >>= λ name. lambda_created (origin_in f l) name f w
site_run (concatenated descriptor recipe constants) f w =
    popped_slots (parameter_kinds descriptor) f >>= λ got. gives (runs (concatenation descriptor recipe constants) got.0 got.1)
site_run _ f w = sticks

-- switches: each key with its target, behind the default'w offset

abbrev pub target_by : ℤ → ℕ → List ℤ → ℕ
target_by key otherwise (k ∷ target ∷ cases) = if int_eq k key then unsigned_abs target else target_by key otherwise cases
target_by key otherwise _ = otherwise

abbrev pub cases_behind : List ℤ → List ℤ
cases_behind (first ∷ second ∷ cases) = cases
cases_behind _ = []

abbrev pub switched : Line → MethodFrame → Attempt Effect
switched line f = do
  got ← popped (values.Int ∷ []) f
  gives (jumps (target_by got.0.0 (target_of line) (cases_behind line.numbers)) got.1)

-- returns

abbrev pub returned : ValueKind → MethodFrame → Attempt Effect
returned kind f = one_popped kind f >>= λ value. gives (returns (Some value.0))

-- by operation

abbrev pub int_elements : List ElementKind
int_elements = elements.Int ∷ []

abbrev pub element_effect : Operation → MethodFrame → World → Attempt Effect
element_effect operations.LoadIntElement f w = element_loaded (is_of int_elements) f w
element_effect operations.LoadLongElement f w = element_loaded (is_of (elements.Long ∷ [])) f w
element_effect operations.LoadReferenceElement f w = element_loaded is_of_references f w
element_effect operations.LoadByteElement f w = element_loaded (is_of (elements.Byte ∷ elements.Boolean ∷ [])) f w
element_effect operations.LoadCharElement f w = element_loaded (is_of (elements.Char ∷ [])) f w
element_effect operations.LoadShortElement f w = element_loaded (is_of (elements.Short ∷ [])) f w
element_effect operations.StoreIntElement f w = element_stored values.Int (is_of int_elements) f w
element_effect operations.StoreLongElement f w = element_stored values.Long (is_of (elements.Long ∷ [])) f w
element_effect operations.StoreReferenceElement f w = element_stored values.Reference is_of_references f w
element_effect operations.StoreByteElement f w = element_stored values.Int (is_of (elements.Byte ∷ elements.Boolean ∷ [])) f w
element_effect operations.StoreCharElement f w = element_stored values.Int (is_of (elements.Char ∷ [])) f w
element_effect operations.StoreShortElement f w = element_stored values.Int (is_of (elements.Short ∷ [])) f w
element_effect operations.ArrayLength f w = array_length f w
element_effect operations.MonitorEnter f w = on_popped monitor f w
element_effect operations.MonitorExit f w = on_popped monitor f w
element_effect operations.Throw f w = on_popped exception_thrown f w
element_effect operations.ReturnInt f w = returned values.Int f
element_effect operations.ReturnLong f w = returned values.Long f
element_effect operations.ReturnReference f w = returned values.Reference f
element_effect operations.Return f w = gives (returns None)
element_effect _ f w = sticks

abbrev pub member_effect : Operation → MemberRef → MethodFrame → World → Attempt Effect
member_effect operations.GetStatic m f w = static_read m f
member_effect operations.PutStatic m f w = static_written m f
member_effect operations.GetField m f w = field_read m f w
member_effect operations.PutField m f w = field_written m f w
member_effect operations.InvokeVirtual m f w = called_virtually m f w
member_effect operations.InvokeInterface m f w = called_virtually m f w
member_effect operations.InvokeSpecial m f w = called_specially m f w
member_effect operations.InvokeStatic m f w = called_statically m f
member_effect _ m f w = sticks

abbrev pub class_effect : Operation → List ℕ → Line → MethodFrame → World → Attempt Effect
class_effect operations.New name line f w = object_newly name f
class_effect operations.NewReferenceArray name line f w = reference_array_made name f w
class_effect operations.NewMultiArray name line f w = many_arrays_made name (unsigned_abs (first_of line.numbers)) f w
class_effect operations.CheckCast name line f w = on_popped (checked_cast name) f w
class_effect operations.InstanceOf name line f w = on_popped (instance_tested name) f w
class_effect _ name line f w = sticks

-- by what the operand names: a member, a class or nothing
abbrev pub named_effect : Operation → Operand → Line → MethodFrame → World → Attempt Effect
named_effect operation (constant (named.member tag m)) line f w = member_effect operation m f w
named_effect operation (constant (named.class name)) line f w = class_effect operation name line f w
named_effect operation _ line f w = element_effect operation f w

-- an instruction that doesn't stay in its frame
abbrev pub effect : Operation → Line → MethodFrame → World → Attempt Effect
effect operations.PushConstant line f w = constant_pushed line.operand f w
effect operations.PushLongConstant line f w = constant_pushed line.operand f w
effect operations.InvokeDynamic line f w = site_run line.operand f w
effect operations.TableSwitch line f w = switched line f
effect operations.LookupSwitch line f w = switched line f
effect operations.NewArray line f w = number_array_made (first_of line.numbers) f w
effect operation line f w = named_effect operation line.operand line f w
