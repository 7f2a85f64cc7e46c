-- Which method a call leads to (JVMS 5.4.3.3, 5.4.3.4, 5.4.6 and 6.5). After resolution come the null check and the check of
-- the receiver's class.
use Rattle.std.specs.Prelude.{ℕ, zero, suc, Bool, true, false, ◌&&◌, List, ◌∷◌, bytes_eq, Option, Some, None, if◌then◌else◌}
use Rattle.jvm_tables.specs.Natives.{Native, native_of}
use Rattle.class_model.specs.declared.identifiers.MemberRef.{MemberRef}
use Rattle.class_model.specs.Shape.{is_static, is_native, is_abstract}
use Rattle.class_index.specs.Naming.{Target, nowhere, abstract_one, one_of_several, own_method, outer_method}
use Rattle.jvm_heap.specs.declared.slot.Slot.{Slot}
use Rattle.jvm_heap.specs.declared.slot.Slot.TheVariants.{Ref}
use Rattle.jvm_heap.specs.Objects.{array, lambda}
use Rattle.native_model.specs.Worlds.{Origin, NamedObject, World, class_of}
use Rattle.native_model.specs.Thrown.{null_pointer, incompatible_change, abstract_method, unsatisfied_link, absent_method}
use Rattle.jvm_model.specs.Plans.{resolve, select, select_special}
use Rattle.jvm_model.specs.Attempts.{Attempt, gives, throws, sticks, asked, ◌>>=◌}
use Rattle.jvm_model.specs.Working.{is_as_wanted}
use Rattle.jvm_model.specs.Types.{type_named, object_class, interface_of, is_instance, is_known, object_of, holds_or}

-- a method of the program with its flags, a row of the table of natives, or the method of a lambda with what it captured
pub data Callee : Type 0 where
  own : MemberRef → ℕ → Callee
  table_row : ℕ → Callee
  lambda_method : Origin → List Slot → Callee

abbrev pub of_program : MemberRef → ℕ → Attempt Callee
of_program method flags =
    if is_native flags then throws unsatisfied_link
    else if is_abstract flags then throws abstract_method
    else gives (own method flags)

abbrev pub of_table : Option (ℕ × Native) → Attempt Callee
of_table None = throws abstract_method
of_table (Some found) = gives (table_row found.0)

-- what is called of a target
abbrev pub callee_of : Target → Attempt Callee
callee_of nowhere = throws incompatible_change
callee_of abstract_one = throws abstract_method
callee_of one_of_several = throws incompatible_change
callee_of (own_method method flags) = of_program method flags
callee_of (outer_method method) = of_table (native_of method.owner method.name method.descriptor)

abbrev pub is_static_row : Option (ℕ × Native) → Bool
is_static_row None = false
is_static_row (Some found) = found.1.is_static

abbrev pub is_static_target : Target → Bool
is_static_target (own_method method flags) = is_static flags
is_static_target (outer_method method) = is_static_row (native_of method.owner method.name method.descriptor)
is_static_target _ = false

abbrev pub if_found : MemberRef → Target → Attempt Target
if_found method nowhere = throws (absent_method method.name)
if_found method target = gives target

-- what a reference resolves to
abbrev pub resolved : MemberRef → Attempt Target
resolved method = do
  here ← is_known (type_named method.owner)
  target ← asked (resolve method)
  if_found method target

abbrev pub if_static : Bool → Target → Attempt Target
if_static wanted target =
    if is_as_wanted wanted (is_static_target target) then gives target else throws incompatible_change

-- the receiver, which is no null
abbrev pub receiver : List Slot → Attempt ℕ
receiver (Ref zero ∷ arguments) = throws null_pointer
receiver (Ref (suc n) ∷ arguments) = gives (suc n)
receiver _ = sticks

-- an object of the class that is named
abbrev pub checked : List ℕ → NamedObject → Attempt (Unit {0})
checked owner o = is_instance o (type_named owner) >>= holds_or incompatible_change

abbrev pub is_of_object : Target → Bool
is_of_object (outer_method method) = bytes_eq method.owner object_class
is_of_object _ = false

-- the interface's own method, as its lambda has it
abbrev pub is_own_method : MemberRef → Origin → Bool
is_own_method method origin = bytes_eq method.name origin.site.method && bytes_eq method.descriptor origin.site.erased

-- By another name or descriptor a default method is selected, or one of Object.
abbrev pub of_lambda : MemberRef → Target → Origin → List Slot → Attempt Callee
of_lambda method target origin captured =
    if is_own_method method origin then gives (lambda_method origin captured)
    else if is_of_object target then callee_of target
    else asked (select method (interface_of origin)) >>= callee_of

-- A method of an array is that of Object, or `clone`.
abbrev pub selected : MemberRef → Target → NamedObject → Attempt Callee
selected method target (array kind elements) = callee_of target
selected method target (lambda origin captured) = of_lambda method target origin captured
selected method target o = asked (select method (class_of o)) >>= callee_of

-- invokevirtual and invokeinterface
unfoldable pub virtual_callee : MemberRef → List Slot → World → Attempt Callee
virtual_callee method arguments w = do
  found ← resolved method
  target ← if_static false found
  n ← receiver arguments
  o ← object_of n w
  fits ← checked method.owner o
  selected method target o

-- invokespecial, in code of a class
unfoldable pub special_callee : List ℕ → MemberRef → List Slot → World → Attempt Callee
special_callee caller method arguments w = do
  found ← resolved method
  target ← if_static false found
  n ← receiver arguments
  o ← object_of n w
  fits ← checked method.owner o
  chosen ← asked (select_special caller method)
  callee_of chosen

-- invokestatic
unfoldable pub static_target : MemberRef → Attempt Target
static_target method = resolved method >>= if_static true
