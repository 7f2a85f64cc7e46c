-- The operands of a frame, the top first, and values on them (JVMS 2.6.2, 2.11.1).
use Rattle.std.specs.Prelude.{ℕ, ℤ, nat_lt, List, [], ◌∷◌, length, Option, Some, None, option_map, option_and_then, if◌then◌else◌}
use Rattle.jvm_tables.specs.declared.instruction.ValueKind.{ValueKind}
use Rattle.jvm_tables.specs.declared.instruction.ValueKind.TheVariants as values
use Rattle.jvm_heap.specs.declared.slot.Slot.{Slot}
use Rattle.jvm_heap.specs.declared.slot.Slot.TheVariants.{Top, Int, Long, Ref}

pub record Operands : Type 0 where
  pub slots : List Slot
  pub limit : ℕ

abbrev pub with_slots : Operands → List Slot → Operands
with_slots o slots = record { slots = slots; limit = o.limit }

-- with a slot on top, where there is room
unfoldable pub pushed : Slot → Operands → Option Operands
pushed slot o = if nat_lt (length o.slots) o.limit then Some (with_slots o (slot ∷ o.slots)) else None

abbrev pub top_of : List Slot → Option (Slot × List Slot)
top_of [] = None
top_of (slot ∷ slots) = Some (slot, slots)

-- the slot on top, whatever it holds, and what is left
unfoldable pub popped : Operands → Option (Slot × Operands)
popped o = option_map (λ found. (found.0, with_slots o found.1)) (top_of o.slots)

-- the values of a kind
abbrev pub ValueOf : ValueKind → Type 0
ValueOf values.Int = ℤ
ValueOf values.Long = ℤ
ValueOf values.Reference = ℕ

-- values of these kinds, the first on top
abbrev pub Values : List ValueKind → Type 0
Values [] = Unit {0}
Values (k ∷ kinds) = ValueOf k × Values kinds

abbrev pub int_on : List Slot → Option (ℤ × List Slot)
int_on (Int n ∷ slots) = Some (n, slots)
int_on _ = None

-- a long lies below its second slot, whatever that holds
abbrev pub long_on : List Slot → Option (ℤ × List Slot)
long_on (above ∷ Long n ∷ slots) = Some (n, slots)
long_on _ = None

abbrev pub reference_on : List Slot → Option (ℕ × List Slot)
reference_on (Ref n ∷ slots) = Some (n, slots)
reference_on _ = None

-- the value of a kind on top, and the slots below it
abbrev pub value_on : (k : ValueKind) → List Slot → Option (ValueOf k × List Slot)
value_on values.Int slots = int_on slots
value_on values.Long slots = long_on slots
value_on values.Reference slots = reference_on slots

-- the value of a kind on top, and what is left
unfoldable pub taken : (k : ValueKind) → Operands → Option (ValueOf k × Operands)
taken k o = option_map (λ found. (found.0, with_slots o found.1)) (value_on k o.slots)

-- values of these kinds on top, the first uppermost, and what is left
abbrev pub all_taken : (kinds : List ValueKind) → Operands → Option (Values kinds × Operands)
all_taken [] o = Some (tt, o)
all_taken (k ∷ kinds) o =
    option_and_then (λ one. option_map (λ more. ((one.0, more.0), more.1)) (all_taken kinds one.1)) (taken k o)

-- with a value on top, where there is room
abbrev pub given : (k : ValueKind) → ValueOf k → Operands → Option Operands
given values.Int n o = pushed (Int n) o
given values.Long n o = option_and_then (pushed Top) (pushed (Long n) o)
given values.Reference n o = pushed (Ref n) o

abbrev pub all_given : (kinds : List ValueKind) → Values kinds → Operands → Option Operands
all_given [] v o = Some o
all_given (k ∷ kinds) v o = option_and_then (all_given kinds v.1) (given k v.0 o)
