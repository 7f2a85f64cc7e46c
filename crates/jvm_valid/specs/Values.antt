-- Values by kind, and references that lead into the heap.
use Rattle.std.specs.Prelude.{◌≡◌, ℕ, ◌≤◌, List, [], ◌∷◌, length, Option, Some, None}
use Rattle.jvm_tables.specs.declared.instruction.ValueKind.{ValueKind}
use Rattle.jvm_tables.specs.declared.instruction.ValueKind.TheVariants as values
use Rattle.class_verify.specs.declared.kinds.Kind.{Kind}
use Rattle.class_verify.specs.declared.kinds.Kind.TheVariants as kinds
use Rattle.jvm_heap.specs.declared.slot.Slot.{Slot}
use Rattle.jvm_heap.specs.declared.slot.Slot.TheVariants.{Top, Int, Long, Ref}
use Rattle.native_model.specs.Worlds.{NamedHeap}

-- the kind of a slot, as verification has it (JVMS 4.10.1.2)
abbrev pub kind_in : Slot → Kind
kind_in Top = kinds.Top
kind_in (Int n) = kinds.Int
kind_in (Long n) = kinds.Long
kind_in (Ref n) = kinds.Reference

abbrev pub kinds_in : List Slot → List Kind
kinds_in [] = []
kinds_in (slot ∷ slots) = kind_in slot ∷ kinds_in slots

-- the kind of a value
abbrev pub value_kind : Slot → Option ValueKind
value_kind Top = None
value_kind (Int n) = Some values.Int
value_kind (Long n) = Some values.Long
value_kind (Ref n) = Some values.Reference

-- an object of a number is in the heap, or the number is 0, which is null
abbrev pub IsNumber : NamedHeap → ℕ → Type 0
IsNumber h n = n ≤ length h.objects

abbrev pub AreNumbers : NamedHeap → List ℕ → Type 0
AreNumbers h [] = Unit {0}
AreNumbers h (n ∷ numbers) = IsNumber h n × AreNumbers h numbers

-- a slot holds no reference, or one that is null or in the heap
abbrev pub IsThere : NamedHeap → Slot → Type 0
IsThere h (Ref n) = IsNumber h n
IsThere h _ = Unit {0}

abbrev pub AreThere : NamedHeap → List Slot → Type 0
AreThere h [] = Unit {0}
AreThere h (slot ∷ slots) = IsThere h slot × AreThere h slots

-- a value of a kind
abbrev pub IsValue : NamedHeap → ValueKind → Slot → Type 0
IsValue h kind slot = (value_kind slot ≡ Some kind) × IsThere h slot

-- as many values, each of the kind at its place
abbrev pub AreValues : NamedHeap → List ValueKind → List Slot → Type 0
AreValues h [] [] = Unit {0}
AreValues h (kind ∷ kinds) (slot ∷ slots) = IsValue h kind slot × AreValues h kinds slots
AreValues h _ _ = ⊥

-- a value of a kind, or where there is no kind, as for float and double, a slot that nothing reads
abbrev pub IsOfKind : NamedHeap → Option ValueKind → Slot → Type 0
IsOfKind h None slot = Unit {0}
IsOfKind h (Some kind) slot = IsValue h kind slot

abbrev pub AreOfKind : NamedHeap → Option ValueKind → List Slot → Type 0
AreOfKind h kind [] = Unit {0}
AreOfKind h kind (slot ∷ slots) = IsOfKind h kind slot × AreOfKind h kind slots
