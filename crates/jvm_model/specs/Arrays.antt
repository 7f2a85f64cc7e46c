-- Arrays (JVMS 6.5, newarray to multianewarray, the loads and stores of elements).
use Rattle.std.specs.Prelude.{ℕ, zero, suc, ◌+◌, ◌-◌, ◌%◌, ◌^◌, ◌==◌, ℤ, pos, int_lt, unsigned_abs, Bool, true, false, not, ◌&&◌, ◌||◌, List, [], ◌∷◌, bytes_eq, Option, Some, None, option_map, option_and_then, if◌then◌else◌}
use Rattle.std.specs.List.{list_any}
use Rattle.std.specs.Str.{byte}
use Rattle.std.specs.Int.{w8, w16, w32, cast_signed, cast_unsigned}
use Rattle.jvm_tables.specs.declared.elements.ElementKind.{ElementKind}
use Rattle.jvm_tables.specs.declared.elements.ElementKind.TheVariants as elements
use Rattle.class_model.specs.Descriptors.{FieldType}
use Rattle.class_model.specs.Descriptors as types
use Rattle.jvm_heap.specs.declared.slot.Slot.{Slot}
use Rattle.jvm_heap.specs.declared.slot.Slot.TheVariants.{Int, Ref}
use Rattle.jvm_heap.specs.Objects.{Base, primitive, of_class, ArrayKind}
use Rattle.jvm_heap.specs.Heaps.{allocated, fresh_array, with_slot}
use Rattle.native_model.specs.Worlds.{NamedHeap, World, letter_of, as_array, seen}
use Rattle.native_model.specs.Thrown.{null_pointer, incompatible_change, negative_size}
use Rattle.jvm_model.specs.Attempts.{Attempt, gives, throws, sticks, ◌>>=◌}

-- the kind of elements of a letter (JVMS 4.3.2)
abbrev pub element_of_letter : ℕ → ElementKind
element_of_letter letter =
    if letter == byte "Z" then elements.Boolean
    else if letter == byte "C" then elements.Char
    else if letter == byte "F" then elements.Float
    else if letter == byte "D" then elements.Double
    else if letter == byte "B" then elements.Byte
    else if letter == byte "S" then elements.Short
    else if letter == byte "I" then elements.Int
    else elements.Long

-- the arrays whose components are of a type
abbrev pub arrays_of : FieldType → ArrayKind (List ℕ)
arrays_of (types.primitive letter) = record { base = primitive (element_of_letter letter); depth = 1 }
arrays_of (types.object name) = record { base = of_class name; depth = 1 }
arrays_of (types.array t) = record { base = (arrays_of t).base; depth = (arrays_of t).depth + 1 }

-- the arrays that an array type names
abbrev pub arrays_named : FieldType → Option (ArrayKind (List ℕ))
arrays_named (types.array t) = Some (arrays_of t)
arrays_named _ = None

abbrev pub component : ArrayKind (List ℕ) → ArrayKind (List ℕ)
component kind = record { base = kind.base; depth = kind.depth - 1 }

-- the components of an array, from a place on, by what makes each of them
abbrev pub filled_with : ℕ → ℕ → ℕ → (NamedHeap → Option (ℕ × NamedHeap)) → NamedHeap → Option NamedHeap
filled_with zero at o made h = Some h
filled_with (suc n) at o made h =
    option_and_then (λ one. option_and_then (filled_with n (at + 1) o made) (with_slot o at (Ref one.0) one.1)) (made h)

abbrev pub with_heap : ℕ → NamedHeap → ℕ × NamedHeap
with_heap o h = (o, h)

-- Arrays of arrays, the outer first and then each inner one with all that is in it. None where the cells don't suffice.
abbrev pub arrays_made : List ℕ → ArrayKind (List ℕ) → NamedHeap → Option (ℕ × NamedHeap)
arrays_made [] kind h = None
arrays_made (n ∷ []) kind h = allocated (fresh_array kind n) h
arrays_made (n ∷ m ∷ sizes) kind h =
    option_and_then (λ outer. option_map (with_heap outer.0) (filled_with n 0 outer.0 (arrays_made (m ∷ sizes) (component kind)) outer.1))
    (allocated (fresh_array kind n) h)

-- sizes, the first negative one of which is thrown
abbrev pub sizes_of : List Slot → Attempt (List ℕ)
sizes_of [] = gives []
sizes_of (Int n ∷ slots) =
    if int_lt n (pos 0) then throws (negative_size n) else (sizes_of slots >>= λ sizes. gives (unsigned_abs n ∷ sizes))
sizes_of (slot ∷ slots) = sticks

abbrev pub is_base : List ElementKind → Base (List ℕ) → Bool
is_base kinds (primitive own) = list_any (λ other. bytes_eq (letter_of own) (letter_of other)) kinds
is_base kinds (of_class name) = false

-- arrays of one of some kinds of elements
abbrev pub is_of : List ElementKind → ArrayKind (List ℕ) → Bool
is_of kinds kind = kind.depth == 1 && is_base kinds kind.base

abbrev pub is_class : Base (List ℕ) → Bool
is_class (of_class name) = true
is_class (primitive own) = false

abbrev pub is_of_references : ArrayKind (List ℕ) → Bool
is_of_references kind = is_class kind.base || not (kind.depth == 1)

abbrev pub of_kind : (ArrayKind (List ℕ) → Bool) → ArrayKind (List ℕ) × List Slot → Attempt (ArrayKind (List ℕ) × List Slot)
of_kind test found = if test found.0 then gives found else throws incompatible_change

abbrev pub or_mismatch : (ArrayKind (List ℕ) → Bool) → Option (ArrayKind (List ℕ) × List Slot) → Attempt (ArrayKind (List ℕ) × List Slot)
or_mismatch test None = throws incompatible_change
or_mismatch test (Some found) = of_kind test found

-- an array, which is no null and of a kind that the instruction names
unfoldable pub array_for : (ArrayKind (List ℕ) → Bool) → ℕ → World → Attempt (ArrayKind (List ℕ) × List Slot)
array_for test zero w = throws null_pointer
array_for test (suc n) w = or_mismatch test (seen as_array (suc n) w)

-- an int as a value of a small type: its low bits
abbrev pub narrowed_to : ElementKind → ℤ → ℤ
narrowed_to elements.Boolean n = pos (cast_unsigned w32 n % 2)
narrowed_to elements.Byte n = cast_signed w8 (cast_unsigned w32 n % 2 ^ 8)
narrowed_to elements.Char n = pos (cast_unsigned w32 n % 2 ^ 16)
narrowed_to elements.Short n = cast_signed w16 (cast_unsigned w32 n % 2 ^ 16)
narrowed_to _ n = n

abbrev pub narrowed_slot : ElementKind → Slot → Slot
narrowed_slot kind (Int n) = Int (narrowed_to kind n)
narrowed_slot kind slot = slot

-- a value as one of a type (JVMS 2.11.1, and 6.5 of ireturn, putfield and putstatic)
abbrev pub narrowed_by : Option FieldType → Slot → Slot
narrowed_by (Some (types.primitive letter)) slot = narrowed_slot (element_of_letter letter) slot
narrowed_by _ slot = slot

abbrev pub narrowed_in : Base (List ℕ) → Slot → Slot
narrowed_in (primitive kind) slot = narrowed_slot kind slot
narrowed_in (of_class name) slot = slot
