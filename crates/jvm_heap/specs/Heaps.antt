-- The heap: objects by number, the cells that they cost together, and the objects that are kept to be given again.
use Rattle.std.specs.Prelude.{ℕ, zero, suc, ◌+◌, ◌==◌, nat_lt, nat_le, ℤ, pos, negsuc, int_le, Bool, ◌&&◌, List, [], ◌∷◌, ◌++◌, length, replicate, slice_get, slice_set, Option, Some, None, option_map, option_and_then, if◌then◌else◌}
use Rattle.std.specs.declared.cmp.Ordering.{Ordering}
use Rattle.std.specs.Ordering.{nat_cmp, int_cmp, bool_cmp}
use Rattle.std.specs.Cmp.Lexicographic.{slice_cmp}
use Rattle.std.specs.Map.{lookup}
use Rattle.std.specs.BTreeMap.{is_at, insert_entry}
use Rattle.jvm_tables.specs.declared.elements.ElementKind.{ElementKind}
use Rattle.jvm_tables.specs.declared.elements.ElementKind.TheVariants as elements
use Rattle.jvm_heap.specs.declared.slot.Slot.{Slot}
use Rattle.jvm_heap.specs.declared.slot.Slot.TheVariants as slots
use Rattle.jvm_heap.specs.Objects.{Base, primitive, of_class, ArrayKind, Object, plain, throwable, enumerated, array, text, boxed_int, boxed_long, boxed_boolean, lambda, cells_of}

-- Object n stands at place n - 1. Kept are the text of each string constant that was used, and each small box.
pub record Heap (C S : Type 0) : Type 0 where
  pub objects : List (Object C S)
  pub cells : ℕ
  pub texts : List (List ℕ × ℕ)
  pub ints : List (ℤ × ℕ)
  pub longs : List (ℤ × ℕ)
  pub booleans : List (Bool × ℕ)

abbrev pub empty : {C S : Type 0} → Heap C S
empty = record { objects = []; cells = 0; texts = []; ints = []; longs = []; booleans = [] }

abbrev pub most_cells : ℕ
most_cells = 4194304

-- the object of a number, which null hasn't
abbrev pub object_at : {C S : Type 0} → ℕ → Heap C S → Option (Object C S)
object_at zero h = None
object_at (suc n) h = slice_get h.objects n

abbrev pub with_objects : {C S : Type 0} → List (Object C S) → ℕ → Heap C S → Heap C S
with_objects objects cells h =
    record { objects = objects; cells = cells; texts = h.texts; ints = h.ints; longs = h.longs; booleans = h.booleans }

-- One object more, and its number. None where the cells would pass the limit.
unfoldable pub allocated : {C S : Type 0} → Object C S → Heap C S → Option (ℕ × Heap C S)
allocated o h =
    if nat_le (h.cells + cells_of o) most_cells
    then Some (length h.objects + 1, with_objects (h.objects ++ o ∷ []) (h.cells + cells_of o) h)
    else None

abbrev pub set_object : {C S : Type 0} → ℕ → Object C S → List (Object C S) → List (Object C S)
set_object zero o objects = objects
set_object (suc n) o objects = slice_set objects n o

-- another object of the same cells in the place of one
unfoldable pub replaced : {C S : Type 0} → ℕ → Object C S → Heap C S → Heap C S
replaced n o h = with_objects (set_object n o h.objects) h.cells h

-- an object of so many cells more in the place of one; None where they would pass the limit
unfoldable pub grown : {C S : Type 0} → ℕ → Object C S → ℕ → Heap C S → Option (Heap C S)
grown n o more h =
    if nat_le (h.cells + more) most_cells then Some (with_objects (set_object n o h.objects) (h.cells + more) h) else None

-- the default value of an element (JVMS 2.3, 2.4)
abbrev pub zero_of_element : ElementKind → Slot
zero_of_element elements.Long = slots.Long (pos 0)
zero_of_element _ = slots.Int (pos 0)

abbrev pub zero_of_base : {C : Type 0} → Base C → Slot
zero_of_base (primitive kind) = zero_of_element kind
zero_of_base (of_class class) = slots.Ref 0

abbrev pub zero_of : {C : Type 0} → ArrayKind C → Slot
zero_of kind = if kind.depth == 1 then zero_of_base kind.base else slots.Ref 0

-- an array of default values (JVMS 6.5, newarray and anewarray)
abbrev pub fresh_array : {C S : Type 0} → ArrayKind C → ℕ → Object C S
fresh_array kind length = array kind (replicate length (zero_of kind))

-- what is kept under a key, among entries in the order of their keys
abbrev pub kept : {K : Type 0} → (K → K → Ordering) → K → List (K × ℕ) → Option ℕ
kept order key entries = lookup (is_at (order key)) entries

-- texts in the order of their units
abbrev pub text_cmp : List ℕ → List ℕ → Ordering
text_cmp = slice_cmp nat_cmp

abbrev pub keep_text : {C S : Type 0} → List ℕ → ℕ × Heap C S → ℕ × Heap C S
keep_text units made =
    (made.0, record { objects = made.1.objects; cells = made.1.cells; texts = insert_entry text_cmp made.1.texts units made.0; ints = made.1.ints; longs = made.1.longs; booleans = made.1.booleans })

abbrev pub kept_or : {C S : Type 0} → Option ℕ → Heap C S → Option (ℕ × Heap C S) → Option (ℕ × Heap C S)
kept_or (Some n) h otherwise = Some (n, h)
kept_or None h otherwise = otherwise

-- The text of a string constant: equal constants have one (JVMS 5.1).
unfoldable pub constant_text : {C S : Type 0} → List ℕ → Heap C S → Option (ℕ × Heap C S)
constant_text units h = kept_or (kept text_cmp units h.texts) h (option_map (keep_text units) (allocated (text units) h))

-- a value of which one box is kept
abbrev pub is_small : ℤ → Bool
is_small n = int_le (negsuc 127) n && int_le n (pos 127)

abbrev pub keep_int : {C S : Type 0} → ℤ → ℕ × Heap C S → ℕ × Heap C S
keep_int n made =
    (made.0, record { objects = made.1.objects; cells = made.1.cells; texts = made.1.texts; ints = insert_entry int_cmp made.1.ints n made.0; longs = made.1.longs; booleans = made.1.booleans })

-- `Integer.valueOf`
unfoldable pub box_of_int : {C S : Type 0} → ℤ → Heap C S → Option (ℕ × Heap C S)
box_of_int n h =
    if is_small n then kept_or (kept int_cmp n h.ints) h (option_map (keep_int n) (allocated (boxed_int n) h))
    else allocated (boxed_int n) h

abbrev pub keep_long : {C S : Type 0} → ℤ → ℕ × Heap C S → ℕ × Heap C S
keep_long n made =
    (made.0, record { objects = made.1.objects; cells = made.1.cells; texts = made.1.texts; ints = made.1.ints; longs = insert_entry int_cmp made.1.longs n made.0; booleans = made.1.booleans })

-- `Long.valueOf`
unfoldable pub box_of_long : {C S : Type 0} → ℤ → Heap C S → Option (ℕ × Heap C S)
box_of_long n h =
    if is_small n then kept_or (kept int_cmp n h.longs) h (option_map (keep_long n) (allocated (boxed_long n) h))
    else allocated (boxed_long n) h

abbrev pub keep_boolean : {C S : Type 0} → Bool → ℕ × Heap C S → ℕ × Heap C S
keep_boolean b made =
    (made.0, record { objects = made.1.objects; cells = made.1.cells; texts = made.1.texts; ints = made.1.ints; longs = made.1.longs; booleans = insert_entry bool_cmp made.1.booleans b made.0 })

-- `Boolean.valueOf`
unfoldable pub box_of_boolean : {C S : Type 0} → Bool → Heap C S → Option (ℕ × Heap C S)
box_of_boolean b h = kept_or (kept bool_cmp b h.booleans) h (option_map (keep_boolean b) (allocated (boxed_boolean b) h))

-- the slots of an object that has any: fields, elements or captured values
abbrev pub slots_of : {C S : Type 0} → Object C S → List Slot
slots_of (plain class fields) = fields
slots_of (throwable class fields message cause) = fields
slots_of (enumerated class fields name ordinal) = fields
slots_of (array kind elements) = elements
slots_of (lambda site captured) = captured
slots_of _ = []

-- the same object with other slots
abbrev pub with_slots : {C S : Type 0} → Object C S → List Slot → Object C S
with_slots (plain class fields) new = plain class new
with_slots (throwable class fields message cause) new = throwable class new message cause
with_slots (enumerated class fields name ordinal) new = enumerated class new name ordinal
with_slots (array kind elements) new = array kind new
with_slots (lambda site captured) new = lambda site new
with_slots o new = o

-- a slot of an object by its place
unfoldable pub slot_at : {C S : Type 0} → ℕ → ℕ → Heap C S → Option Slot
slot_at n place h = option_and_then (λ o. slice_get (slots_of o) place) (object_at n h)

-- an object's slot is set, where the place is there
abbrev pub set_slot : {C S : Type 0} → ℕ → ℕ → Slot → Heap C S → Object C S → Option (Heap C S)
set_slot n place slot h o =
    if nat_lt place (length (slots_of o)) then Some (replaced n (with_slots o (slice_set (slots_of o) place slot)) h) else None

unfoldable pub with_slot : {C S : Type 0} → ℕ → ℕ → Slot → Heap C S → Option (Heap C S)
with_slot n place slot h = option_and_then (set_slot n place slot h) (object_at n h)
