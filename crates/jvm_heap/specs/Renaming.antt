-- A heap whose classes and sites are told otherwise: the machine's definition tells them by name, and the code by place.
-- Whatever is done with a heap is done alike with both.
use Rattle.std.specs.Prelude.{◌≡◌, ℕ, ℤ, Bool, List, map, Option, option_map}
use Rattle.jvm_heap.specs.declared.slot.Slot.{Slot}
use Rattle.jvm_heap.specs.Objects.{Base, primitive, of_class, ArrayKind, Object, plain, throwable, enumerated, array, text, boxed_int, boxed_long, boxed_boolean, listed, builder, iterator, path_reference, lambda, cells_of}
use Rattle.jvm_heap.specs.Heaps.{Heap, empty, object_at, allocated, replaced, grown, zero_of, fresh_array, constant_text, box_of_int, box_of_long, box_of_boolean, slots_of, with_slots, slot_at, with_slot}
use Rattle.jvm_heap.specs.Changes.{with_last, with_element, with_units, with_next, with_message, with_name, changed, enlarged}

abbrev pub renamed_base : {C D : Type 0} → (C → D) → Base C → Base D
renamed_base f (primitive kind) = primitive kind
renamed_base f (of_class class) = of_class (f class)

abbrev pub renamed_kind : {C D : Type 0} → (C → D) → ArrayKind C → ArrayKind D
renamed_kind f kind = record { base = renamed_base f kind.base; depth = kind.depth }

-- by how a class is told now, and how a site is
abbrev pub renamed_object : {C D S T : Type 0} → (C → D) → (S → T) → Object C S → Object D T
renamed_object f g (plain class fields) = plain (f class) fields
renamed_object f g (throwable class fields message cause) = throwable (f class) fields message cause
renamed_object f g (enumerated class fields name ordinal) = enumerated (f class) fields name ordinal
renamed_object f g (array kind elements) = array (renamed_kind f kind) elements
renamed_object f g (text units) = text units
renamed_object f g (boxed_int n) = boxed_int n
renamed_object f g (boxed_long n) = boxed_long n
renamed_object f g (boxed_boolean b) = boxed_boolean b
renamed_object f g (listed class elements) = listed (f class) elements
renamed_object f g (builder units) = builder units
renamed_object f g (iterator list next) = iterator list next
renamed_object f g (path_reference owner path) = path_reference owner path
renamed_object f g (lambda site captured) = lambda (g site) captured

unfoldable pub renamed : {C D S T : Type 0} → (C → D) → (S → T) → Heap C S → Heap D T
renamed f g h =
    record { objects = map (renamed_object f g) h.objects; cells = h.cells; texts = h.texts; ints = h.ints; longs = h.longs; booleans = h.booleans }

-- a number and the heap in which its object was made
abbrev pub renamed_made : {C D S T : Type 0} → (C → D) → (S → T) → ℕ × Heap C S → ℕ × Heap D T
renamed_made f g made = (made.0, renamed f g made.1)

-- a change of objects and one of renamed objects are the same change
abbrev pub SameChange : {C D S T : Type 0} → (C → D) → (S → T) → (Object C S → Option (Object C S)) → (Object D T → Option (Object D T)) → Type 0
SameChange {C} {D} {S} {T} f g before after = (o : Object C S) → after (renamed_object f g o) ≡ option_map (renamed_object f g) (before o)

-- Objects are told and changed alike whether they are renamed before or after.
pub record ObjectsRenamed {C D S T : Type 0} (f : C → D) (g : S → T) : Type 0 where
  pub cells : (o : Object C S) → cells_of (renamed_object f g o) ≡ cells_of o
  pub slots : (o : Object C S) → slots_of (renamed_object f g o) ≡ slots_of o
  pub with_slots : (o : Object C S) (slots : List Slot) → with_slots (renamed_object f g o) slots ≡ renamed_object f g (with_slots o slots)
  pub zero_of : (kind : ArrayKind C) → zero_of (renamed_kind f kind) ≡ zero_of kind
  pub fresh_array : (kind : ArrayKind C) (n : ℕ) → renamed_object f g (fresh_array kind n) ≡ fresh_array (renamed_kind f kind) n
  pub with_last : (element : ℕ) → SameChange f g (with_last element) (with_last element)
  pub with_element : (place element : ℕ) → SameChange f g (with_element place element) (with_element place element)
  pub with_units : (units : List ℕ) → SameChange f g (with_units units) (with_units units)
  pub with_next : (next : ℕ) → SameChange f g (with_next next) (with_next next)
  pub with_message : (message cause : ℕ) → SameChange f g (with_message message cause) (with_message message cause)
  pub with_name : (name : ℕ) (ordinal : ℤ) → SameChange f g (with_name name ordinal) (with_name name ordinal)

-- Heaps are read and changed alike whether they are renamed before or after.
pub record HeapsRenamed {C D S T : Type 0} (f : C → D) (g : S → T) : Type 0 where
  pub empty : renamed f g empty ≡ empty
  pub object_at : (n : ℕ) (h : Heap C S) → object_at n (renamed f g h) ≡ option_map (renamed_object f g) (object_at n h)
  pub slot_at : (n place : ℕ) (h : Heap C S) → slot_at n place (renamed f g h) ≡ slot_at n place h
  pub allocated : (o : Object C S) (h : Heap C S) → allocated (renamed_object f g o) (renamed f g h) ≡ option_map (renamed_made f g) (allocated o h)
  pub constant_text : (units : List ℕ) (h : Heap C S) → constant_text units (renamed f g h) ≡ option_map (renamed_made f g) (constant_text units h)
  pub box_of_int : (n : ℤ) (h : Heap C S) → box_of_int n (renamed f g h) ≡ option_map (renamed_made f g) (box_of_int n h)
  pub box_of_long : (n : ℤ) (h : Heap C S) → box_of_long n (renamed f g h) ≡ option_map (renamed_made f g) (box_of_long n h)
  pub box_of_boolean : (b : Bool) (h : Heap C S) → box_of_boolean b (renamed f g h) ≡ option_map (renamed_made f g) (box_of_boolean b h)
  pub replaced : (n : ℕ) (o : Object C S) (h : Heap C S) → replaced n (renamed_object f g o) (renamed f g h) ≡ renamed f g (replaced n o h)
  pub grown : (n : ℕ) (o : Object C S) (more : ℕ) (h : Heap C S) → grown n (renamed_object f g o) more (renamed f g h) ≡ option_map (renamed f g) (grown n o more h)
  pub with_slot : (n place : ℕ) (slot : Slot) (h : Heap C S) → with_slot n place slot (renamed f g h) ≡ option_map (renamed f g) (with_slot n place slot h)
  pub changed : (before : Object C S → Option (Object C S)) (after : Object D T → Option (Object D T)) (n : ℕ) (h : Heap C S) → SameChange f g before after → changed after n (renamed f g h) ≡ option_map (renamed f g) (changed before n h)
  pub enlarged : (before : Object C S → Option (Object C S)) (after : Object D T → Option (Object D T)) (n more : ℕ) (h : Heap C S) → SameChange f g before after → enlarged after n more (renamed f g h) ≡ option_map (renamed f g) (enlarged before n more h)
