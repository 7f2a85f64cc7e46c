-- Natives of Object, of arrays, of Objects, of Enum and of throwables.
use Rattle.std.specs.Prelude.{ℕ, zero, suc, ◌==◌, ℤ, pos, true, false, List, [], ◌∷◌, ◌++◌, codes, Option, Some, None, if◌then◌else◌}
use Rattle.jvm_tables.specs.declared.natives.Callback.TheVariants.{ToString, Equals}
use Rattle.jvm_heap.specs.declared.slot.Slot.{Slot}
use Rattle.jvm_heap.specs.declared.slot.Slot.TheVariants.{Ref}
use Rattle.jvm_heap.specs.Objects.{ArrayKind, throwable, enumerated, array}
use Rattle.jvm_heap.specs.Heaps.{object_at, allocated, replaced}
use Rattle.native_model.specs.Texts.{dotted, hexadecimal}
use Rattle.native_model.specs.Worlds.{NamedObject, World, with_heap, class_of, as_text, as_array, seen}
use Rattle.native_model.specs.Thrown.{null_pointer, incompatible_change}
use Rattle.native_model.specs.Answers.{Answer, throws, Progress, results, gives_nothing, gives_int, gives_truth, gives_reference, gives_made, gives_text, or_mismatch, on, calls, is_true}

-- Object

abbrev pub object_made : ℕ → World → Answer
object_made o w = gives_nothing w

-- the class's name with dots, `@`, and the number
abbrev pub object_text : ℕ → World → Answer
object_text o w = or_mismatch (object_at o w.heap) (λ object. gives_text (dotted (class_of object) ++ codes "@" ++ hexadecimal o) w)

-- its number
abbrev pub object_hash : ℕ → World → Answer
object_hash o w = gives_int (pos o) w

abbrev pub object_equals : ℕ → ℕ → World → Answer
object_equals o other w = gives_truth (o == other) w

-- arrays: another one with the same elements

abbrev pub copied : World → ArrayKind (List ℕ) × List Slot → Answer
copied w a = gives_made w (allocated (array a.0 a.1) w.heap)

abbrev pub array_clone : ℕ → World → Answer
array_clone o w = on as_array o w (copied w)

-- Objects

abbrev pub required : ℕ → World → Answer
required zero w = throws null_pointer
required (suc o) w = gives_reference (suc o) w

abbrev pub equality_given : World → List Slot → Answer
equality_given w [] = gives_truth false w
equality_given w (slot ∷ slots) = gives_truth (is_true slot) w

-- `a.equals(b)`, where both are there and two objects
abbrev pub equality_asked : ℕ → ℕ → Progress → World → Answer
equality_asked a b p w = if p.answered == 0 then calls Equals (Ref a ∷ Ref b ∷ []) else equality_given w (results p)

abbrev pub objects_equal : ℕ → ℕ → Progress → World → Answer
objects_equal zero b p w = gives_truth (b == 0) w
objects_equal (suc a) b p w = if suc a == b then gives_truth true w else equality_asked (suc a) b p w

-- Enum

abbrev pub enum_made_of : ℕ → ℕ → ℤ → World → Option NamedObject → Answer
enum_made_of o name ordinal w (Some (enumerated class fields before at)) =
    gives_nothing (with_heap (replaced o (enumerated class fields name ordinal) w.heap) w)
enum_made_of o name ordinal w _ = throws incompatible_change

abbrev pub enum_made : ℕ → ℕ → ℤ → World → Answer
enum_made o name ordinal w = enum_made_of o name ordinal w (object_at o w.heap)

abbrev pub name_of : NamedObject → Option ℕ
name_of (enumerated class fields name ordinal) = Some name
name_of _ = None

abbrev pub ordinal_of : NamedObject → Option ℤ
ordinal_of (enumerated class fields name ordinal) = Some ordinal
ordinal_of _ = None

-- `name()` and `toString()`
abbrev pub enum_name : ℕ → World → Answer
enum_name o w = on name_of o w (λ name. gives_reference name w)

abbrev pub enum_ordinal : ℕ → World → Answer
enum_ordinal o w = on ordinal_of o w (λ ordinal. gives_int ordinal w)

-- throwables

abbrev pub throwable_with : ℕ → ℕ → ℕ → World → Option NamedObject → Answer
throwable_with o message cause w (Some (throwable class fields old before)) =
    gives_nothing (with_heap (replaced o (throwable class fields message cause) w.heap) w)
throwable_with o message cause w _ = throws incompatible_change

-- a throwable gets its message and its cause, 0 where it has none
abbrev pub throwable_made : ℕ → ℕ → ℕ → World → Answer
throwable_made o message cause w = throwable_with o message cause w (object_at o w.heap)

abbrev pub message_given : ℕ → ℕ → World → List Slot → Answer
message_given o cause w (Ref message ∷ slots) = throwable_made o message cause w
message_given o cause w _ = throws incompatible_change

-- its message is the text of its cause
abbrev pub throwable_caused : ℕ → ℕ → Progress → World → Answer
throwable_caused o zero p w = throwable_made o 0 0 w
throwable_caused o (suc cause) p w =
    if p.answered == 0 then calls ToString (Ref (suc cause) ∷ []) else message_given o (suc cause) w (results p)

abbrev pub message_of : NamedObject → Option ℕ
message_of (throwable class fields message cause) = Some message
message_of _ = None

abbrev pub cause_of : NamedObject → Option ℕ
cause_of (throwable class fields message cause) = Some cause
cause_of _ = None

abbrev pub throwable_message : ℕ → World → Answer
throwable_message o w = on message_of o w (λ message. gives_reference message w)

abbrev pub throwable_cause : ℕ → World → Answer
throwable_cause o w = on cause_of o w (λ cause. gives_reference cause w)

-- it has no effect
abbrev pub suppressed_added : ℕ → ℕ → World → Answer
suppressed_added o other w = gives_nothing w

abbrev pub after_colon : Option (List ℕ) → List ℕ
after_colon None = []
after_colon (Some units) = codes ": " ++ units

-- the class's name with dots, and where it holds a message a colon, a blank and that
abbrev pub throwable_told : World → Option NamedObject → Answer
throwable_told w (Some (throwable class fields message cause)) = gives_text (dotted class ++ after_colon (seen as_text message w)) w
throwable_told w _ = throws incompatible_change

abbrev pub throwable_text : ℕ → World → Answer
throwable_text o w = throwable_told w (object_at o w.heap)
