-- Natives of String and StringBuilder.
use Rattle.std.specs.Prelude.{ℕ, zero, suc, ◌-◌, ◌==◌, ℤ, pos, negsuc, int_lt, int_le, unsigned_abs, Bool, false, not, ◌&&◌, List, [], ◌∷◌, ◌++◌, length, take, drop, codes, bytes_eq, nat_eq, slice_index, Option, Some, None, is_some, if◌then◌else◌}
use Rattle.std.specs.List.{starts_with, ends_with}
use Rattle.std.specs.Fmt.{signed_decimal}
use Rattle.jvm_tables.specs.declared.natives.Callback.TheVariants.{ToString}
use Rattle.jvm_heap.specs.declared.slot.Slot.{Slot}
use Rattle.jvm_heap.specs.declared.slot.Slot.TheVariants.{Ref}
use Rattle.jvm_heap.specs.Objects.{builder}
use Rattle.jvm_heap.specs.Heaps.{grown}
use Rattle.native_model.specs.Texts.{truth_text, unit_of, hash_of_text, compared_texts, place_from}
use Rattle.native_model.specs.Worlds.{World, as_text, as_builder, seen}
use Rattle.native_model.specs.Thrown.{text_bounds, unsupported, incompatible_change}
use Rattle.native_model.specs.Answers.{Answer, throws, Progress, results, gives_int, gives_truth, gives_reference, gives_text, gives_within, on, or_mismatch, calls, text_given}

-- String

abbrev pub text_length : ℕ → World → Answer
text_length s w = on as_text s w (λ units. gives_int (pos (length units)) w)

abbrev pub text_is_empty : ℕ → World → Answer
text_is_empty s w = on as_text s w (λ units. gives_truth (length units == 0) w)

-- an index of a list of so many
abbrev pub is_index : ℤ → ℕ → Bool
is_index i n = int_le (pos 0) i && int_lt i (pos n)

abbrev pub char_at : List ℕ → ℤ → World → Answer
char_at units i w =
    if is_index i (length units) then gives_int (pos (slice_index units (unsigned_abs i))) w else throws (text_bounds i (length units))

abbrev pub text_char_at : ℕ → ℤ → World → Answer
text_char_at s i w = on as_text s w (λ units. char_at units i w)

abbrev pub is_between : ℤ → ℤ → ℤ → Bool
is_between low high n = int_le low n && int_le n high

abbrev pub part : List ℕ → ℕ → ℕ → List ℕ
part units from to = take (to - from) (drop from units)

-- The first index is bad outside 0 to the length, else the second outside the first to the length.
abbrev pub substring : List ℕ → ℤ → ℤ → World → Answer
substring units from to w =
    if not (is_between (pos 0) (pos (length units)) from) then throws (text_bounds from (length units))
    else if not (is_between from (pos (length units)) to) then throws (text_bounds to (length units))
    else gives_text (part units (unsigned_abs from) (unsigned_abs to)) w

abbrev pub text_from : ℕ → ℤ → World → Answer
text_from s from w = on as_text s w (λ units. substring units from (pos (length units)) w)

abbrev pub text_between : ℕ → ℤ → ℤ → World → Answer
text_between s from to w = on as_text s w (λ units. substring units from to w)

-- both are texts
abbrev pub on_texts : ℕ → ℕ → World → (List ℕ → List ℕ → Answer) → Answer
on_texts s other w next = on as_text s w (λ units. on as_text other w (λ others. next units others))

abbrev pub place_or_less : Option ℕ → ℤ
place_or_less None = negsuc 0
place_or_less (Some at) = pos at

abbrev pub text_index : ℕ → ℕ → World → Answer
text_index s other w = on_texts s other w (λ units others. gives_int (place_or_less (place_from 0 others units)) w)

abbrev pub text_starts : ℕ → ℕ → World → Answer
text_starts s other w = on_texts s other w (λ units others. gives_truth (starts_with nat_eq units others) w)

abbrev pub text_ends : ℕ → ℕ → World → Answer
text_ends s other w = on_texts s other w (λ units others. gives_truth (ends_with nat_eq units others) w)

abbrev pub text_concat : ℕ → ℕ → World → Answer
text_concat s other w = on_texts s other w (λ units others. gives_text (units ++ others) w)

abbrev pub text_compare : ℕ → ℕ → World → Answer
text_compare s other w = on_texts s other w (λ units others. gives_int (compared_texts units others) w)

abbrev pub is_same_text : List ℕ → Option (List ℕ) → Bool
is_same_text units None = false
is_same_text units (Some others) = bytes_eq units others

abbrev pub text_equals : ℕ → ℕ → World → Answer
text_equals s other w = on as_text s w (λ units. gives_truth (is_same_text units (seen as_text other w)) w)

abbrev pub text_hash : ℕ → World → Answer
text_hash s w = on as_text s w (λ units. gives_int (hash_of_text units) w)

-- `toString()` is the same object
abbrev pub text_itself : ℕ → World → Answer
text_itself s w = gives_reference s w

abbrev pub contained : List ℕ → World → Option (List ℕ) → Answer
contained units w None = throws unsupported
contained units w (Some others) = gives_truth (is_some (place_from 0 others units)) w

-- of a String alone
abbrev pub text_contains : ℕ → ℕ → World → Answer
text_contains s other w = on as_text s w (λ units. contained units w (seen as_text other w))

abbrev pub text_of_number : ℤ → World → Answer
text_of_number n w = gives_text (signed_decimal n) w

abbrev pub text_of_truth : ℤ → World → Answer
text_of_truth n w = gives_text (truth_text n) w

abbrev pub text_of_char : ℤ → World → Answer
text_of_char n w = gives_text (unit_of n ∷ []) w

abbrev pub reference_given : World → List Slot → Answer
reference_given w (Ref n ∷ slots) = gives_reference n w
reference_given w _ = throws incompatible_change

-- what its `toString` gives
abbrev pub text_of_object : ℕ → Progress → World → Answer
text_of_object zero p w = gives_text (codes "null") w
text_of_object (suc o) p w = if p.answered == 0 then calls ToString (Ref (suc o) ∷ []) else reference_given w (results p)

-- StringBuilder

abbrev pub append_to : ℕ → List ℕ → World → List ℕ → Answer
append_to b more w units = gives_within (Some (Ref b)) w (grown b (builder (units ++ more)) (length more) w.heap)

-- units are appended, and the builder is given
abbrev pub appended : ℕ → List ℕ → World → Answer
appended b more w = on as_builder b w (append_to b more w)

abbrev pub builder_filled : ℕ → List ℕ → World → List ℕ → Answer
builder_filled b more w units = gives_within None w (grown b (builder (units ++ more)) (length more) w.heap)

abbrev pub builder_made : ℕ → ℕ → World → Answer
builder_made b s w = on as_text s w (λ more. on as_builder b w (builder_filled b more w))

abbrev pub builder_text : ℕ → World → Answer
builder_text b w = on as_builder b w (λ units. gives_text units w)

abbrev pub builder_length : ℕ → World → Answer
builder_length b w = on as_builder b w (λ units. gives_int (pos (length units)) w)

abbrev pub append_text : ℕ → ℕ → World → Answer
append_text b zero w = appended b (codes "null") w
append_text b (suc s) w = on as_text (suc s) w (λ more. appended b more w)

abbrev pub append_number : ℕ → ℤ → World → Answer
append_number b n w = appended b (signed_decimal n) w

abbrev pub append_char : ℕ → ℤ → World → Answer
append_char b n w = appended b (unit_of n ∷ []) w

abbrev pub append_truth : ℕ → ℤ → World → Answer
append_truth b n w = appended b (truth_text n) w

abbrev pub append_given : ℕ → World → List Slot → Answer
append_given b w [] = throws incompatible_change
append_given b w (slot ∷ slots) = or_mismatch (text_given slot w) (λ more. appended b more w)

abbrev pub append_object : ℕ → ℕ → Progress → World → Answer
append_object b zero p w = appended b (codes "null") w
append_object b (suc o) p w = if p.answered == 0 then calls ToString (Ref (suc o) ∷ []) else append_given b w (results p)
