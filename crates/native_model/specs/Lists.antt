-- Natives of lists, of iterators and of mill/Lists. A list that changes while a native passes over it is passed over as it
-- then is.
use Rattle.std.specs.Prelude.{ℕ, zero, suc, ◌+◌, ◌-◌, ◌==◌, nat_lt, ℤ, pos, unsigned_abs, Bool, true, false, not, List, [], ◌∷◌, ◌++◌, length, map, filter, codes, bytes_eq, nat_eq, slice_get, slice_index, slice_set, position, Option, Some, None, is_some, option_map, option_and_then, unwrap_or, if◌then◌else◌}
use Rattle.std.specs.List.{list_any}
use Rattle.jvm_tables.specs.declared.natives.Callback.TheVariants.{ToString, Equals, Accept, Apply, ApplyTwo, Test}
use Rattle.jvm_heap.specs.declared.slot.Slot.{Slot}
use Rattle.jvm_heap.specs.declared.slot.Slot.TheVariants.{Int, Ref}
use Rattle.jvm_heap.specs.Objects.{listed, iterator}
use Rattle.jvm_heap.specs.Heaps.{allocated, replaced, grown}
use Rattle.native_model.specs.Worlds.{World, with_heap, as_list, as_iterator, as_array, seen}
use Rattle.native_model.specs.Thrown.{null_pointer, class_cast, unsupported, no_such_element, list_bounds}
use Rattle.native_model.specs.Answers.{Answer, throws, Progress, last_value, results, gives_nothing, gives_int, gives_truth, gives_reference, gives_made, gives_text, gives_within, on, or_mismatch, calls, text_given, is_true}
use Rattle.native_model.specs.Strings.{is_index, place_or_less}

-- the list of a number; a class of the build that has no such method is no list
abbrev pub or_cast : {A : Type 0} → Option A → (A → Answer) → Answer
or_cast None next = throws class_cast
or_cast (Some a) next = next a

abbrev pub on_list : ℕ → World → (List ℕ × List ℕ → Answer) → Answer
on_list l w next = or_cast (seen as_list l w) next

abbrev pub fixed_list : List ℕ
fixed_list = codes "mill/FixedList"

abbrev pub is_fixed : List ℕ → Bool
is_fixed class = bytes_eq class fixed_list

-- a list that can't change
abbrev pub gives_list : List ℕ → World → Answer
gives_list numbers w = gives_made w (allocated (listed fixed_list numbers) w.heap)

-- ArrayList

abbrev pub list_made : ℕ → World → Answer
list_made l w = gives_nothing w

-- any number is taken
abbrev pub list_made_for : ℕ → ℤ → World → Answer
list_made_for l n w = gives_nothing w

-- lists

abbrev pub list_size : ℕ → World → Answer
list_size l w = on_list l w (λ list. gives_int (pos (length list.1)) w)

abbrev pub list_is_empty : ℕ → World → Answer
list_is_empty l w = on_list l w (λ list. gives_truth (length list.1 == 0) w)

abbrev pub element_of : List ℕ → ℤ → World → Answer
element_of numbers i w =
    if is_index i (length numbers) then gives_reference (slice_index numbers (unsigned_abs i)) w else throws (list_bounds i (length numbers))

abbrev pub list_get : ℕ → ℤ → World → Answer
list_get l i w = on_list l w (λ list. element_of list.1 i w)

abbrev pub with_element : ℕ → ℤ → ℕ → World → List ℕ × List ℕ → World
with_element l i o w list = with_heap (replaced l (listed list.0 (slice_set list.1 (unsigned_abs i) o)) w.heap) w

-- the element that was there is given
abbrev pub element_set : ℕ → ℤ → ℕ → World → List ℕ × List ℕ → Answer
element_set l i o w list =
    if is_fixed list.0 then throws unsupported
    else if is_index i (length list.1) then gives_reference (slice_index list.1 (unsigned_abs i)) (with_element l i o w list)
    else throws (list_bounds i (length list.1))

abbrev pub list_set : ℕ → ℤ → ℕ → World → Answer
list_set l i o w = on_list l w (element_set l i o w)

abbrev pub element_added : ℕ → ℕ → World → List ℕ × List ℕ → Answer
element_added l o w list =
    if is_fixed list.0 then throws unsupported
    else gives_within (Some (Int (pos 1))) w (grown l (listed list.0 (list.1 ++ o ∷ [])) 1 w.heap)

abbrev pub list_add : ℕ → ℕ → World → Answer
list_add l o w = on_list l w (element_added l o w)

-- Where the last answer is true the element before the next one is found; else the next one is asked for, if there is one.
-- The argument is asked, `o.equals(element)`, and null is looked for without asking.
abbrev pub asked_further : ℕ → List ℕ → Progress → (Option ℕ → Answer) → Option ℕ → Answer
asked_further o numbers p next None = next None
asked_further o numbers p next (Some element) = calls Equals (Ref o ∷ Ref element ∷ [])

abbrev pub searched_on : ℕ → List ℕ → Progress → (Option ℕ → Answer) → Bool → Answer
searched_on o numbers p next true = next (Some (p.answered - 1))
searched_on o numbers p next false = asked_further o numbers p next (slice_get numbers p.answered)

abbrev pub last_is_true : Progress → Bool
last_is_true p = list_any is_true (last_value p.last)

abbrev pub searched : ℕ → List ℕ → Progress → (Option ℕ → Answer) → Answer
searched zero numbers p next = next (position (nat_eq 0) numbers)
searched (suc o) numbers p next = searched_on (suc o) numbers p next (last_is_true p)

abbrev pub list_contains : ℕ → ℕ → Progress → World → Answer
list_contains l o p w = on_list l w (λ list. searched o list.1 p (λ found. gives_truth (is_some found) w))

abbrev pub list_index : ℕ → ℕ → Progress → World → Answer
list_index l o p w = on_list l w (λ list. searched o list.1 p (λ found. gives_int (place_or_less found) w))

abbrev pub list_iterator : ℕ → World → Answer
list_iterator l w = on_list l w (λ list. gives_made w (allocated (iterator l 0) w.heap))

-- The next element is handed to a callback, until there is none.
abbrev pub each_element : List ℕ → Progress → (ℕ → Answer) → Answer → Answer
each_element numbers p handed ended = unwrap_or (option_map handed (slice_get numbers p.answered)) ended

-- `forEach` of a list, and `each` of mill/Lists
abbrev pub list_each : ℕ → ℕ → Progress → World → Answer
list_each l f p w = on_list l w (λ list. each_element list.1 p (λ element. calls Accept (Ref f ∷ Ref element ∷ [])) (gives_nothing w))

abbrev pub is_there : ℕ → Bool
is_there o = not (o == 0)

-- the texts of elements, with those that callbacks gave for the ones that are there
abbrev pub element_texts : List ℕ → List (List ℕ) → List (List ℕ)
element_texts [] texts = []
element_texts (zero ∷ numbers) texts = codes "null" ∷ element_texts numbers texts
element_texts (suc o ∷ numbers) [] = codes "null" ∷ element_texts numbers []
element_texts (suc o ∷ numbers) (text ∷ texts) = text ∷ element_texts numbers texts

abbrev pub with_commas : List (List ℕ) → List ℕ
with_commas [] = []
with_commas (text ∷ []) = text
with_commas (text ∷ other ∷ texts) = text ++ codes ", " ++ with_commas (other ∷ texts)

-- all texts that were given, where each is one
abbrev pub texts_given : List Slot → World → Option (List (List ℕ))
texts_given [] w = Some []
texts_given (slot ∷ slots) w =
    option_and_then (λ text. option_map (λ texts. text ∷ texts) (texts_given slots w)) (text_given slot w)

abbrev pub list_told : List ℕ → Progress → World → Answer
list_told numbers p w =
    or_mismatch (texts_given (results p) w) (λ texts. gives_text (codes "[" ++ with_commas (element_texts numbers texts) ++ codes "]") w)

-- of the form `[a, b]`
abbrev pub list_text : ℕ → Progress → World → Answer
list_text l p w =
    on_list l w (λ list. each_element (filter is_there list.1) p (λ element. calls ToString (Ref element ∷ [])) (list_told list.1 p w))

abbrev pub list_equals : ℕ → ℕ → World → Answer
list_equals l o w = throws unsupported

abbrev pub list_hash : ℕ → World → Answer
list_hash l w = throws unsupported

-- List.of

abbrev pub list_of : List ℕ → World → Answer
list_of numbers w = if list_any (nat_eq 0) numbers then throws null_pointer else gives_list numbers w

abbrev pub number_in : Slot → ℕ
number_in (Ref n) = n
number_in _ = 0

abbrev pub list_of_array : ℕ → World → Answer
list_of_array a w = on as_array a w (λ found. list_of (map number_in found.1) w)

-- Iterator

abbrev pub on_iterator : ℕ → World → (ℕ × ℕ → Answer) → Answer
on_iterator i w next = or_cast (seen as_iterator i w) next

abbrev pub iterator_has_next : ℕ → World → Answer
iterator_has_next i w = on_iterator i w (λ it. on_list it.0 w (λ list. gives_truth (nat_lt it.1 (length list.1)) w))

abbrev pub moved : ℕ → ℕ × ℕ → World → World
moved i it w = with_heap (replaced i (iterator it.0 (it.1 + 1)) w.heap) w

abbrev pub next_of : ℕ → ℕ × ℕ → World → Option ℕ → Answer
next_of i it w None = throws no_such_element
next_of i it w (Some element) = gives_reference element (moved i it w)

abbrev pub iterator_next : ℕ → World → Answer
iterator_next i w = on_iterator i w (λ it. on_list it.0 w (λ list. next_of i it w (slice_get list.1 it.1)))

-- mill/Lists

abbrev pub list_map : ℕ → ℕ → Progress → World → Answer
list_map l f p w =
    on_list l w (λ list. each_element list.1 p (λ element. calls Apply (Ref f ∷ Ref element ∷ [])) (gives_list (map number_in (results p)) w))

-- the elements for which the answer is true
abbrev pub passed : List ℕ → List Slot → List ℕ
passed [] slots = []
passed (o ∷ numbers) [] = []
passed (o ∷ numbers) (slot ∷ slots) = if is_true slot then o ∷ passed numbers slots else passed numbers slots

abbrev pub list_filter : ℕ → ℕ → Progress → World → Answer
list_filter l f p w =
    on_list l w (λ list. each_element list.1 p (λ element. calls Test (Ref f ∷ Ref element ∷ [])) (gives_list (passed list.1 (results p)) w))

-- the value so far: the last answer, and the first one before any
abbrev pub last_or : ℕ → List Slot → ℕ
last_or o [] = o
last_or o (slot ∷ slots) = last_or (number_in slot) slots

abbrev pub list_fold : ℕ → ℕ → ℕ → Progress → World → Answer
list_fold l o f p w =
    on_list l w
    (λ list. each_element list.1 p (λ element. calls ApplyTwo (Ref f ∷ Ref (last_or o (results p)) ∷ Ref element ∷ [])) (gives_reference (last_or o (results p)) w))
