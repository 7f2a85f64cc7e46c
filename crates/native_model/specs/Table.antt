-- What each row of the table of natives does, in the order of the table.
use Rattle.std.specs.Prelude.{ℕ, zero, suc, ℤ, List, [], ◌∷◌, ◌++◌, slice_get, Option, Some, None, option_map, option_and_then}
use Rattle.jvm_tables.specs.declared.instruction.ValueKind.{ValueKind}
use Rattle.jvm_tables.specs.declared.instruction.ValueKind.TheVariants as values
use Rattle.jvm_heap.specs.declared.slot.Slot.{Slot}
use Rattle.jvm_heap.specs.declared.slot.Slot.TheVariants.{Int, Long, Ref}
use Rattle.jvm_heap.specs.Operands.{ValueOf, Values}
use Rattle.native_model.specs.Worlds.{World}
use Rattle.native_model.specs.Answers.{Answer, Progress}
use Rattle.native_model.specs.Plain.{object_made, object_text, object_hash, object_equals, array_clone, required, objects_equal, enum_made, enum_name, enum_ordinal, throwable_made, throwable_caused, throwable_message, throwable_cause, suppressed_added, throwable_text}
use Rattle.native_model.specs.Strings.{text_length, text_is_empty, text_char_at, text_from, text_between, text_index, text_starts, text_ends, text_concat, text_compare, text_equals, text_hash, text_itself, text_contains, text_of_number, text_of_truth, text_of_char, text_of_object, builder_made, builder_text, builder_length, append_text, append_number, append_char, append_truth, append_object}
use Rattle.native_model.specs.Numbers.{int_box, int_parsed, int_text, int_sum, int_of_box, long_of_int_box, int_box_equals, int_box_text, long_box, long_parsed, long_sum, int_of_long_box, long_of_box, long_box_equals, long_box_hash, long_box_text, boolean_box, boolean_of_box, boolean_box_equals, boolean_box_hash, boolean_box_text, int_abs, long_abs, int_greater, long_greater, int_less, long_less}
use Rattle.native_model.specs.Lists.{list_made, list_made_for, list_size, list_is_empty, list_get, list_set, list_add, list_contains, list_index, list_iterator, list_each, list_text, list_equals, list_hash, list_of, list_of_array, iterator_has_next, iterator_next, list_map, list_filter, list_fold}
use Rattle.native_model.specs.Outside.{fs_read, fs_size, fs_list, fs_write, fs_dest, reference_sub, log_info, env_get, env_now}

-- A native by the kinds of its arguments, the receiver first; the places of those that may not be null, the receiver left
-- out; and its answer to arguments, to how far it is, and to the world.
pub record Case : Type 0 where
  pub kinds : List ValueKind
  pub wanted : List ℕ
  pub answer : Values kinds → Progress → World → Answer

-- natives that call nothing back, by their arguments: r a reference, i an int and j a long, as in descriptors
-- (JVMS 4.3.2)
abbrev pub none : (World → Answer) → Case
none f = record { kinds = []; wanted = []; answer = λ v p w. f w }

abbrev pub of_r : List ℕ → (ℕ → World → Answer) → Case
of_r wanted f = record { kinds = values.Reference ∷ []; wanted = wanted; answer = λ v p w. f v.0 w }

abbrev pub of_i : (ℤ → World → Answer) → Case
of_i f = record { kinds = values.Int ∷ []; wanted = []; answer = λ v p w. f v.0 w }

abbrev pub of_j : (ℤ → World → Answer) → Case
of_j f = record { kinds = values.Long ∷ []; wanted = []; answer = λ v p w. f v.0 w }

abbrev pub of_rr : List ℕ → (ℕ → ℕ → World → Answer) → Case
of_rr wanted f = record { kinds = values.Reference ∷ values.Reference ∷ []; wanted = wanted; answer = λ v p w. f v.0 v.1.0 w }

abbrev pub of_ri : (ℕ → ℤ → World → Answer) → Case
of_ri f = record { kinds = values.Reference ∷ values.Int ∷ []; wanted = []; answer = λ v p w. f v.0 v.1.0 w }

abbrev pub of_rj : (ℕ → ℤ → World → Answer) → Case
of_rj f = record { kinds = values.Reference ∷ values.Long ∷ []; wanted = []; answer = λ v p w. f v.0 v.1.0 w }

abbrev pub of_ii : (ℤ → ℤ → World → Answer) → Case
of_ii f = record { kinds = values.Int ∷ values.Int ∷ []; wanted = []; answer = λ v p w. f v.0 v.1.0 w }

abbrev pub of_jj : (ℤ → ℤ → World → Answer) → Case
of_jj f = record { kinds = values.Long ∷ values.Long ∷ []; wanted = []; answer = λ v p w. f v.0 v.1.0 w }

abbrev pub of_rii : (ℕ → ℤ → ℤ → World → Answer) → Case
of_rii f = record { kinds = values.Reference ∷ values.Int ∷ values.Int ∷ []; wanted = []; answer = λ v p w. f v.0 v.1.0 v.1.1.0 w }

abbrev pub of_rir : (ℕ → ℤ → ℕ → World → Answer) → Case
of_rir f = record { kinds = values.Reference ∷ values.Int ∷ values.Reference ∷ []; wanted = []; answer = λ v p w. f v.0 v.1.0 v.1.1.0 w }

abbrev pub of_rri : (ℕ → ℕ → ℤ → World → Answer) → Case
of_rri f = record { kinds = values.Reference ∷ values.Reference ∷ values.Int ∷ []; wanted = []; answer = λ v p w. f v.0 v.1.0 v.1.1.0 w }

abbrev pub of_rrr : (ℕ → ℕ → ℕ → World → Answer) → Case
of_rrr f = record { kinds = values.Reference ∷ values.Reference ∷ values.Reference ∷ []; wanted = []; answer = λ v p w. f v.0 v.1.0 v.1.1.0 w }

-- natives that call back, or need a file or names
abbrev pub asking_r : List ℕ → (ℕ → Progress → World → Answer) → Case
asking_r wanted f = record { kinds = values.Reference ∷ []; wanted = wanted; answer = λ v p w. f v.0 p w }

abbrev pub asking_rr : List ℕ → (ℕ → ℕ → Progress → World → Answer) → Case
asking_rr wanted f = record { kinds = values.Reference ∷ values.Reference ∷ []; wanted = wanted; answer = λ v p w. f v.0 v.1.0 p w }

abbrev pub asking_rrr : List ℕ → (ℕ → ℕ → ℕ → Progress → World → Answer) → Case
asking_rrr wanted f = record { kinds = values.Reference ∷ values.Reference ∷ values.Reference ∷ []; wanted = wanted; answer = λ v p w. f v.0 v.1.0 v.1.1.0 p w }

-- so many references
abbrev pub references : ℕ → List ValueKind
references zero = []
references (suc n) = values.Reference ∷ references n

abbrev pub all_references : (n : ℕ) → Values (references n) → List ℕ
all_references zero v = []
all_references (suc n) v = v.0 ∷ all_references n v.1

-- `List.of` of so many elements, none of which may be null
abbrev pub of_elements : ℕ → Case
of_elements n = record { kinds = references n; wanted = []; answer = λ v p w. list_of (all_references n v) w }

abbrev pub of_object : List Case
of_object = of_r [] object_made ∷ of_r [] object_text ∷ of_r [] object_hash ∷ of_rr [] object_equals ∷ of_r [] array_clone ∷ []

abbrev pub of_string : List Case
of_string =
    of_r [] text_length ∷ of_r [] text_is_empty ∷ of_ri text_char_at ∷ of_ri text_from ∷ of_rii text_between
    ∷ of_rr (1 ∷ []) text_index ∷ of_rr (1 ∷ []) text_starts ∷ of_rr (1 ∷ []) text_ends ∷ of_rr (1 ∷ []) text_concat
    ∷ of_rr (1 ∷ []) text_compare ∷ of_rr [] text_equals ∷ of_r [] text_hash ∷ of_r [] text_itself ∷ of_rr (1 ∷ []) text_contains
    ∷ of_i text_of_number ∷ of_j text_of_number ∷ of_i text_of_truth ∷ of_i text_of_char ∷ asking_r [] text_of_object ∷ []

abbrev pub of_builder : List Case
of_builder =
    of_r [] object_made ∷ of_rr (1 ∷ []) builder_made ∷ of_r [] builder_text ∷ of_r [] builder_length
    ∷ of_rr [] append_text ∷ of_ri append_number ∷ of_rj append_number ∷ of_ri append_char ∷ of_ri append_truth ∷ asking_rr [] append_object ∷ []

abbrev pub of_integer : List Case
of_integer =
    of_i int_box ∷ of_r (0 ∷ []) int_parsed ∷ of_i int_text ∷ of_ii int_sum
    ∷ of_r [] int_of_box ∷ of_r [] long_of_int_box ∷ of_rr [] int_box_equals ∷ of_r [] int_of_box ∷ of_r [] int_box_text ∷ []

abbrev pub of_long : List Case
of_long =
    of_j long_box ∷ of_r (0 ∷ []) long_parsed ∷ of_j int_text ∷ of_jj long_sum
    ∷ of_r [] int_of_long_box ∷ of_r [] long_of_box ∷ of_rr [] long_box_equals ∷ of_r [] long_box_hash ∷ of_r [] long_box_text ∷ []

abbrev pub of_boolean : List Case
of_boolean =
    of_i boolean_box ∷ of_r [] boolean_of_box ∷ of_rr [] boolean_box_equals ∷ of_r [] boolean_box_hash ∷ of_r [] boolean_box_text ∷ []

abbrev pub of_math : List Case
of_math = of_i int_abs ∷ of_j long_abs ∷ of_ii int_greater ∷ of_jj long_greater ∷ of_ii int_less ∷ of_jj long_less ∷ []

abbrev pub of_objects : List Case
of_objects = of_r [] required ∷ asking_rr [] objects_equal ∷ []

abbrev pub of_enum : List Case
of_enum = of_rri enum_made ∷ of_r [] enum_name ∷ of_r [] enum_ordinal ∷ of_r [] enum_name ∷ []

abbrev pub of_lists : List Case
of_lists =
    of_r [] list_made ∷ of_ri list_made_for
    ∷ of_r [] list_size ∷ of_r [] list_is_empty ∷ of_ri list_get ∷ of_rir list_set ∷ of_rr [] list_add
    ∷ asking_rr [] list_contains ∷ asking_rr [] list_index ∷ of_r [] list_iterator ∷ asking_rr (1 ∷ []) list_each ∷ asking_r [] list_text
    ∷ of_rr [] list_equals ∷ of_r [] list_hash ∷ []

abbrev pub of_list : List Case
of_list =
    of_elements 0 ∷ of_elements 1 ∷ of_elements 2 ∷ of_elements 3 ∷ of_elements 4 ∷ of_elements 5 ∷ of_elements 6 ∷ of_elements 7
    ∷ of_elements 8 ∷ of_elements 9 ∷ of_elements 10 ∷ of_r (0 ∷ []) list_of_array ∷ of_r [] iterator_has_next ∷ of_r [] iterator_next ∷ []

abbrev pub of_throwable : List Case
of_throwable =
    of_r [] (λ o w. throwable_made o 0 0 w) ∷ of_rr [] (λ o message w. throwable_made o message 0 w) ∷ of_rrr throwable_made ∷ asking_rr [] throwable_caused
    ∷ of_r [] throwable_message ∷ of_r [] throwable_cause ∷ of_rr [] suppressed_added ∷ of_r [] throwable_text ∷ []

abbrev pub of_mill : List Case
of_mill =
    asking_rr (0 ∷ 1 ∷ []) list_map ∷ asking_rr (0 ∷ 1 ∷ []) list_filter ∷ asking_rrr (0 ∷ 2 ∷ []) list_fold ∷ asking_rr (0 ∷ 1 ∷ []) list_each
    ∷ asking_rr (0 ∷ 1 ∷ []) fs_read ∷ asking_rr (0 ∷ 1 ∷ []) fs_size ∷ asking_r (0 ∷ []) fs_list ∷ of_rr (0 ∷ 1 ∷ []) fs_write ∷ of_r (0 ∷ []) fs_dest
    ∷ of_rr (1 ∷ []) reference_sub ∷ of_r (0 ∷ []) log_info ∷ of_r (0 ∷ []) env_get ∷ none env_now ∷ []

-- the cases of the table's rows, in order
unfoldable pub cases : List Case
cases =
    of_object ++ of_string ++ of_builder ++ of_integer ++ of_long ++ of_boolean ++ of_math ++ of_objects ++ of_enum ++ of_lists ++ of_list ++ of_throwable
    ++ of_mill

-- the values of kinds in slots, the first one first
abbrev pub value_in : (k : ValueKind) → Slot → Option (ValueOf k)
value_in values.Int (Int n) = Some n
value_in values.Long (Long n) = Some n
value_in values.Reference (Ref n) = Some n
value_in _ _ = None

abbrev pub values_in : (kinds : List ValueKind) → List Slot → Option (Values kinds)
values_in [] [] = Some tt
values_in [] (slot ∷ slots) = None
values_in (k ∷ kinds) [] = None
values_in (k ∷ kinds) (slot ∷ slots) = option_and_then (λ v. option_map (λ more. (v, more)) (values_in kinds slots)) (value_in k slot)

-- what a native answers to slots, the receiver first; None where these aren't of its kinds
abbrev pub answered_by : Case → List Slot → Progress → World → Option Answer
answered_by case slots p w = option_map (λ v. case.answer v p w) (values_in case.kinds slots)

-- what the native of a row answers
unfoldable pub native_answer : ℕ → List Slot → Progress → World → Option Answer
native_answer at slots p w = option_and_then (λ case. answered_by case slots p w) (slice_get cases at)
