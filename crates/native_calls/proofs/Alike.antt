-- Arguments as they are taken are those that are given, where they are of the kinds of the row.
use Rattle.std.proofs.Common.{◌≡◌, ℕ, zero, suc, ◌-◌, Bool, true, false, List, [], ◌∷◌, map, inl, inr, refl, sym, subst}
use Rattle.std.specs.Prelude.{◌⊎◌, ◌||◌, nat_eq, slice_get, Option, Some, None, IfSome, option_map, option_and_then, Result, Err}
use Rattle.std.specs.List.{AllByRecursion}
use Rattle.std.proofs.lemmas.Bool.{eqb-true}
use Rattle.jvm_tables.specs.declared.instruction.ValueKind.{ValueKind}
use Rattle.jvm_tables.specs.declared.instruction.ValueKind.TheVariants as values
use Rattle.jvm_heap.specs.declared.slot.Slot.{Slot}
use Rattle.jvm_heap.specs.declared.slot.Slot.TheVariants.{Int, Long, Ref}
use Rattle.jvm_heap.specs.Operands.{Values}
use Rattle.native_model.specs.declared.fault.StepFault.{StepFault}
use Rattle.native_model.specs.declared.native_end.NativeEnd.{NativeEnd}
use Rattle.native_model.specs.Worlds.{World, Placed}
use Rattle.native_model.specs.Answers.{Answer, Progress}
use Rattle.native_model.specs.Ends.{Answers}
use Rattle.native_model.specs.Lists.{list_of, number_in}
use Rattle.native_model.specs.Table.{Case, cases, native_answer, values_in, answered_by, references, all_references}
use Rattle.native_calls.specs.declared.coded.Ones.TheVariants as ones
use Rattle.native_calls.specs.declared.coded.Twos.TheVariants as twos
use Rattle.native_calls.specs.declared.coded.Numbers.TheVariants as numbers
use Rattle.native_calls.specs.declared.coded.Others.TheVariants as others
use Rattle.native_calls.specs.declared.coded.Group.{Group}
use Rattle.native_calls.specs.declared.coded.Group.TheVariants as groups
use Rattle.native_calls.specs.Rows.{is_among, Called, rows_of, kinds_at, reference_at, int_at, long_at, given, of_objects, of_numbers, of_boxes, of_lists, of_throwables, of_outside, of_texts, of_pairs, of_elements, of_places, of_three, of_part, of_set, of_enum, of_none, of_int, of_long, of_ints, of_longs, of_object_and_int, of_object_and_long, of_list_of}

each_of : (P : ℕ → Type 0) (rows : List ℕ) → AllByRecursion P rows → (at : ℕ) → is_among rows at ≡ true → P at
each_of P [] all at is = cc
each_of P (row ∷ rows) all at is = by (nat_eq at row) refl is (each_of P rows all.1 at)
  where
    by : (b : Bool) → nat_eq at row ≡ b → (b || is_among rows at) ≡ true → (is_among rows at ≡ true → P at) → P at
    by true same is later = subst P (sym (eqb-true at row same)) all.0
    by false same is later = later is

-- arguments of other kinds, or the same values
abbrev Agrees : List ValueKind → List Slot → List Slot → Type 0
Agrees kinds slots taken = (values_in kinds slots ≡ None) ⊎ (values_in kinds slots ≡ values_in kinds taken)

one_agrees : (slots : List Slot) → Agrees (values.Reference ∷ []) slots (Ref (reference_at slots 0) ∷ [])
one_agrees (Ref a ∷ []) = inr refl
one_agrees _ = inl refl

two_agrees : (slots : List Slot) → Agrees (values.Reference ∷ values.Reference ∷ []) slots (Ref (reference_at slots 0) ∷ Ref (reference_at slots 1) ∷ [])
two_agrees (Ref a ∷ Ref b ∷ []) = inr refl
two_agrees _ = inl refl

int_agrees : (slots : List Slot) → Agrees (values.Int ∷ []) slots (Int (int_at slots 0) ∷ [])
int_agrees (Int a ∷ []) = inr refl
int_agrees _ = inl refl

long_agrees : (slots : List Slot) → Agrees (values.Long ∷ []) slots (Long (long_at slots 0) ∷ [])
long_agrees (Long a ∷ []) = inr refl
long_agrees _ = inl refl

ints_agrees : (slots : List Slot) → Agrees (values.Int ∷ values.Int ∷ []) slots (Int (int_at slots 0) ∷ Int (int_at slots 1) ∷ [])
ints_agrees (Int a ∷ Int b ∷ []) = inr refl
ints_agrees _ = inl refl

longs_agrees : (slots : List Slot) → Agrees (values.Long ∷ values.Long ∷ []) slots (Long (long_at slots 0) ∷ Long (long_at slots 1) ∷ [])
longs_agrees (Long a ∷ Long b ∷ []) = inr refl
longs_agrees _ = inl refl

at_agrees : (slots : List Slot) → Agrees (values.Reference ∷ values.Int ∷ []) slots (Ref (reference_at slots 0) ∷ Int (int_at slots 1) ∷ [])
at_agrees (Ref a ∷ Int b ∷ []) = inr refl
at_agrees _ = inl refl

long_at_agrees : (slots : List Slot) → Agrees (values.Reference ∷ values.Long ∷ []) slots (Ref (reference_at slots 0) ∷ Long (long_at slots 1) ∷ [])
long_at_agrees (Ref a ∷ Long b ∷ []) = inr refl
long_at_agrees _ = inl refl

three_agrees : (slots : List Slot) → Agrees (values.Reference ∷ values.Reference ∷ values.Reference ∷ []) slots (Ref (reference_at slots 0) ∷ Ref (reference_at slots 1) ∷ Ref (reference_at slots 2) ∷ [])
three_agrees (Ref a ∷ Ref b ∷ Ref c ∷ []) = inr refl
three_agrees _ = inl refl

part_agrees : (slots : List Slot) → Agrees (values.Reference ∷ values.Int ∷ values.Int ∷ []) slots (Ref (reference_at slots 0) ∷ Int (int_at slots 1) ∷ Int (int_at slots 2) ∷ [])
part_agrees (Ref a ∷ Int b ∷ Int c ∷ []) = inr refl
part_agrees _ = inl refl

set_agrees : (slots : List Slot) → Agrees (values.Reference ∷ values.Int ∷ values.Reference ∷ []) slots (Ref (reference_at slots 0) ∷ Int (int_at slots 1) ∷ Ref (reference_at slots 2) ∷ [])
set_agrees (Ref a ∷ Int b ∷ Ref c ∷ []) = inr refl
set_agrees _ = inl refl

enum_agrees : (slots : List Slot) → Agrees (values.Reference ∷ values.Reference ∷ values.Int ∷ []) slots (Ref (reference_at slots 0) ∷ Ref (reference_at slots 1) ∷ Int (int_at slots 2) ∷ [])
enum_agrees (Ref a ∷ Ref b ∷ Int c ∷ []) = inr refl
enum_agrees _ = inl refl

nothing_agrees : (slots : List Slot) → Agrees ([]) slots ([])
nothing_agrees [] = inr refl
nothing_agrees _ = inl refl

same_values : (kinds : List ValueKind) (f : Values kinds → Answer) (P : Answer → Type 0) (slots taken : List Slot) → Agrees kinds slots taken → IfSome (option_map f (values_in kinds taken)) P → IfSome (option_map f (values_in kinds slots)) P
same_values kinds f P slots taken (inl none) holds = subst (λ x. IfSome (option_map f x) P) (sym none) tt
same_values kinds f P slots taken (inr same) holds = subst (λ x. IfSome (option_map f x) P) (sym same) holds

same_call : {N : Type 0} (at : ℕ) (kinds : List ValueKind) (slots taken : List Slot) (p : Progress) (r : Result NativeEnd StepFault) (old new : Placed N) → kinds_at at ≡ Some kinds → Agrees kinds slots taken → Called at taken p r old new → Called at slots p r old new
unfolding native_answer
same_call {N} at kinds slots taken p r old new takes agrees = by (slice_get cases at) takes
  where
    by : (x : Option Case) → option_map (λ case. case.kinds) x ≡ Some kinds → IfSome (option_and_then (λ case. answered_by case taken p old.world) x) (λ answer. Answers answer r old new) → IfSome (option_and_then (λ case. answered_by case slots p old.world) x) (λ answer. Answers answer r old new)
    by None takes holds = cc
    by (Some case) takes holds =
        let same : case.kinds ≡ kinds = cc in
        same_values case.kinds (λ v. case.answer v p old.world) (λ answer. Answers answer r old new) slots taken (subst (λ k. Agrees k slots taken) (sym same) agrees) holds

of_objects_kinds : AllByRecursion (λ at. kinds_at at ≡ Some (values.Reference ∷ [])) of_objects
unfolding cases
of_objects_kinds = (refl, (refl, (refl, (refl, (refl, (refl, (refl, (refl, (refl, tt)))))))))

of_numbers_kinds : AllByRecursion (λ at. kinds_at at ≡ Some (values.Reference ∷ [])) of_numbers
unfolding cases
of_numbers_kinds = (refl, (refl, (refl, (refl, (refl, (refl, (refl, (refl, tt))))))))

of_boxes_kinds : AllByRecursion (λ at. kinds_at at ≡ Some (values.Reference ∷ [])) of_boxes
unfolding cases
of_boxes_kinds = (refl, (refl, (refl, (refl, (refl, (refl, (refl, (refl, (refl, tt)))))))))

of_lists_kinds : AllByRecursion (λ at. kinds_at at ≡ Some (values.Reference ∷ [])) of_lists
unfolding cases
of_lists_kinds = (refl, (refl, (refl, (refl, (refl, (refl, (refl, (refl, (refl, tt)))))))))

of_throwables_kinds : AllByRecursion (λ at. kinds_at at ≡ Some (values.Reference ∷ [])) of_throwables
unfolding cases
of_throwables_kinds = (refl, (refl, (refl, (refl, (refl, (refl, (refl, tt)))))))

of_outside_kinds : AllByRecursion (λ at. kinds_at at ≡ Some (values.Reference ∷ [])) of_outside
unfolding cases
of_outside_kinds = (refl, (refl, (refl, tt)))

of_texts_kinds : AllByRecursion (λ at. kinds_at at ≡ Some (values.Reference ∷ values.Reference ∷ [])) of_texts
unfolding cases
of_texts_kinds = (refl, (refl, (refl, (refl, (refl, (refl, (refl, (refl, tt))))))))

of_pairs_kinds : AllByRecursion (λ at. kinds_at at ≡ Some (values.Reference ∷ values.Reference ∷ [])) of_pairs
unfolding cases
of_pairs_kinds = (refl, (refl, (refl, (refl, (refl, (refl, (refl, tt)))))))

of_elements_kinds : AllByRecursion (λ at. kinds_at at ≡ Some (values.Reference ∷ values.Reference ∷ [])) of_elements
unfolding cases
of_elements_kinds = (refl, (refl, (refl, (refl, (refl, (refl, (refl, (refl, tt))))))))

of_places_kinds : AllByRecursion (λ at. kinds_at at ≡ Some (values.Reference ∷ values.Reference ∷ [])) of_places
unfolding cases
of_places_kinds = (refl, (refl, (refl, (refl, (refl, (refl, (refl, tt)))))))

of_three_kinds : AllByRecursion (λ at. kinds_at at ≡ Some (values.Reference ∷ values.Reference ∷ values.Reference ∷ [])) of_three
unfolding cases
of_three_kinds = (refl, (refl, tt))

of_part_kinds : AllByRecursion (λ at. kinds_at at ≡ Some (values.Reference ∷ values.Int ∷ values.Int ∷ [])) of_part
unfolding cases
of_part_kinds = (refl, tt)

of_set_kinds : AllByRecursion (λ at. kinds_at at ≡ Some (values.Reference ∷ values.Int ∷ values.Reference ∷ [])) of_set
unfolding cases
of_set_kinds = (refl, tt)

of_enum_kinds : AllByRecursion (λ at. kinds_at at ≡ Some (values.Reference ∷ values.Reference ∷ values.Int ∷ [])) of_enum
unfolding cases
of_enum_kinds = (refl, tt)

of_none_kinds : AllByRecursion (λ at. kinds_at at ≡ Some ([])) of_none
unfolding cases
of_none_kinds = (refl, tt)

of_int_kinds : AllByRecursion (λ at. kinds_at at ≡ Some (values.Int ∷ [])) of_int
unfolding cases
of_int_kinds = (refl, (refl, (refl, (refl, (refl, (refl, (refl, tt)))))))

of_long_kinds : AllByRecursion (λ at. kinds_at at ≡ Some (values.Long ∷ [])) of_long
unfolding cases
of_long_kinds = (refl, (refl, (refl, (refl, tt))))

of_ints_kinds : AllByRecursion (λ at. kinds_at at ≡ Some (values.Int ∷ values.Int ∷ [])) of_ints
unfolding cases
of_ints_kinds = (refl, (refl, (refl, tt)))

of_longs_kinds : AllByRecursion (λ at. kinds_at at ≡ Some (values.Long ∷ values.Long ∷ [])) of_longs
unfolding cases
of_longs_kinds = (refl, (refl, (refl, tt)))

of_object_and_int_kinds : AllByRecursion (λ at. kinds_at at ≡ Some (values.Reference ∷ values.Int ∷ [])) of_object_and_int
unfolding cases
of_object_and_int_kinds = (refl, (refl, (refl, (refl, (refl, (refl, (refl, tt)))))))

of_object_and_long_kinds : AllByRecursion (λ at. kinds_at at ≡ Some (values.Reference ∷ values.Long ∷ [])) of_object_and_long
unfolding cases
of_object_and_long_kinds = (refl, tt)

-- a native does on what is given what it does on what is taken
pub taken_alike : {N : Type 0} (group : Group) (at : ℕ) (slots : List Slot) (p : Progress) (r : Result NativeEnd StepFault) (old new : Placed N) → is_among (rows_of group) at ≡ true → Called at (given group slots) p r old new → Called at slots p r old new
taken_alike (groups.One ones.Objects) at slots p r old new among = same_call at (values.Reference ∷ []) slots _ p r old new (each_of (λ k. kinds_at k ≡ Some (values.Reference ∷ [])) of_objects of_objects_kinds at among) (one_agrees slots)
taken_alike (groups.One ones.Numbers) at slots p r old new among = same_call at (values.Reference ∷ []) slots _ p r old new (each_of (λ k. kinds_at k ≡ Some (values.Reference ∷ [])) of_numbers of_numbers_kinds at among) (one_agrees slots)
taken_alike (groups.One ones.Boxes) at slots p r old new among = same_call at (values.Reference ∷ []) slots _ p r old new (each_of (λ k. kinds_at k ≡ Some (values.Reference ∷ [])) of_boxes of_boxes_kinds at among) (one_agrees slots)
taken_alike (groups.One ones.Lists) at slots p r old new among = same_call at (values.Reference ∷ []) slots _ p r old new (each_of (λ k. kinds_at k ≡ Some (values.Reference ∷ [])) of_lists of_lists_kinds at among) (one_agrees slots)
taken_alike (groups.One ones.Throwables) at slots p r old new among = same_call at (values.Reference ∷ []) slots _ p r old new (each_of (λ k. kinds_at k ≡ Some (values.Reference ∷ [])) of_throwables of_throwables_kinds at among) (one_agrees slots)
taken_alike (groups.One ones.Outside) at slots p r old new among = same_call at (values.Reference ∷ []) slots _ p r old new (each_of (λ k. kinds_at k ≡ Some (values.Reference ∷ [])) of_outside of_outside_kinds at among) (one_agrees slots)
taken_alike (groups.Two twos.Texts) at slots p r old new among = same_call at (values.Reference ∷ values.Reference ∷ []) slots _ p r old new (each_of (λ k. kinds_at k ≡ Some (values.Reference ∷ values.Reference ∷ [])) of_texts of_texts_kinds at among) (two_agrees slots)
taken_alike (groups.Two twos.Pairs) at slots p r old new among = same_call at (values.Reference ∷ values.Reference ∷ []) slots _ p r old new (each_of (λ k. kinds_at k ≡ Some (values.Reference ∷ values.Reference ∷ [])) of_pairs of_pairs_kinds at among) (two_agrees slots)
taken_alike (groups.Two twos.Elements) at slots p r old new among = same_call at (values.Reference ∷ values.Reference ∷ []) slots _ p r old new (each_of (λ k. kinds_at k ≡ Some (values.Reference ∷ values.Reference ∷ [])) of_elements of_elements_kinds at among) (two_agrees slots)
taken_alike (groups.Two twos.Places) at slots p r old new among = same_call at (values.Reference ∷ values.Reference ∷ []) slots _ p r old new (each_of (λ k. kinds_at k ≡ Some (values.Reference ∷ values.Reference ∷ [])) of_places of_places_kinds at among) (two_agrees slots)
taken_alike (groups.Others others.Three) at slots p r old new among = same_call at (values.Reference ∷ values.Reference ∷ values.Reference ∷ []) slots _ p r old new (each_of (λ k. kinds_at k ≡ Some (values.Reference ∷ values.Reference ∷ values.Reference ∷ [])) of_three of_three_kinds at among) (three_agrees slots)
taken_alike (groups.Others others.Part) at slots p r old new among = same_call at (values.Reference ∷ values.Int ∷ values.Int ∷ []) slots _ p r old new (each_of (λ k. kinds_at k ≡ Some (values.Reference ∷ values.Int ∷ values.Int ∷ [])) of_part of_part_kinds at among) (part_agrees slots)
taken_alike (groups.Others others.Set) at slots p r old new among = same_call at (values.Reference ∷ values.Int ∷ values.Reference ∷ []) slots _ p r old new (each_of (λ k. kinds_at k ≡ Some (values.Reference ∷ values.Int ∷ values.Reference ∷ [])) of_set of_set_kinds at among) (set_agrees slots)
taken_alike (groups.Others others.Enum) at slots p r old new among = same_call at (values.Reference ∷ values.Reference ∷ values.Int ∷ []) slots _ p r old new (each_of (λ k. kinds_at k ≡ Some (values.Reference ∷ values.Reference ∷ values.Int ∷ [])) of_enum of_enum_kinds at among) (enum_agrees slots)
taken_alike (groups.Others others.Nothing) at slots p r old new among = same_call at ([]) slots _ p r old new (each_of (λ k. kinds_at k ≡ Some ([])) of_none of_none_kinds at among) (nothing_agrees slots)
taken_alike (groups.Numbers numbers.Int) at slots p r old new among = same_call at (values.Int ∷ []) slots _ p r old new (each_of (λ k. kinds_at k ≡ Some (values.Int ∷ [])) of_int of_int_kinds at among) (int_agrees slots)
taken_alike (groups.Numbers numbers.Long) at slots p r old new among = same_call at (values.Long ∷ []) slots _ p r old new (each_of (λ k. kinds_at k ≡ Some (values.Long ∷ [])) of_long of_long_kinds at among) (long_agrees slots)
taken_alike (groups.Numbers numbers.Ints) at slots p r old new among = same_call at (values.Int ∷ values.Int ∷ []) slots _ p r old new (each_of (λ k. kinds_at k ≡ Some (values.Int ∷ values.Int ∷ [])) of_ints of_ints_kinds at among) (ints_agrees slots)
taken_alike (groups.Numbers numbers.Longs) at slots p r old new among = same_call at (values.Long ∷ values.Long ∷ []) slots _ p r old new (each_of (λ k. kinds_at k ≡ Some (values.Long ∷ values.Long ∷ [])) of_longs of_longs_kinds at among) (longs_agrees slots)
taken_alike (groups.Numbers numbers.At) at slots p r old new among = same_call at (values.Reference ∷ values.Int ∷ []) slots _ p r old new (each_of (λ k. kinds_at k ≡ Some (values.Reference ∷ values.Int ∷ [])) of_object_and_int of_object_and_int_kinds at among) (at_agrees slots)
taken_alike (groups.Numbers numbers.LongAt) at slots p r old new among = same_call at (values.Reference ∷ values.Long ∷ []) slots _ p r old new (each_of (λ k. kinds_at k ≡ Some (values.Reference ∷ values.Long ∷ [])) of_object_and_long of_object_and_long_kinds at among) (long_at_agrees slots)
taken_alike (groups.Others others.ListOf) at slots p r old new among = λ holds. holds

-- ---- `List.of`

abbrev Lists : ℕ → Type 0
Lists at = (slots : List Slot) (p : Progress) (w : World) → native_answer at slots p w ≡ option_map (λ v. list_of (all_references (at - 83) v) w) (values_in (references (at - 83)) slots)

list_of_rows : AllByRecursion Lists of_list_of
unfolding native_answer cases
list_of_rows = (λ slots p w. refl, (λ slots p w. refl, (λ slots p w. refl, (λ slots p w. refl, (λ slots p w. refl, (λ slots p w. refl, (λ slots p w. refl, (λ slots p w. refl, (λ slots p w. refl, (λ slots p w. refl, (λ slots p w. refl, tt)))))))))))

all_given : (n : ℕ) (slots : List Slot) (f : List ℕ → Answer) (P : Answer → Type 0) → P (f (map number_in slots)) → IfSome (option_map (λ v. f (all_references n v)) (values_in (references n) slots)) P
all_given zero [] f P holds = holds
all_given zero (slot ∷ slots) f P holds = tt
all_given (suc n) [] f P holds = tt
all_given (suc n) (Ref a ∷ slots) f P holds = by (values_in (references n) slots) (all_given n slots (λ l. f (a ∷ l)) P holds)
  where
    by : (x : Option (Values (references n))) → IfSome (option_map (λ v. f (a ∷ all_references n v)) x) P → IfSome (option_map (λ v. f (all_references (suc n) v)) (option_map (λ more. (a, more)) x)) P
    by None holds = tt
    by (Some v) holds = holds
all_given (suc n) (_ ∷ slots) f P holds = tt

pub list_of_called : {N : Type 0} (at : ℕ) (slots : List Slot) (p : Progress) (numbers : List ℕ) (r : Result NativeEnd StepFault) (old new : Placed N) → is_among of_list_of at ≡ true → numbers ≡ map number_in slots → Answers (list_of numbers old.world) r old new → Called at slots p r old new
list_of_called at slots p numbers r old new among same holds =
    subst (λ x. IfSome x (λ answer. Answers answer r old new)) (sym (each_of Lists of_list_of list_of_rows at among slots p old.world))
    (all_given (at - 83) slots (λ l. list_of l old.world) (λ answer. Answers answer r old new) (subst (λ l. Answers (list_of l old.world) r old new) same holds))

pub none_called : {N : Type 0} (x : Option Answer) (fault : StepFault) (w : Placed N) → IfSome x (λ answer. Answers answer (Err fault) w w)
none_called None fault w = tt
none_called (Some answer) fault w = record { answer = tt; kept = tt; unmade = refl; names = refl }
