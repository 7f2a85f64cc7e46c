-- What a native of a row does, and which rows stand together.
use Rattle.std.specs.Prelude.{ℕ, ℤ, pos, nat_eq, ◌||◌, Bool, List, ◌∷◌, [], slice_get, Option, Some, IfSome, option_map, Result}
use Rattle.std.specs.List.{list_any}
use Rattle.jvm_tables.specs.declared.instruction.ValueKind.{ValueKind}
use Rattle.jvm_heap.specs.declared.slot.Slot.{Slot}
use Rattle.jvm_heap.specs.declared.slot.Slot.TheVariants.{Int, Long, Ref}
use Rattle.native_model.specs.declared.fault.StepFault.{StepFault}
use Rattle.native_model.specs.declared.native_end.NativeEnd.{NativeEnd}
use Rattle.native_model.specs.Worlds.{Placed}
use Rattle.native_model.specs.Answers.{Progress}
use Rattle.native_model.specs.Ends.{Answers}
use Rattle.native_model.specs.Table.{cases, native_answer}
use Rattle.native_calls.specs.declared.coded.Ones.{Ones}
use Rattle.native_calls.specs.declared.coded.Ones.TheVariants as ones
use Rattle.native_calls.specs.declared.coded.Twos.{Twos}
use Rattle.native_calls.specs.declared.coded.Twos.TheVariants as twos
use Rattle.native_calls.specs.declared.coded.Numbers.{Numbers}
use Rattle.native_calls.specs.declared.coded.Numbers.TheVariants as numbers
use Rattle.native_calls.specs.declared.coded.Others.{Others}
use Rattle.native_calls.specs.declared.coded.Others.TheVariants as others
use Rattle.native_calls.specs.declared.coded.Group.{Group}
use Rattle.native_calls.specs.declared.coded.Group.TheVariants as groups

abbrev pub is_among : List ℕ → ℕ → Bool
is_among rows at = list_any (nat_eq at) rows

-- the native of a row answers as is defined, where its arguments are of its kinds
abbrev pub Called : {N : Type 0} → ℕ → List Slot → Progress → Result NativeEnd StepFault → Placed N → Placed N → Type 0
Called at slots p result old new = IfSome (native_answer at slots p old.world) (λ answer. Answers answer result old new)

-- rows by what they take, and by what they are of
abbrev pub of_objects : List ℕ
of_objects = 0 ∷ 1 ∷ 2 ∷ 4 ∷ 5 ∷ 6 ∷ 16 ∷ 17 ∷ 23 ∷ []

abbrev pub of_numbers : List ℕ
of_numbers = 24 ∷ 26 ∷ 27 ∷ 35 ∷ 38 ∷ 39 ∷ 41 ∷ 42 ∷ []

abbrev pub of_boxes : List ℕ
of_boxes = 44 ∷ 47 ∷ 48 ∷ 50 ∷ 51 ∷ 53 ∷ 55 ∷ 56 ∷ 63 ∷ []

abbrev pub of_lists : List ℕ
of_lists = 66 ∷ 67 ∷ 68 ∷ 69 ∷ 71 ∷ 72 ∷ 78 ∷ 80 ∷ 82 ∷ []

abbrev pub of_throwables : List ℕ
of_throwables = 94 ∷ 95 ∷ 96 ∷ 97 ∷ 101 ∷ 102 ∷ 104 ∷ []

abbrev pub of_outside : List ℕ
of_outside = 113 ∷ 115 ∷ 116 ∷ []

abbrev pub of_texts : List ℕ
of_texts = 3 ∷ 10 ∷ 11 ∷ 12 ∷ 13 ∷ 14 ∷ 15 ∷ 18 ∷ []

abbrev pub of_pairs : List ℕ
of_pairs = 25 ∷ 28 ∷ 33 ∷ 40 ∷ 49 ∷ 54 ∷ 64 ∷ []

abbrev pub of_elements : List ℕ
of_elements = 75 ∷ 76 ∷ 77 ∷ 79 ∷ 81 ∷ 98 ∷ 100 ∷ 103 ∷ []

abbrev pub of_places : List ℕ
of_places = 105 ∷ 106 ∷ 108 ∷ 109 ∷ 110 ∷ 112 ∷ 114 ∷ []

abbrev pub of_three : List ℕ
of_three = 99 ∷ 107 ∷ []

abbrev pub of_part : List ℕ
of_part = 9 ∷ []

abbrev pub of_set : List ℕ
of_set = 74 ∷ []

abbrev pub of_enum : List ℕ
of_enum = 65 ∷ []

abbrev pub of_none : List ℕ
of_none = 117 ∷ []

abbrev pub of_int : List ℕ
of_int = 19 ∷ 21 ∷ 22 ∷ 34 ∷ 36 ∷ 52 ∷ 57 ∷ []

abbrev pub of_long : List ℕ
of_long = 20 ∷ 43 ∷ 45 ∷ 58 ∷ []

abbrev pub of_ints : List ℕ
of_ints = 37 ∷ 59 ∷ 61 ∷ []

abbrev pub of_longs : List ℕ
of_longs = 46 ∷ 60 ∷ 62 ∷ []

abbrev pub of_object_and_int : List ℕ
of_object_and_int = 7 ∷ 8 ∷ 29 ∷ 31 ∷ 32 ∷ 70 ∷ 73 ∷ []

abbrev pub of_object_and_long : List ℕ
of_object_and_long = 30 ∷ []

-- `List.of` of none to ten elements
abbrev pub of_list_of : List ℕ
of_list_of = 83 ∷ 84 ∷ 85 ∷ 86 ∷ 87 ∷ 88 ∷ 89 ∷ 90 ∷ 91 ∷ 92 ∷ 93 ∷ []

abbrev pub rows_of_one : Ones → List ℕ
rows_of_one ones.Objects = of_objects
rows_of_one ones.Numbers = of_numbers
rows_of_one ones.Boxes = of_boxes
rows_of_one ones.Lists = of_lists
rows_of_one ones.Throwables = of_throwables
rows_of_one ones.Outside = of_outside

abbrev pub rows_of_two : Twos → List ℕ
rows_of_two twos.Texts = of_texts
rows_of_two twos.Pairs = of_pairs
rows_of_two twos.Elements = of_elements
rows_of_two twos.Places = of_places

abbrev pub rows_of_numbers : Numbers → List ℕ
rows_of_numbers numbers.Int = of_int
rows_of_numbers numbers.Long = of_long
rows_of_numbers numbers.Ints = of_ints
rows_of_numbers numbers.Longs = of_longs
rows_of_numbers numbers.At = of_object_and_int
rows_of_numbers numbers.LongAt = of_object_and_long

abbrev pub rows_of_others : Others → List ℕ
rows_of_others others.Three = of_three
rows_of_others others.Part = of_part
rows_of_others others.Set = of_set
rows_of_others others.Enum = of_enum
rows_of_others others.Nothing = of_none
rows_of_others others.ListOf = of_list_of

abbrev pub rows_of : Group → List ℕ
rows_of (groups.One group) = rows_of_one group
rows_of (groups.Two group) = rows_of_two group
rows_of (groups.Numbers group) = rows_of_numbers group
rows_of (groups.Others group) = rows_of_others group

-- rows that have code
abbrev pub takes_one : ℕ → Bool
takes_one at = is_among of_objects at || is_among of_numbers at || is_among of_boxes at || is_among of_lists at || is_among of_throwables at || is_among of_outside at

abbrev pub takes_two : ℕ → Bool
takes_two at = is_among of_texts at || is_among of_pairs at || is_among of_elements at || is_among of_places at

abbrev pub takes_numbers : ℕ → Bool
takes_numbers at = is_among of_int at || is_among of_long at || is_among of_ints at || is_among of_longs at || is_among of_object_and_int at || is_among of_object_and_long at

abbrev pub takes_others : ℕ → Bool
takes_others at = is_among of_three at || is_among of_part at || is_among of_set at || is_among of_enum at || is_among of_none at || is_among of_list_of at

abbrev pub is_coded : ℕ → Bool
is_coded at = takes_one at || takes_two at || takes_numbers at || takes_others at

-- the kinds that the native of a row takes
abbrev pub kinds_at : ℕ → Option (List ValueKind)
kinds_at at = option_map (λ case. case.kinds) (slice_get cases at)

-- the reference or number in the argument of a place; 0 where there is none
abbrev pub reference_in : Option Slot → ℕ
reference_in (Some (Ref n)) = n
reference_in _ = 0

abbrev pub int_in : Option Slot → ℤ
int_in (Some (Int n)) = n
int_in _ = pos 0

abbrev pub long_in : Option Slot → ℤ
long_in (Some (Long n)) = n
long_in _ = pos 0

abbrev pub reference_at : List Slot → ℕ → ℕ
reference_at slots at = reference_in (slice_get slots at)

abbrev pub int_at : List Slot → ℕ → ℤ
int_at slots at = int_in (slice_get slots at)

abbrev pub long_at : List Slot → ℕ → ℤ
long_at slots at = long_in (slice_get slots at)

-- the arguments of natives as they are taken, whatever there is
abbrev pub given_numbers : Numbers → List Slot → List Slot
given_numbers numbers.Int slots = Int (int_at slots 0) ∷ []
given_numbers numbers.Long slots = Long (long_at slots 0) ∷ []
given_numbers numbers.Ints slots = Int (int_at slots 0) ∷ Int (int_at slots 1) ∷ []
given_numbers numbers.Longs slots = Long (long_at slots 0) ∷ Long (long_at slots 1) ∷ []
given_numbers numbers.At slots = Ref (reference_at slots 0) ∷ Int (int_at slots 1) ∷ []
given_numbers numbers.LongAt slots = Ref (reference_at slots 0) ∷ Long (long_at slots 1) ∷ []

abbrev pub given_others : Others → List Slot → List Slot
given_others others.Three slots = Ref (reference_at slots 0) ∷ Ref (reference_at slots 1) ∷ Ref (reference_at slots 2) ∷ []
given_others others.Part slots = Ref (reference_at slots 0) ∷ Int (int_at slots 1) ∷ Int (int_at slots 2) ∷ []
given_others others.Set slots = Ref (reference_at slots 0) ∷ Int (int_at slots 1) ∷ Ref (reference_at slots 2) ∷ []
given_others others.Enum slots = Ref (reference_at slots 0) ∷ Ref (reference_at slots 1) ∷ Int (int_at slots 2) ∷ []
given_others others.Nothing slots = []
given_others others.ListOf slots = slots

abbrev pub given : Group → List Slot → List Slot
given (groups.One group) slots = Ref (reference_at slots 0) ∷ []
given (groups.Two group) slots = Ref (reference_at slots 0) ∷ Ref (reference_at slots 1) ∷ []
given (groups.Numbers group) slots = given_numbers group slots
given (groups.Others group) slots = given_others group slots
