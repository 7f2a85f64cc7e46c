-- The values of lambdas: casts to the instantiated type, opened and made boxes, and wider ints (JVMS 6.5, invokedynamic, of
-- `metafactory`).
use Rattle.std.specs.Prelude.{ℕ, zero, suc, ◌==◌, pos, not, List, [], ◌∷◌, ◌++◌, Option, Some, None, option_map, option_and_then, if◌then◌else◌}
use Rattle.std.specs.Ordering.{int_eq}
use Rattle.std.specs.Str.{byte}
use Rattle.class_model.specs.Descriptors.{FieldType, method_type}
use Rattle.class_model.specs.Descriptors as types
use Rattle.class_code.specs.Sites.{LambdaSite, captured, takes_receiver}
use Rattle.jvm_heap.specs.declared.slot.Slot.{Slot}
use Rattle.jvm_heap.specs.declared.slot.Slot.TheVariants.{Int, Long, Ref}
use Rattle.jvm_heap.specs.Objects.{boxed_int, boxed_long, boxed_boolean}
use Rattle.jvm_heap.specs.Heaps.{box_of_int, box_of_long, box_of_boolean}
use Rattle.native_model.specs.declared.budget.Budget.TheVariants as budgets
use Rattle.native_model.specs.Worlds.{NamedObject, NamedHeap, World}
use Rattle.native_model.specs.Thrown.{null_pointer, class_cast}
use Rattle.native_model.specs.Answers.{truth}
use Rattle.jvm_model.specs.States.{Adaptation, converts}
use Rattle.jvm_model.specs.Attempts.{Attempt, gives, throws, sticks, or_out, ◌>>=◌}
use Rattle.jvm_model.specs.Types.{is_instance, is_known, object_of, holds_or}
use Rattle.jvm_model.specs.Concatenating.{parameter_types}

-- what a box holds as a value of a type: an Integer is an int or a long, a Long a long, a Boolean a boolean
abbrev pub opened : ℕ → NamedObject → Option Slot
opened letter (boxed_int n) =
    if letter == byte "J" then Some (Long n) else if letter == byte "Z" then None else Some (Int n)
opened letter (boxed_long n) = if letter == byte "J" then Some (Long n) else None
opened letter (boxed_boolean b) = if letter == byte "Z" then Some (Int (truth b)) else None
opened letter _ = None

abbrev pub or_cast : Option Slot → Attempt Slot
or_cast None = throws class_cast
or_cast (Some slot) = gives slot

abbrev pub unboxed : ℕ → Slot → World → Attempt Slot
unboxed letter (Ref zero) w = throws null_pointer
unboxed letter (Ref (suc n)) w = object_of (suc n) w >>= λ o. or_cast (opened letter o)
unboxed letter _ w = sticks

abbrev pub widened : ℕ → Slot → Slot
widened letter (Int n) = if letter == byte "J" then Long n else Int n
widened letter slot = slot

-- a value of one type as one of another, but for boxes that are still to be made
abbrev pub as_type : FieldType → FieldType → Slot → World → Attempt Slot
as_type (types.primitive letter) (types.primitive other) slot w = gives (widened other slot)
as_type (types.primitive letter) _ slot w = gives slot
as_type _ (types.primitive letter) slot w = unboxed letter slot w
as_type _ _ slot w = gives slot

abbrev pub as_reference : Option (ℕ × NamedHeap) → Option (Slot × NamedHeap)
as_reference made = option_map (λ m. (Ref m.0, m.1)) made

-- `valueOf` by type: byte, char and short are Integers
abbrev pub boxed : ℕ → Slot → NamedHeap → Option (Slot × NamedHeap)
boxed letter (Int n) h =
    if letter == byte "Z" then as_reference (box_of_boolean (not (int_eq n (pos 0))) h) else as_reference (box_of_int n h)
boxed letter (Long n) h = as_reference (box_of_long n h)
boxed letter slot h = Some (slot, h)

abbrev pub boxed_as : FieldType → FieldType → Slot → NamedHeap → Option (Slot × NamedHeap)
boxed_as (types.primitive letter) (types.primitive other) slot h = Some (slot, h)
boxed_as (types.primitive letter) _ slot h = boxed letter slot h
boxed_as _ _ slot h = Some (slot, h)

-- a reference of a type, as checkcast has it
abbrev pub cast : FieldType → Slot → World → Attempt Slot
cast (types.primitive letter) slot w = gives slot
cast t (Ref zero) w = gives (Ref 0)
cast t (Ref (suc n)) w = do
  here ← is_known t
  o ← object_of (suc n) w
  is ← is_instance o t
  fits ← holds_or class_cast is
  gives (Ref (suc n))
cast t slot w = sticks

abbrev pub cast_all : List FieldType → List Slot → World → Attempt (List Slot)
cast_all [] [] w = gives []
cast_all (t ∷ kinds) (slot ∷ slots) w = cast t slot w >>= λ one. cast_all kinds slots w >>= λ more. gives (one ∷ more)
cast_all _ _ w = sticks

abbrev pub all_as : List FieldType → List FieldType → List Slot → World → Attempt (List Slot)
all_as [] [] [] w = gives []
all_as (from ∷ own) (to ∷ wanted) (slot ∷ slots) w =
    as_type from to slot w >>= λ one. all_as own wanted slots w >>= λ more. gives (one ∷ more)
all_as _ _ _ w = sticks

abbrev pub all_boxed : List FieldType → List FieldType → List Slot → NamedHeap → Option (List Slot × NamedHeap)
all_boxed (from ∷ own) (to ∷ wanted) (slot ∷ slots) h =
    option_and_then (λ one. option_map (λ more. (one.0 ∷ more.0, more.1)) (all_boxed own wanted slots one.1)) (boxed_as from to slot h)
all_boxed _ _ slots h = Some (slots, h)

-- the types of what a lambda's method is given: the captured values, and the parameters as instantiated
abbrev pub types_given : LambdaSite → List FieldType
types_given l = captured l ++ parameter_types l.instantiated

-- the types that the implementing method takes, the receiver first
abbrev pub types_wanted : LambdaSite → List FieldType
types_wanted l =
    if takes_receiver l.implementing.kind
    then types.object l.implementing.member.owner ∷ parameter_types l.implementing.member.descriptor
    else parameter_types l.implementing.member.descriptor

-- The arguments of the implementing method, and the heap with their boxes: the parameters are cast, the captured values
-- aren't.
unfoldable pub lambda_arguments : LambdaSite → List Slot → List Slot → World → Attempt (List Slot × NamedHeap)
lambda_arguments l own arguments w = do
  casts ← cast_all (parameter_types l.instantiated) arguments w
  values ← all_as (types_given l) (types_wanted l) (own ++ casts) w
  or_out budgets.Cells (all_boxed (types_given l) (types_wanted l) values w.heap)

abbrev pub result_of : List ℕ → Option FieldType
result_of descriptor = option_and_then (λ m. m.returned) (method_type descriptor)

-- the new object of an `<init>`, or else what the implementing method gives
abbrev pub implementing_result : LambdaSite → Option FieldType
implementing_result l =
    if l.implementing.kind == 8 then Some (types.object l.implementing.member.owner) else result_of l.implementing.member.descriptor

abbrev pub adaptation_of : LambdaSite → Adaptation
adaptation_of l = converts (implementing_result l) (result_of l.instantiated)

-- A reference is cast to the type of a reference.
abbrev pub cast_between : FieldType → FieldType → Slot → World → Attempt Slot
cast_between (types.primitive letter) to slot w = gives slot
cast_between from to slot w = cast to slot w

abbrev pub some_first : Slot × NamedHeap → Option Slot × NamedHeap
some_first made = (Some made.0, made.1)

-- a result of one type as one of another, which may be none, and the heap with its box
unfoldable pub converted : Option FieldType → Option FieldType → Option Slot → World → Attempt (Option Slot × NamedHeap)
converted (Some from) (Some to) (Some slot) w = do
  value ← as_type from to slot w
  fitting ← cast_between from to value w
  or_out budgets.Cells (option_map some_first (boxed_as from to fitting w.heap))
converted from None v w = gives (None, w.heap)
converted _ _ v w = sticks
