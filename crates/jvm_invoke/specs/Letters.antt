-- Types by their letters, and casts to those that have none.
use Rattle.std.specs.Prelude.{ℕ, Option, Some, None}
use Rattle.class_model.specs.Descriptors.{FieldType}
use Rattle.class_model.specs.Descriptors as types
use Rattle.jvm_heap.specs.declared.slot.Slot.{Slot}
use Rattle.jvm_heap.specs.declared.slot.Slot.TheVariants.{Ref}
use Rattle.native_model.specs.declared.budget.Budget.TheVariants as budgets
use Rattle.native_model.specs.Worlds.{World, NamedHeap}
use Rattle.native_model.specs.Thrown.{class_cast}
use Rattle.jvm_model.specs.Attempts.{Attempt, gives, or_out, ◌>>=◌}
use Rattle.jvm_model.specs.Types.{is_instance, is_known, object_of, holds_or}
use Rattle.jvm_model.specs.Lambdas.{as_type, boxed_as, cast_between}

-- the letter of a primitive type
abbrev pub primitive_letter : FieldType → Option ℕ
primitive_letter (types.primitive letter) = Some letter
primitive_letter _ = None

-- a reference that is no null, as checkcast has it
abbrev pub cast_object : FieldType → ℕ → World → Attempt Slot
cast_object t n w = do
  here ← is_known t
  o ← object_of n w
  is ← is_instance o t
  fits ← holds_or class_cast is
  gives (Ref n)

-- a result of one type as one of another, and the heap with its box
abbrev pub converted_value : FieldType → FieldType → Slot → World → Attempt (Slot × NamedHeap)
converted_value from to slot w = do
  value ← as_type from to slot w
  fitting ← cast_between from to value w
  or_out budgets.Cells (boxed_as from to fitting w.heap)
