-- What is done with values by the letters of their types.
use Rattle.std.proofs.Common.{◌≡◌, ◌≢◌, ℕ, zero, suc, refl, sym, ◌∙◌, ap, arith}
use Rattle.std.specs.Prelude.{Option, Some, None, option_map}
use Rattle.class_model.specs.declared.descriptor_text.TypeForm.{TypeForm}
use Rattle.class_model.specs.Descriptors.{FieldType}
use Rattle.class_model.specs.Descriptors as types
use Rattle.class_model.specs.TypeForms.{arrays, component, type_of}
use Rattle.jvm_heap.specs.declared.slot.Slot.{Slot}
use Rattle.jvm_heap.specs.declared.slot.Slot.TheVariants.{Ref}
use Rattle.native_model.specs.Worlds.{World, NamedHeap}
use Rattle.native_model.specs.declared.budget.Budget.TheVariants as budgets
use Rattle.jvm_model.specs.Plans.{Oracle, end_of}
use Rattle.jvm_model.specs.Attempts.{Tried, fine, raises, runs_out, is_stuck, Attempt, gives, sticks, on_tried, or_out, ◌>>=◌}
use Rattle.jvm_model.specs.Types.{object_of}
use Rattle.jvm_model.specs.Lambdas.{opened, or_cast, unboxed, widened, as_type, boxed, boxed_as, cast, cast_between, some_first, converted}
use Rattle.jvm_resolve.proofs.Dimensions.{outermost}
use Rattle.jvm_resolve.proofs.Ends.{end_of-after}
use Rattle.jvm_invoke.specs.Letters.{primitive_letter, cast_object, converted_value}

array_letter : (n : ℕ) (t : FieldType) → primitive_letter (arrays (suc n) t) ≡ None
array_letter n t = rw (outermost n t) refl

pub letter_of_array : (form : TypeForm) → form.dimensions ≢ 0 → primitive_letter (type_of form) ≡ None
letter_of_array form some = by_dimensions form.dimensions some
  where
    by_dimensions : (n : ℕ) → n ≢ 0 → primitive_letter (arrays n (component form)) ≡ None
    by_dimensions zero some = absurd (some refl)
    by_dimensions (suc n) some = array_letter n (component form)

pub letter_of_component : (form : TypeForm) → form.dimensions ≡ 0 → primitive_letter (type_of form) ≡ primitive_letter (component form)
letter_of_component form e = rw e refl

pub ruleset letters_of_forms = (letter_of_array, letter_of_component)

pub to_reference : (from to : FieldType) (slot : Slot) (w : World) → primitive_letter to ≡ None → as_type from to slot w ≡ gives slot
to_reference (types.primitive l) (types.primitive m) slot w e = cc
to_reference (types.primitive l) (types.object name) slot w e = refl
to_reference (types.primitive l) (types.array t) slot w e = refl
to_reference (types.object name) (types.primitive m) slot w e = cc
to_reference (types.object name) (types.object other) slot w e = refl
to_reference (types.object name) (types.array t) slot w e = refl
to_reference (types.array s) (types.primitive m) slot w e = cc
to_reference (types.array s) (types.object other) slot w e = refl
to_reference (types.array s) (types.array t) slot w e = refl

pub to_primitive : (from to : FieldType) (slot : Slot) (w : World) (letter other : ℕ) → primitive_letter from ≡ Some letter → primitive_letter to ≡ Some other
    → as_type from to slot w ≡ gives (widened other slot)
to_primitive (types.primitive l) (types.primitive m) slot w letter other e f = grind arith
to_primitive _ _ slot w letter other e f = cc

pub unboxed_object : (letter n : ℕ) (w : World) → n ≢ 0 → unboxed letter (Ref n) w ≡ (object_of n w >>= λ o. or_cast (opened letter o))
unboxed_object letter zero w some = absurd (some refl)
unboxed_object letter (suc n) w some = refl

pub opened_box : (from to : FieldType) (slot : Slot) (w : World) (letter : ℕ) → primitive_letter from ≡ None → primitive_letter to ≡ Some letter
    → as_type from to slot w ≡ unboxed letter slot w
opened_box (types.primitive l) to slot w letter e f = cc
opened_box (types.object name) (types.primitive m) slot w letter e f = grind arith
opened_box (types.object name) (types.object other) slot w letter e f = cc
opened_box (types.object name) (types.array t) slot w letter e f = cc
opened_box (types.array s) (types.primitive m) slot w letter e f = grind arith
opened_box (types.array s) (types.object other) slot w letter e f = cc
opened_box (types.array s) (types.array t) slot w letter e f = cc

pub no_box : (from to : FieldType) (slot : Slot) (h : NamedHeap) → primitive_letter from ≡ None → boxed_as from to slot h ≡ Some (slot, h)
no_box (types.primitive l) to slot h e = cc
no_box (types.object name) to slot h e = refl
no_box (types.array s) to slot h e = refl

pub no_box_wanted : (from to : FieldType) (slot : Slot) (h : NamedHeap) (l m : ℕ) → primitive_letter from ≡ Some l → primitive_letter to ≡ Some m → boxed_as from to slot h ≡ Some (slot, h)
no_box_wanted (types.primitive l) (types.primitive m) slot h k n e f = refl
no_box_wanted (types.primitive l) (types.object name) slot h k n e f = cc
no_box_wanted (types.primitive l) (types.array t) slot h k n e f = cc
no_box_wanted (types.object name) to slot h k n e f = cc
no_box_wanted (types.array s) to slot h k n e f = cc

pub box_wanted : (from to : FieldType) (slot : Slot) (h : NamedHeap) (l : ℕ) → primitive_letter from ≡ Some l → primitive_letter to ≡ None → boxed_as from to slot h ≡ boxed l slot h
box_wanted (types.primitive l) (types.primitive m) slot h k e f = cc
box_wanted (types.primitive l) (types.object name) slot h k e f = grind arith
box_wanted (types.primitive l) (types.array t) slot h k e f = grind arith
box_wanted (types.object name) to slot h k e f = cc
box_wanted (types.array s) to slot h k e f = cc

pub ruleset steps = (to_reference, to_primitive, unboxed_object, opened_box, no_box, no_box_wanted, box_wanted, end_of-after)

pub cast_primitive : (t : FieldType) (slot : Slot) (w : World) (l : ℕ) → primitive_letter t ≡ Some l → cast t slot w ≡ gives slot
cast_primitive (types.primitive m) slot w l e = refl
cast_primitive (types.object name) slot w l e = cc
cast_primitive (types.array t) slot w l e = cc

pub cast_reference : (t : FieldType) (n : ℕ) (w : World) → primitive_letter t ≡ None → n ≢ 0 → cast t (Ref n) w ≡ cast_object t n w
cast_reference t zero w e some = absurd (some refl)
cast_reference (types.primitive m) (suc n) w e some = cc
cast_reference (types.object name) (suc n) w e some = refl
cast_reference (types.array t) (suc n) w e some = refl

pub cast_null : (t : FieldType) (w : World) → primitive_letter t ≡ None → cast t (Ref 0) w ≡ gives (Ref 0)
cast_null (types.primitive m) w e = cc
cast_null (types.object name) w e = refl
cast_null (types.array t) w e = refl

pub no_cast : (from to : FieldType) (slot : Slot) (w : World) (l : ℕ) → primitive_letter from ≡ Some l → cast_between from to slot w ≡ gives slot
no_cast (types.primitive m) to slot w l e = refl
no_cast (types.object name) to slot w l e = cc
no_cast (types.array t) to slot w l e = cc

pub cast_wanted : (from to : FieldType) (slot : Slot) (w : World) → primitive_letter from ≡ None → cast_between from to slot w ≡ cast to slot w
cast_wanted (types.primitive m) to slot w e = cc
cast_wanted (types.object name) to slot w e = refl
cast_wanted (types.array t) to slot w e = refl

module _ (oracle : Oracle) (from to : FieldType) (w : World) where
  abbrev first_given : Tried (Slot × NamedHeap) → Attempt (Option Slot × NamedHeap)
  first_given = on_tried (λ made. gives (some_first made))

  of_box : (b : Option (Slot × NamedHeap)) → end_of oracle (or_out budgets.Cells (option_map some_first b)) ≡ end_of oracle (first_given (end_of oracle (or_out budgets.Cells b)))
  of_box None = refl
  of_box (Some made) = refl

  of_fitting : (t : Tried Slot) → end_of oracle (on_tried (λ fitting. or_out budgets.Cells (option_map some_first (boxed_as from to fitting w.heap))) t)
      ≡ end_of oracle (first_given (end_of oracle (on_tried (λ fitting. or_out budgets.Cells (boxed_as from to fitting w.heap)) t)))
  of_fitting (fine fitting) = of_box (boxed_as from to fitting w.heap)
  of_fitting (raises t) = refl
  of_fitting (runs_out b) = refl
  of_fitting is_stuck = refl

  of_value : (t : Tried Slot)
      → end_of oracle (on_tried (λ value. cast_between from to value w >>= λ fitting. or_out budgets.Cells (option_map some_first (boxed_as from to fitting w.heap))) t)
      ≡ end_of oracle (first_given (end_of oracle (on_tried (λ value. cast_between from to value w >>= λ fitting. or_out budgets.Cells (boxed_as from to fitting w.heap)) t)))
  of_value (fine value) =
      end_of-after oracle (cast_between from to value w) (on_tried (λ fitting. or_out budgets.Cells (option_map some_first (boxed_as from to fitting w.heap))))
      ∙ of_fitting (end_of oracle (cast_between from to value w))
      ∙ sym (ap (λ t. end_of oracle (first_given t)) (end_of-after oracle (cast_between from to value w) (on_tried (λ fitting. or_out budgets.Cells (boxed_as from to fitting w.heap)))))
  of_value (raises t) = refl
  of_value (runs_out b) = refl
  of_value is_stuck = refl

  pub converted_told : (slot : Slot) → end_of oracle (converted (Some from) (Some to) (Some slot) w)
      ≡ end_of oracle (on_tried (λ made. gives (some_first made)) (end_of oracle (converted_value from to slot w)))
  unfolding converted
  converted_told slot =
      end_of-after oracle (as_type from to slot w)
      (on_tried (λ value. cast_between from to value w >>= λ fitting. or_out budgets.Cells (option_map some_first (boxed_as from to fitting w.heap))))
      ∙ of_value (end_of oracle (as_type from to slot w))
      ∙ sym (ap (λ t. end_of oracle (first_given t)) (end_of-after oracle (as_type from to slot w)
      (on_tried (λ value. cast_between from to value w >>= λ fitting. or_out budgets.Cells (boxed_as from to fitting w.heap)))))

pub converted_nothing : (from : Option FieldType) (v : Option Slot) (w : World) → converted from None v w ≡ gives (None, w.heap)
unfolding converted
converted_nothing None v w = refl
converted_nothing (Some from) v w = refl

pub converted_of_nothing : (to : FieldType) (v : Option Slot) (w : World) → converted None (Some to) v w ≡ sticks
unfolding converted
converted_of_nothing to v w = refl

pub converted_without : (from to : FieldType) (w : World) → converted (Some from) (Some to) None w ≡ sticks
unfolding converted
converted_without from to w = refl

pub ruleset results = (converted_told, converted_nothing, converted_of_nothing, converted_without)

pub ruleset casts = (cast_primitive, cast_reference, cast_null, no_cast, cast_wanted)
