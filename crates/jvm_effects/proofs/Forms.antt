-- Types by their dimensions and their letters.
use Rattle.std.proofs.Common.{◌≡◌, ◌≢◌, ℕ, zero, suc, refl}
use Rattle.std.specs.Prelude.{Some}
use Rattle.class_model.specs.declared.descriptor_text.TypeForm.{TypeForm}
use Rattle.class_model.specs.Descriptors.{FieldType}
use Rattle.class_model.specs.TypeForms.{arrays, component, type_of}
use Rattle.jvm_heap.specs.declared.slot.Slot.{Slot}
use Rattle.jvm_model.specs.Arrays.{narrowed_by}
use Rattle.jvm_resolve.proofs.Dimensions.{outermost}

array_kept : (n : ℕ) (t : FieldType) (slot : Slot) → narrowed_by (Some (arrays (suc n) t)) slot ≡ slot
array_kept n t slot = rw (outermost n t) refl

pub of_array : (form : TypeForm) (slot : Slot) → form.dimensions ≢ 0 → narrowed_by (Some (type_of form)) slot ≡ slot
of_array form slot some = by_dimensions form.dimensions some
  where
    by_dimensions : (n : ℕ) → n ≢ 0 → narrowed_by (Some (arrays n (component form))) slot ≡ slot
    by_dimensions zero some = absurd (some refl)
    by_dimensions (suc n) some = array_kept n (component form) slot

pub of_component : (form : TypeForm) (slot : Slot) → form.dimensions ≡ 0 → narrowed_by (Some (type_of form)) slot ≡ narrowed_by (Some (component form)) slot
of_component form slot e = rw e refl

pub ruleset forms = (of_array, of_component)
