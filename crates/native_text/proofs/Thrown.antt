-- The text of a throwable.
use Rattle.std.proofs.Common.{◌≡◌, ℕ, ◌++◌, refl}
use Rattle.std.specs.Prelude.{Option, Some, None, option_map, option_and_then}
use Rattle.jvm_heap.specs.Objects.{throwable}
use Rattle.jvm_heap.specs.Heaps.{object_at}
use Rattle.native_model.specs.Worlds.{NamedObject, World, as_text, seen}
use Rattle.native_model.specs.Texts.{dotted}
use Rattle.native_model.specs.Answers.{gives_text, or_mismatch}
use Rattle.native_model.specs.Plain.{after_colon, throwable_told, throwable_text}
use Rattle.native_text.specs.Found.{class_and_message, thrown_units}

told : (w : World) (x : Option NamedObject) → throwable_told w x ≡ or_mismatch (option_map (λ t. dotted t.0 ++ after_colon (seen as_text t.1 w)) (option_and_then class_and_message x)) (λ units. gives_text units w)
told w None = refl
told w (Some (throwable class fields message cause)) = refl
told w (Some _) = refl

pub thrown_told : (o : ℕ) (w : World) → throwable_text o w ≡ or_mismatch (thrown_units o w) (λ units. gives_text units w)
thrown_told o w = told w (object_at o w.heap)
