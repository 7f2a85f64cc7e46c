-- The text of an object that has none of its own.
use Rattle.std.proofs.Common.{◌≡◌, ℕ, ◌++◌, refl}
use Rattle.std.specs.Prelude.{Option, Some, None, codes, option_map}
use Rattle.jvm_heap.specs.Heaps.{object_at}
use Rattle.native_model.specs.Worlds.{NamedObject, World, class_of}
use Rattle.native_model.specs.Texts.{dotted, hexadecimal}
use Rattle.native_model.specs.Answers.{gives_text, or_mismatch}
use Rattle.native_model.specs.Plain.{object_text}
use Rattle.native_text.specs.Found.{object_units}

told : (o : ℕ) (w : World) (x : Option NamedObject) → or_mismatch x (λ object. gives_text (dotted (class_of object) ++ codes "@" ++ hexadecimal o) w) ≡ or_mismatch (option_map (λ object. dotted (class_of object) ++ codes "@" ++ hexadecimal o) x) (λ units. gives_text units w)
told o w None = refl
told o w (Some object) = refl

pub object_told : (o : ℕ) (w : World) → object_text o w ≡ or_mismatch (object_units o w) (λ units. gives_text units w)
object_told o w = told o w (object_at o w.heap)
