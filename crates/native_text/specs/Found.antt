-- What natives on texts find in the world before they make a text.
use Rattle.std.specs.Prelude.{ℕ, List, ◌++◌, codes, Option, Some, None, option_map, option_and_then, Result, Ok, Err}
use Rattle.native_model.specs.declared.throw.Throw.{Throw}
use Rattle.jvm_heap.specs.Objects.{throwable}
use Rattle.jvm_heap.specs.Heaps.{object_at}
use Rattle.native_model.specs.Texts.{dotted, hexadecimal}
use Rattle.native_model.specs.Plain.{after_colon}
use Rattle.native_model.specs.Worlds.{NamedObject, World, class_of, as_text, seen}
use Rattle.native_model.specs.Answers.{Answer, throws, gives_text}
use Rattle.native_model.specs.Ends.{thrown_of}

-- two texts one behind the other, where both are texts
abbrev pub joined_texts : ℕ → ℕ → World → Option (List ℕ)
joined_texts text other w = option_and_then (λ units. option_map (λ others. units ++ others) (seen as_text other w)) (seen as_text text w)

-- a text of units that were made, or what is thrown in its place
abbrev pub text_or_thrown : Result (List ℕ) Throw → World → Answer
text_or_thrown (Ok units) w = gives_text units w
text_or_thrown (Err what) w = throws (thrown_of what)

-- the class and the message of a throwable
abbrev pub class_and_message : NamedObject → Option (List ℕ × ℕ)
class_and_message (throwable class fields message cause) = Some (class, message)
class_and_message _ = None

-- what a throwable's text is
abbrev pub thrown_units : ℕ → World → Option (List ℕ)
thrown_units o w =
    option_map (λ t. dotted t.0 ++ after_colon (seen as_text t.1 w)) (seen class_and_message o w)

-- what an object's text is
abbrev pub object_units : ℕ → World → Option (List ℕ)
object_units o w = option_map (λ object. dotted (class_of object) ++ codes "@" ++ hexadecimal o) (object_at o w.heap)
