-- Concatenations (JVMS 6.5, invokedynamic, of `makeConcatWithConstants`): they print each reference that is no null by its
-- `toString`, as natives that call back.
use Rattle.std.specs.Prelude.{ℕ, suc, ◌==◌, ℤ, Bool, true, false, List, [], ◌∷◌, ◌++◌, map, filter, codes, Option, Some, None, option_map, slice_get, unwrap_or, if◌then◌else◌}
use Rattle.std.specs.Str.{byte}
use Rattle.std.specs.Fmt.{signed_decimal}
use Rattle.std.specs.Int.{w32, w64, cast_signed}
use Rattle.jvm_tables.specs.declared.natives.Callback.TheVariants.{ToString}
use Rattle.class_model.specs.Descriptors.{FieldType, method_type}
use Rattle.class_model.specs.Descriptors as types
use Rattle.class_code.specs.Named.{Named}
use Rattle.class_code.specs.Named as named
use Rattle.line_text.specs.Lines.{units_of_name}
use Rattle.jvm_heap.specs.declared.slot.Slot.{Slot}
use Rattle.jvm_heap.specs.declared.slot.Slot.TheVariants.{Int, Long, Ref}
use Rattle.native_model.specs.Texts.{truth_text, unit_of}
use Rattle.native_model.specs.Worlds.{World}
use Rattle.native_model.specs.Answers.{Answer, Progress, results, gives_text, or_mismatch, calls}
use Rattle.native_model.specs.Lists.{texts_given}

abbrev pub is_object : Slot → Bool
is_object (Ref (suc n)) = true
is_object _ = false

-- a number by its type
abbrev pub number_text : ℕ → ℤ → List ℕ
number_text letter n =
    if letter == byte "Z" then truth_text n else if letter == byte "C" then unit_of n ∷ [] else signed_decimal n

abbrev pub value_text : FieldType → Slot → List ℕ
value_text (types.primitive letter) (Int n) = number_text letter n
value_text _ (Long n) = signed_decimal n
value_text _ _ = codes "null"

-- the texts of arguments, with those that were given for objects
abbrev pub argument_texts : List FieldType → List Slot → List (List ℕ) → List (List ℕ)
argument_texts (t ∷ kinds) (Ref (suc n) ∷ slots) (given ∷ texts) = given ∷ argument_texts kinds slots texts
argument_texts (t ∷ kinds) (slot ∷ slots) texts = value_text t slot ∷ argument_texts kinds slots texts
argument_texts _ _ texts = []

abbrev pub constant_text : Named → List ℕ
constant_text (named.int n) = signed_decimal (cast_signed w32 n)
constant_text (named.long n) = signed_decimal (cast_signed w64 n)
constant_text (named.text bytes) = units_of_name bytes
constant_text _ = []

abbrev pub head_text : List (List ℕ) → List ℕ
head_text [] = []
head_text (t ∷ texts) = t

abbrev pub rest_of : List (List ℕ) → List (List ℕ)
rest_of [] = []
rest_of (t ∷ texts) = texts

-- U+0001 is the next argument, U+0002 the next constant, and all else is itself
abbrev pub filled : List ℕ → List (List ℕ) → List (List ℕ) → List ℕ
filled [] arguments constants = []
filled (u ∷ recipe) arguments constants =
    if u == 1 then head_text arguments ++ filled recipe (rest_of arguments) constants
    else if u == 2 then head_text constants ++ filled recipe arguments (rest_of constants)
    else u ∷ filled recipe arguments constants

abbrev pub parameter_types : List ℕ → List FieldType
parameter_types descriptor = unwrap_or (option_map (λ m. m.parameters) (method_type descriptor)) []

abbrev pub joined_texts : List ℕ → List ℕ → List Named → List Slot → World → List (List ℕ) → Answer
joined_texts descriptor recipe constants slots w texts =
    gives_text (filled (units_of_name recipe) (argument_texts (parameter_types descriptor) slots texts) (map constant_text constants)) w

abbrev pub asked_or_joined : Answer → Option Slot → Answer
asked_or_joined joined None = joined
asked_or_joined joined (Some slot) = calls ToString (slot ∷ [])

-- What a callback gives as a text and isn't one is an object of another class than is wanted.
unfoldable pub concatenation_answer : List ℕ → List ℕ → List Named → List Slot → Progress → World → Answer
concatenation_answer descriptor recipe constants slots p w =
    or_mismatch (texts_given (results p) w)
    (λ texts. asked_or_joined (joined_texts descriptor recipe constants slots w texts) (slice_get (filter is_object slots) p.answered))
