-- What natives do with the first answer of their callbacks.
use Rattle.std.proofs.Common.{◌≡◌, ℕ, List, [], ◌∷◌, refl}
use Rattle.std.specs.Prelude.{false, Option, Some, None}
use Rattle.jvm_heap.specs.declared.slot.Slot.{Slot}
use Rattle.jvm_heap.specs.declared.slot.Slot.TheVariants.{Top, Int, Long, Ref}
use Rattle.native_model.specs.Worlds.{World}
use Rattle.native_model.specs.Thrown.{incompatible_change}
use Rattle.native_model.specs.Answers.{Answer, throws, first_of, gives_truth, gives_reference, or_mismatch, text_given, is_true}
use Rattle.native_model.specs.Plain.{equality_given, message_given, throwable_made}
use Rattle.native_model.specs.Strings.{reference_given, append_given, appended}

abbrev pub on_equality : World → Option Slot → Answer
on_equality w None = gives_truth false w
on_equality w (Some slot) = gives_truth (is_true slot) w

pub equality_first : (w : World) (slots : List Slot) → equality_given w slots ≡ on_equality w (first_of slots)
equality_first w [] = refl
equality_first w (slot ∷ slots) = refl

abbrev pub on_reference : World → Option Slot → Answer
on_reference w (Some (Ref n)) = gives_reference n w
on_reference w _ = throws incompatible_change

pub reference_first : (w : World) (slots : List Slot) → reference_given w slots ≡ on_reference w (first_of slots)
reference_first w [] = refl
reference_first w (Top ∷ slots) = refl
reference_first w (Int n ∷ slots) = refl
reference_first w (Long n ∷ slots) = refl
reference_first w (Ref n ∷ slots) = refl

abbrev pub on_message : ℕ → ℕ → World → Option Slot → Answer
on_message o cause w (Some (Ref message)) = throwable_made o message cause w
on_message o cause w _ = throws incompatible_change

pub message_first : (o cause : ℕ) (w : World) (slots : List Slot) → message_given o cause w slots ≡ on_message o cause w (first_of slots)
message_first o cause w [] = refl
message_first o cause w (Top ∷ slots) = refl
message_first o cause w (Int n ∷ slots) = refl
message_first o cause w (Long n ∷ slots) = refl
message_first o cause w (Ref n ∷ slots) = refl

abbrev pub on_appended : ℕ → World → Option Slot → Answer
on_appended b w None = throws incompatible_change
on_appended b w (Some slot) = or_mismatch (text_given slot w) (λ more. appended b more w)

pub append_first : (b : ℕ) (w : World) (slots : List Slot) → append_given b w slots ≡ on_appended b w (first_of slots)
append_first b w [] = refl
append_first b w (slot ∷ slots) = refl

pub ruleset first_results = (equality_first, reference_first, message_first, append_first)
