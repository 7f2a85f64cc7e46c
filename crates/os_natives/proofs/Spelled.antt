-- What units of UTF-16 spell.
use Rattle.std.proofs.Common.{◌≡◌, ℕ, Bool, true, false, List, [], ◌∷◌, map, refl, ap, ◌∙◌}
use Rattle.std.specs.Prelude.{Option, Some, None, if◌then◌else◌, not, is_some, unwrap_or, option_map, encode_utf8_all, IsUtf8}
use Rattle.std.specs.Str.{is_utf8}
use Rattle.std.proofs.lemmas.Str.{IsUtf8-from_is_utf8, is_utf8-from_IsUtf8}
use Rattle.std.specs.List.{list_any}
use Rattle.std.specs.Char.Utf16.{utf16_chars, utf16_lossy_chars, has_unpaired_surrogate}
use Rattle.native_model.specs.Texts.{all_chars, text_of_units, units_of_text}
use Rattle.native_model.specs.Worlds.{World}
use Rattle.native_model.specs.Thrown.{file_fault}
use Rattle.native_model.specs.Answers.{throws, gives_text}
use Rattle.native_model.specs.Outside.{text_read}
use Rattle.os_natives.specs.Plans.{text_if, told_by_text}

all_paired : (l : List (Option ℕ)) → list_any (λ o. not (is_some o)) l ≡ false → all_chars l ≡ Some (map (λ o. unwrap_or o 0xFFFD) l)
all_paired [] is = refl
all_paired (None ∷ l) is = cc
all_paired (Some c ∷ l) is = ap (option_map (λ more. c ∷ more)) (all_paired l is)

one_lone : (l : List (Option ℕ)) → list_any (λ o. not (is_some o)) l ≡ true → all_chars l ≡ None
one_lone [] is = cc
one_lone (None ∷ l) is = refl
one_lone (Some c ∷ l) is = ap (option_map (λ more. c ∷ more)) (one_lone l is)

pub text_of_pairs : (units : List ℕ) → has_unpaired_surrogate units ≡ false → text_of_units units ≡ Some (encode_utf8_all (utf16_lossy_chars units))
unfolding text_of_units
text_of_pairs units is = ap (option_map encode_utf8_all) (all_paired (utf16_chars units) is)

pub no_text : (units : List ℕ) → has_unpaired_surrogate units ≡ true → text_of_units units ≡ None
unfolding text_of_units
no_text units is = ap (option_map encode_utf8_all) (one_lone (utf16_chars units) is)

pub ruleset spelled = (text_of_pairs, no_text)

pub not_utf8 : (bytes : List ℕ) → ¬ (IsUtf8 bytes) → is_utf8 bytes ≡ false
not_utf8 bytes none = by (is_utf8 bytes) refl
  where
    by : (t : Bool) → is_utf8 bytes ≡ t → t ≡ false
    by true is = absurd (none (IsUtf8-from_is_utf8 bytes is))
    by false is = refl

pub ruleset utf8 = (is_utf8-from_IsUtf8, not_utf8)

pub read_told : (units bytes : List ℕ) (w : World) → text_read units w (Some bytes) ≡ told_by_text units w (text_if bytes)
read_told units bytes w = by (is_utf8 bytes)
  where
    by : (t : Bool) → (if t then gives_text (units_of_text bytes) w else throws (file_fault units)) ≡ told_by_text units w (if t then Some (units_of_text bytes) else None)
    by true = refl
    by false = refl
