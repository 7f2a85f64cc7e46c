-- What is printed stays within one line.
use Rattle.std.proofs.Common.{◌≡◌, ◌≢◌, ℕ, zero, suc, ◌<◌, ◌≤◌, inl, inr, ◌^◌, Bool, true, false, cond, ◌&&◌, ◌||◌, ◌==◌, nat_lt, List, [], ◌∷◌, ◌++◌, flat_map, Option, Some, None, get_or, refl, arith, IsUtf8}
use Rattle.std.specs.Prelude.{IfSome}
use Rattle.std.specs.List.{AllByRecursion}
use Rattle.std.specs.Char.{IsScalar, digit_char, encode_utf8}
use Rattle.std.specs.Char.Escape.{backslash}
use Rattle.std.specs.Char.Utf16.{utf16_chars, lone_unit_char, surrogate_pair_char, is_high_surrogate, is_low_surrogate}
use Rattle.std.specs.Str.{all_scalars}
use Rattle.std.proofs.lemmas.Bool.Decides.{nat_tests}
use Rattle.std.proofs.lemmas.Bool.{cases_lt}
use Rattle.std.proofs.lemmas.List.Elements.{All-nil, All-append, All-from_recursion}
use Rattle.std.proofs.lemmas.Str.{IsUtf8-nil, IsUtf8-append, IsUtf8-encode, IsUtf8-from_ascii}
use Rattle.class_model.specs.ModifiedUtf8.{IsModifiedUtf8}
use Rattle.line_text.specs.Lines.{escaped, line_of_byte, line_of_char, line_of_spelled, line_of_units, line_of_name, line_of_path, IsOneLine}
use Rattle.line_text.proofs.Spelled.{units_of_name-spelled}
use Rattle.line_text.proofs.Characters.{line_of_low, line_of_high, line_of_path-encoded}

abbrev IsShown : ℕ → Type 0
IsShown b = (0x20 ≤ b) × (b ≢ 0x7f)

empty_one_line : IsOneLine []
empty_one_line = record { text = IsUtf8-nil; no_controls = All-nil IsShown }

append_one_line : (xs ys : List ℕ) → IsOneLine xs → IsOneLine ys → IsOneLine (xs ++ ys)
append_one_line xs ys p q =
    record { text = IsUtf8-append xs ys p.text q.text; no_controls = All-append IsShown xs ys p.no_controls q.no_controls }

abbrev IsGraphic : ℕ → Type 0
IsGraphic b = (0x20 ≤ b) × (b < 0x7f)

graphic_ascii : (bytes : List ℕ) → AllByRecursion IsGraphic bytes → (i : ℕ) → get_or bytes i 0 < 128
graphic_ascii [] all i = omega arith
graphic_ascii (b ∷ bytes) all zero = omega arith
graphic_ascii (b ∷ bytes) all (suc i) = graphic_ascii bytes all.1 i

graphic_shown : (bytes : List ℕ) → AllByRecursion IsGraphic bytes → AllByRecursion IsShown bytes
graphic_shown [] all = tt
graphic_shown (b ∷ bytes) all = ((all.0.0, (λ e. absurd (omega arith))), graphic_shown bytes all.1)

graphic_one_line : (bytes : List ℕ) → AllByRecursion IsGraphic bytes → IsOneLine bytes
graphic_one_line bytes all =
    record { text = IsUtf8-from_ascii bytes (graphic_ascii bytes all); no_controls = All-from_recursion IsShown bytes (graphic_shown bytes all) }

digit_graphic : (d : ℕ) → d < 16 → IsGraphic (digit_char d)
digit_graphic d h = grind (arith, nat_tests)

escaped_one_line : (c : ℕ) → IsOneLine (escaped c)
escaped_one_line c = graphic_one_line (escaped c) (
  (omega arith, omega arith),
  (
    (omega arith, omega arith),
    (digit_graphic _ (omega arith), (digit_graphic _ (omega arith), (digit_graphic _ (omega arith), (digit_graphic _ (omega arith), tt)))),
  ),
)

encode_shown : (c : ℕ) → 128 ≤ c → AllByRecursion IsShown (encode_utf8 c)
unfolding encode_utf8
encode_shown c high = grind (arith, nat_tests)

not_control : (b : ℕ) → (nat_lt b 0x20 || b == 0x7f) ≡ false → (0x20 ≤ b) × (b ≢ 0x7f)
not_control b apart = grind (arith, nat_tests)

byte_one_line : (b : ℕ) → b < 128 → IsOneLine (line_of_byte b)
unfolding line_of_byte
byte_one_line b low = by_control (nat_lt b 0x20 || b == 0x7f) refl
  where
    by_slash : (t : Bool) → (0x20 ≤ b) × (b ≢ 0x7f) → IsOneLine (cond t (backslash ∷ backslash ∷ []) (b ∷ []))
    by_slash true shown = graphic_one_line _ ((omega arith, omega arith), ((omega arith, omega arith), tt))
    by_slash false shown = graphic_one_line _ ((shown.0, omega (arith, shown.1)), tt)

    by_control : (t : Bool) → (nat_lt b 0x20 || b == 0x7f) ≡ t
        → IsOneLine (cond t (escaped b) (cond (b == backslash) (backslash ∷ backslash ∷ []) (b ∷ [])))
    by_control true control = escaped_one_line b
    by_control false apart = by_slash (b == backslash) (not_control b apart)

char_one_line : (c : ℕ) → IsScalar c → IsOneLine (line_of_char c)
char_one_line c is = elim (cases_lt c 128) [
  | inl low ↦ rw (line_of_low c low) (byte_one_line c low)
  | inr high ↦ rw (line_of_high c high)
      (record { text = IsUtf8-encode c is; no_controls = All-from_recursion IsShown (encode_utf8 c) (encode_shown c high) })
]

pair_scalar : (u v : ℕ) → (is_high_surrogate u && is_low_surrogate v) ≡ true → IsScalar (surrogate_pair_char u v)
pair_scalar u v is = grind (arith, nat_tests)

lone_scalar : (u : ℕ) → u < 2 ^ 16 → IfSome (lone_unit_char u) IsScalar
lone_scalar u h = grind (arith, nat_tests)

spelled_one_line : (o : Option ℕ) → IfSome o IsScalar → IsOneLine (line_of_spelled o)
spelled_one_line (Some c) is = char_one_line c is
spelled_one_line None is = graphic_one_line _ ((omega arith, omega arith), tt)

abbrev AllScalar : List (Option ℕ) → Type 0
AllScalar os = AllByRecursion (λ o. IfSome o IsScalar) os

units_spell : (units : List ℕ) → AllByRecursion (λ u. u < 2 ^ 16) units → AllScalar (utf16_chars units)
unfolding utf16_chars
units_spell [] all = tt
units_spell (u ∷ []) all = (lone_scalar u all.0, tt)
units_spell (u ∷ v ∷ us) all =
    by_test (units_spell us all.1.1) (units_spell (v ∷ us) all.1) (is_high_surrogate u && is_low_surrogate v) refl
  where
    by_test : AllScalar (utf16_chars us) → AllScalar (utf16_chars (v ∷ us)) → (t : Bool) → (is_high_surrogate u && is_low_surrogate v) ≡ t
        → AllScalar (cond t (Some (surrogate_pair_char u v) ∷ utf16_chars us) (lone_unit_char u ∷ utf16_chars (v ∷ us)))
    by_test behind after true is = (pair_scalar u v is, behind)
    by_test behind after false is = (lone_scalar u all.0, after)

all_one_line : (os : List (Option ℕ)) → AllScalar os → IsOneLine (flat_map line_of_spelled os)
all_one_line [] all = empty_one_line
all_one_line (o ∷ os) all = append_one_line (line_of_spelled o) (flat_map line_of_spelled os) (spelled_one_line o all.0) (all_one_line os all.1)

pub units_one_line : (units : List ℕ) → AllByRecursion (λ u. u < 2 ^ 16) units → IsOneLine (line_of_units units)
unfolding line_of_units
units_one_line units fit = all_one_line (utf16_chars units) (units_spell units fit)

pub name_one_line : (name : List ℕ) → IsModifiedUtf8 name → IsOneLine (line_of_name name)
name_one_line name (units, s) = rw (units_of_name-spelled units name s) (units_one_line units s.fit)

both : (a b : Bool) → (a && b) ≡ true → (a ≡ true) × (b ≡ true)
both true b e = (refl, e)
both false b e = cc

chars_one_line : (cs : List ℕ) → all_scalars cs ≡ true → IsOneLine (flat_map line_of_char cs)
chars_one_line [] all = empty_one_line
chars_one_line (c ∷ cs) all =
    let is = both _ _ all in append_one_line (line_of_char c) (flat_map line_of_char cs) (char_one_line c is.0) (chars_one_line cs is.1)

pub path_one_line : (bytes : List ℕ) → IsUtf8 bytes → IsOneLine (line_of_path bytes)
path_one_line bytes (cs, (scalars, spelled)) = rw (← spelled, line_of_path-encoded cs) (chars_one_line cs scalars)
