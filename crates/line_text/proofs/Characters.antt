-- A path is printed byte by byte as its characters are printed.
use Rattle.std.proofs.Common.{◌≡◌, ℕ, ◌<◌, ◌≤◌, inl, inr, List, [], ◌∷◌, ◌++◌, flat_map, refl, sym, ◌∙◌, ap, ap₂, arith, append-nil}
use Rattle.std.specs.List.{AllByRecursion}
use Rattle.std.specs.Char.{encode_utf8}
use Rattle.std.specs.Str.{encode_utf8_all}
use Rattle.std.proofs.lemmas.Bool.Decides.{nat_tests}
use Rattle.std.proofs.lemmas.Bool.{cases_lt}
use Rattle.std.proofs.lemmas.Grind.{flat_map-append}
use Rattle.std.proofs.lemmas.Str.{encode_ascii}
use Rattle.line_text.specs.Lines.{line_of_byte, line_of_char, line_of_path}

pub line_of_low : (c : ℕ) → c < 128 → line_of_char c ≡ line_of_byte c
unfolding line_of_char
line_of_low c low = grind (arith, nat_tests)

pub line_of_high : (c : ℕ) → 128 ≤ c → line_of_char c ≡ encode_utf8 c
unfolding line_of_char
line_of_high c high = grind (arith, nat_tests)

abbrev IsHigh : ℕ → Type 0
IsHigh b = 128 ≤ b

encode_high : (c : ℕ) → 128 ≤ c → AllByRecursion IsHigh (encode_utf8 c)
unfolding encode_utf8
encode_high c high = grind (arith, nat_tests)

high_byte : (b : ℕ) → 128 ≤ b → line_of_byte b ≡ b ∷ []
unfolding line_of_byte
high_byte b high = grind (arith, nat_tests)

high_bytes : (bytes : List ℕ) → AllByRecursion IsHigh bytes → flat_map line_of_byte bytes ≡ bytes
high_bytes [] all = refl
high_bytes (b ∷ bytes) all = rw (high_byte b all.0, high_bytes bytes all.1) refl

line_of_encoded : (c : ℕ) → flat_map line_of_byte (encode_utf8 c) ≡ line_of_char c
line_of_encoded c = elim (cases_lt c 128) [
  | inl low ↦ ap (flat_map line_of_byte) (encode_ascii c low) ∙ append-nil (line_of_byte c) ∙ sym (line_of_low c low)
  | inr high ↦ high_bytes (encode_utf8 c) (encode_high c high) ∙ sym (line_of_high c high)
]

pub line_of_path-encoded : (cs : List ℕ) → line_of_path (encode_utf8_all cs) ≡ flat_map line_of_char cs
line_of_path-encoded [] = refl
line_of_path-encoded (c ∷ cs) =
    flat_map-append line_of_byte (encode_utf8 c) (encode_utf8_all cs) ∙ ap₂ (λ xs ys. xs ++ ys) (line_of_encoded c) (line_of_path-encoded cs)
