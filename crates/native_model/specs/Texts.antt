-- Texts of objects, which are units of UTF-16, and what they are in UTF-8 and in the names of class files.
use Rattle.std.specs.Prelude.{ℕ, zero, ◌+◌, ◌-◌, ◌*◌, ◌%◌, ◌^◌, ◌==◌, nat_eq, nat_le, ℤ, pos, neg_ℤ, ◌-ℤ◌, int_le, Bool, false, ◌&&◌, List, [], ◌∷◌, length, map, flat_map, fold, codes, chars, encode_utf8_all, Option, Some, None, option_map, if◌then◌else◌}
use Rattle.std.specs.List.{list_all, starts_with}
use Rattle.std.specs.Str.{byte}
use Rattle.std.specs.Fmt.{digits}
use Rattle.std.specs.Char.Escape.{encode_utf16}
use Rattle.std.specs.Char.Utf16.{utf16_chars}
use Rattle.std.specs.Int.{w32, cast_unsigned, int_wrapping_add, int_wrapping_mul}
use Rattle.line_text.specs.Lines.{units_of_name}

-- the units of a text in UTF-8 (RFC 3629, RFC 2781)
unfoldable pub units_of_text : List ℕ → List ℕ
units_of_text bytes = flat_map encode_utf16 (chars bytes)

-- what units spell, where each surrogate has its partner
abbrev pub all_chars : List (Option ℕ) → Option (List ℕ)
all_chars [] = Some []
all_chars (None ∷ cs) = None
all_chars (Some c ∷ cs) = option_map (λ more. c ∷ more) (all_chars cs)

-- the text of units in UTF-8; None where a surrogate has no partner
unfoldable pub text_of_units : List ℕ → Option (List ℕ)
text_of_units units = option_map encode_utf8_all (all_chars (utf16_chars units))

abbrev pub dot_for_slash : ℕ → ℕ
dot_for_slash u = if u == byte "/" then byte "." else u

-- the name of a class in a text: the units that it spells, with dots (JLS 13.1)
unfoldable pub dotted : List ℕ → List ℕ
dotted name = map dot_for_slash (units_of_name name)

-- `0x` and such are left out
abbrev pub hexadecimal : ℕ → List ℕ
hexadecimal n = digits 16 false n

abbrev pub truth_text : ℤ → List ℕ
truth_text (pos zero) = codes "false"
truth_text _ = codes "true"

-- the unit of an int as a char: its low 16 bits
abbrev pub unit_of : ℤ → ℕ
unit_of n = cast_unsigned w32 n % 2 ^ 16

-- the hash of a text: s[0] * 31 ^ (n - 1) + .. + s[n - 1], which wraps
unfoldable pub hash_of_text : List ℕ → ℤ
hash_of_text units = fold (λ h u. int_wrapping_add w32 (int_wrapping_mul w32 (pos 31) h) (pos u)) (pos 0) units

-- the difference of the first units that differ, else of the lengths
unfoldable pub compared_texts : List ℕ → List ℕ → ℤ
compared_texts [] others = neg_ℤ (pos (length others))
compared_texts (u ∷ units) [] = pos (length (u ∷ units))
compared_texts (u ∷ units) (o ∷ others) = if u == o then compared_texts units others else pos u -ℤ pos o

-- the first place from `at` on at which a part stands
unfoldable pub place_from : ℕ → List ℕ → List ℕ → Option ℕ
place_from at part [] = if length part == 0 then Some at else None
place_from at part (u ∷ units) = if starts_with nat_eq (u ∷ units) part then Some at else place_from (at + 1) part units

abbrev pub is_digit : ℕ → Bool
is_digit u = nat_le (byte "0") u && nat_le u (byte "9")

abbrev pub with_digit : ℕ → ℕ → ℕ
with_digit n u = 10 * n + (u - byte "0")

-- a number in decimal digits, of which there is at least one
abbrev pub number_of : List ℕ → Option ℕ
number_of [] = None
number_of (u ∷ units) = if list_all is_digit (u ∷ units) then Some (fold with_digit 0 (u ∷ units)) else None

-- a number with a sign or without one
unfoldable pub signed_number_of : List ℕ → Option ℤ
signed_number_of [] = None
signed_number_of (u ∷ units) =
    if u == byte "-" then option_map (λ n. neg_ℤ (pos n)) (number_of units)
    else if u == byte "+" then option_map pos (number_of units)
    else option_map pos (number_of (u ∷ units))

-- a number within bounds
abbrev pub if_within : ℤ → ℤ → ℤ → Option ℤ
if_within least most n = if int_le least n && int_le n most then Some n else None
