-- Texts in printed lines. A character below U+0020, U+007F and a backslash are escaped, so that a line stays one line;
-- any other stands in UTF-8 (RFC 3629).
use Rattle.std.specs.Prelude.{◌≢◌, ℕ, ◌<◌, ◌≤◌, ◌==◌, ◌||◌, nat_lt, List, [], ◌∷◌, length, flat_map, codes, All, Option, Some, None, unwrap_or, if◌then◌else◌, encode_utf8, IsUtf8}
use Rattle.std.specs.Char.Escape.{backslash, hex_digit_at}
use Rattle.std.specs.Char.Utf16.{utf16_chars}
use Rattle.class_model.specs.Units.{units_at}

-- `\u` and four lower hexadecimal digits
abbrev pub escaped : ℕ → List ℕ
escaped c = backslash ∷ 117 ∷ hex_digit_at 0x1000 c ∷ hex_digit_at 0x100 c ∷ hex_digit_at 0x10 c ∷ hex_digit_at 1 c ∷ []

-- a byte as it is printed: only ASCII is ever escaped, and bytes of longer characters are at least 0x80
unfoldable pub line_of_byte : ℕ → List ℕ
line_of_byte b =
    if nat_lt b 0x20 || b == 0x7f then escaped b
    else if b == backslash then backslash ∷ backslash ∷ []
    else b ∷ []

-- a character as it is printed
unfoldable pub line_of_char : ℕ → List ℕ
line_of_char c = if nat_lt c 0x80 then line_of_byte c else encode_utf8 c

-- what UTF-16 spells at a place: a character, or `?` where a surrogate has no partner
abbrev pub line_of_spelled : Option ℕ → List ℕ
line_of_spelled (Some c) = line_of_char c
line_of_spelled None = codes "?"

-- units of UTF-16, in which a pair of surrogates is one character
unfoldable pub line_of_units : List ℕ → List ℕ
line_of_units units = flat_map line_of_spelled (utf16_chars units)

-- the units of a name, whose bytes are modified UTF-8 (JVMS 4.4.7)
unfoldable pub units_of_name : List ℕ → List ℕ
units_of_name bytes = unwrap_or (units_at (length bytes) bytes) []

abbrev pub line_of_name : List ℕ → List ℕ
line_of_name bytes = line_of_units (units_of_name bytes)

-- a path, whose bytes are UTF-8
abbrev pub line_of_path : List ℕ → List ℕ
line_of_path bytes = flat_map line_of_byte bytes

-- bytes that stand within one line: UTF-8 with no control character of ASCII
pub record IsOneLine (bytes : List ℕ) : Type 0 where
  pub text : IsUtf8 bytes
  pub no_controls : All (λ b. (0x20 ≤ b) × (b ≢ 0x7f)) bytes

-- a character of ASCII that is printed as it is
pub record IsPlain (b : ℕ) : Type 0 where
  pub from : 0x20 ≤ b
  pub below : b < 0x7f
  pub other : b ≢ backslash
