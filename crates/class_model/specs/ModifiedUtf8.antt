-- Modified UTF-8 (JVMS 4.4.7). A text is a list of UTF-16 units, and each unit is spelled by itself: so a character
-- above U+FFFF is its two surrogates with three bytes each, and a surrogate without its other half is allowed.
use Rattle.std.specs.Prelude.{◌≡◌, ℕ, ◌+◌, ◌/◌, ◌%◌, ◌^◌, ◌<◌, ◌≤◌, ◌&&◌, nat_lt, List, [], ◌∷◌, ◌++◌, length, flat_map, if◌then◌else◌}
use Rattle.std.specs.List.{AllByRecursion}

-- Units 1 to 127 have one byte, 0 and 128 to 2047 two, all others three.
unfoldable pub unit : ℕ → List ℕ
unit u =
    if nat_lt 0 u && nat_lt u 0x80 then u ∷ []
    else if nat_lt u 0x800 then (0xc0 + u / 64) ∷ (0x80 + u % 64) ∷ []
    else (0xe0 + u / 4096) ∷ (0x80 + u / 64 % 64) ∷ (0x80 + u % 64) ∷ []

-- the bytes spell these units
pub record Spells (units bytes : List ℕ) : Type 0 where
  pub fit : AllByRecursion (λ u. u < 2 ^ 16) units
  pub spelled : bytes ≡ flat_map unit units

abbrev pub IsModifiedUtf8 : List ℕ → Type 0
IsModifiedUtf8 bytes = (units : List ℕ) × Spells units bytes

-- a unit at the front of bytes, and what stands behind it
pub record IsUnitAt (bytes : List ℕ) (u : ℕ) (rest : List ℕ) : Type 0 where
  pub fits : u < 2 ^ 16
  pub spelled : bytes ≡ unit u ++ rest

-- what a name may be: not empty, short enough for a Utf8 constant, and a text
pub record IsName (bytes : List ℕ) : Type 0 where
  pub some : 0 < length bytes
  pub short : length bytes ≤ 65535
  pub text : IsModifiedUtf8 bytes
