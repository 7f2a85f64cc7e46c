-- Reading modified UTF-8 unit by unit.
use Rattle.std.specs.Prelude.{ℕ, zero, suc, ◌+◌, ◌-◌, ◌*◌, Bool, ◌&&◌, ◌==◌, nat_lt, nat_le, List, [], ◌∷◌, length, Option, Some, None, is_some, option_map, option_and_then, if◌then◌else◌}

-- a byte after the first has six bits of the unit
abbrev pub is_later : ℕ → Bool
is_later b = nat_le 0x80 b && nat_lt b 0xc0

-- A unit of two bytes is 0 or at least 0x80; one of three is at least 0x800.
abbrev pub of_two : ℕ → List ℕ → Option (ℕ × List ℕ)
of_two unit rest = if unit == 0 then Some (unit, rest) else if nat_lt unit 0x80 then None else Some (unit, rest)

abbrev pub of_three : ℕ → List ℕ → Option (ℕ × List ℕ)
of_three unit rest = if nat_lt unit 0x800 then None else Some (unit, rest)

unfoldable pub two : ℕ → List ℕ → Option (ℕ × List ℕ)
two high [] = None
two high (b ∷ rest) = if is_later b then of_two (64 * high + (b - 0x80)) rest else None

unfoldable pub three : ℕ → List ℕ → Option (ℕ × List ℕ)
three high [] = None
three high (b ∷ []) = None
three high (b ∷ c ∷ rest) =
    if is_later b then (if is_later c then of_three (4096 * high + 64 * (b - 0x80) + (c - 0x80)) rest else None) else None

-- the unit at the front of bytes, and the bytes behind it
unfoldable pub unit_at : List ℕ → Option (ℕ × List ℕ)
unit_at [] = None
unit_at (b ∷ rest) =
    if nat_lt b 0x80 then (if b == 0 then None else Some (b, rest))
    else if nat_lt b 0xc0 then None
    else if nat_lt b 0xe0 then two (b - 0xc0) rest
    else if nat_lt b 0xf0 then three (b - 0xe0) rest
    else None

-- all units of bytes, of which there are at most so many; None where the bytes are no text
unfoldable pub units_at : ℕ → List ℕ → Option (List ℕ)
units_at most [] = Some []
units_at zero (b ∷ bytes) = None
units_at (suc most) (b ∷ bytes) =
    option_and_then (λ found. option_map (λ units. found.0 ∷ units) (units_at most found.1)) (unit_at (b ∷ bytes))

-- whether bytes are a text; a text has at most as many units as bytes
unfoldable pub is_text : List ℕ → Bool
is_text bytes = is_some (units_at (length bytes) bytes)
