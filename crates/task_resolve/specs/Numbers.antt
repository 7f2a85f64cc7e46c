-- Numbers among the words: decimal digits without a sign or a leading zero.
use Rattle.std.specs.Prelude.{◌≡◌, ℕ, ◌^◌, ◌==◌, nat_lt, nat_le, Bool, false, ◌&&◌, ◌||◌, not, List, [], ◌∷◌, length, Option, Some, None, option_and_then, if◌then◌else◌}
use Rattle.std.specs.Char.{is_ascii_digit}
use Rattle.std.specs.List.{list_all}
use Rattle.std.specs.Str.{byte}
use Rattle.std.specs.Str.Parse.{digits_value}

abbrev pub is_decimal : List ℕ → Bool
is_decimal [] = false
is_decimal (b ∷ bytes) = list_all is_ascii_digit (b ∷ bytes) && (length (b ∷ bytes) == 1 || not (b == byte "0"))

-- the number that digits write, if it has 32 bits
abbrev pub written : List ℕ → Option ℕ
written digits = if nat_lt (digits_value 10 digits) (2 ^ 32) then Some (digits_value 10 digits) else None

unfoldable pub number_of : List ℕ → Option ℕ
number_of word = if is_decimal word then written word else None

abbrev pub if_workers : ℕ → Option ℕ
if_workers n = if nat_le 1 n && nat_le n 16 then Some n else None

-- the number of workers that is written: 1 to 16
unfoldable pub workers_of : List ℕ → Option ℕ
workers_of word = option_and_then if_workers (number_of word)
