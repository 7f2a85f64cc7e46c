-- The names of tasks: segments joined by dots, of at most 255 bytes together.
use Rattle.std.specs.Prelude.{ℕ, Bool, false, ◌&&◌, ◌||◌, ◌==◌, nat_le, nat_lt, List, [], ◌∷◌, length}
use Rattle.std.specs.List.{list_all, slice_split}
use Rattle.std.specs.Str.{byte}

abbrev pub is_from_to : ℕ → ℕ → ℕ → Bool
is_from_to first last b = nat_le first b && nat_le b last

-- an ASCII letter
abbrev pub is_letter : ℕ → Bool
is_letter b = is_from_to (byte "A") (byte "Z") b || is_from_to (byte "a") (byte "z") b

-- a letter, a digit, a hyphen or an underscore
abbrev pub may_follow : ℕ → Bool
may_follow b = is_letter b || is_from_to (byte "0") (byte "9") b || b == byte "-" || b == byte "_"

-- a letter and what may follow it, 1 to 64 bytes
unfoldable pub is_name_segment : List ℕ → Bool
is_name_segment [] = false
is_name_segment (b ∷ bytes) = is_letter b && list_all may_follow bytes && nat_lt (length bytes) 64

-- the parts between the dots
abbrev pub name_segments : List ℕ → List (List ℕ)
name_segments bytes = slice_split (λ b. b == byte ".") bytes

unfoldable pub is_task_name : List ℕ → Bool
is_task_name bytes = nat_le (length bytes) 255 && list_all is_name_segment (name_segments bytes)
