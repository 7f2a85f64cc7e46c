-- The words of a command.
use Rattle.std.specs.Prelude.{Bool, false, ℕ, List, [], ◌∷◌, length, slice_index, nat_le, ◌&&◌, ◌||◌, ◌==◌, if◌then◌else◌, Option, Some, None, codes}
use Rattle.std.specs.List.{list_all}
use Rattle.std.specs.Str.{bytes_eq}

-- `A` to `Z` or `a` to `z`
abbrev pub is_letter : ℕ → Bool
is_letter c = (nat_le 65 c && nat_le c 90) || (nat_le 97 c && nat_le c 122)

-- a letter, a digit, `-` or `_`
abbrev pub is_name_byte : ℕ → Bool
is_name_byte c = is_letter c || (nat_le 48 c && nat_le c 57) || (c == 45) || (c == 95)

-- one segment of a task name: a letter, then letters, digits, `-` and `_`, 64 bytes at most
abbrev pub is_segment : List ℕ → Bool
is_segment bytes = is_letter (slice_index bytes 0) && (list_all is_name_byte bytes && nat_le (length bytes) 64)

abbrev pub is_explain : List ℕ → Bool
is_explain word = bytes_eq word (codes "--explain")

-- the words without `--explain`, where it is the first
abbrev pub without_explain : List (List ℕ) → List (List ℕ)
without_explain [] = []
without_explain (word ∷ words) = if is_explain word then words else word ∷ words

-- the task of the words `show TASK`, where TASK is one segment of a task name
abbrev pub shown : List (List ℕ) → Option (List ℕ)
shown (verb ∷ task ∷ []) = if bytes_eq verb (codes "show") && is_segment task then Some task else None
shown _ = None

-- the task of the words `-j 1 show TASK` and `-j 1 --explain show TASK`
abbrev pub asked : List (List ℕ) → Option (List ℕ)
asked (option ∷ workers ∷ words) =
    if bytes_eq option (codes "-j") && bytes_eq workers (codes "1") then shown (without_explain words) else None
asked _ = None

-- whether `--explain` stands behind `-j 1`
abbrev pub explains : List (List ℕ) → Bool
explains (option ∷ workers ∷ word ∷ words) = is_explain word
explains _ = false
