-- The text of a selector: segments joined by dots. `_` stands for one segment, `__` for any number and also none,
-- `{a,b}` for one of these, and any other text for itself.
use Rattle.std.specs.Prelude.{ℕ, ◌-◌, ◌==◌, nat_lt, Bool, ◌&&◌, ◌||◌, List, length, map, codes, slice_index, slice_range, if◌then◌else◌}
use Rattle.std.specs.List.{list_all, slice_split}
use Rattle.std.specs.Str.{byte, bytes_eq}
use Rattle.task_model.specs.TaskNames.{is_name_segment}
use Rattle.task_resolve.specs.declared.request.Segment.{Segment}
use Rattle.task_resolve.specs.declared.request.Segment.TheVariants.{Literal, One, Any, Choice}

-- what stands between the first and the last byte
abbrev pub inner : List ℕ → List ℕ
inner text = slice_range text 1 (length text - 1)

-- the parts between the commas within the braces
abbrev pub choices : List ℕ → List (List ℕ)
choices text = slice_split (λ b. b == byte ",") (inner text)

abbrev pub is_braced : List ℕ → Bool
is_braced text = slice_index text 0 == byte "{" && slice_index text (length text - 1) == byte "}"

-- segments of tasks' names with commas between them, in braces
abbrev pub is_choice : List ℕ → Bool
is_choice text = nat_lt 1 (length text) && is_braced text && list_all is_name_segment (choices text)

unfoldable pub is_segment : List ℕ → Bool
is_segment text = bytes_eq text (codes "_") || bytes_eq text (codes "__") || is_name_segment text || is_choice text

unfoldable pub segment : List ℕ → Segment
segment text =
    if bytes_eq text (codes "_") then One
    else if bytes_eq text (codes "__") then Any
    else if is_name_segment text then Literal text
    else Choice (choices text)

-- the parts between the dots
abbrev pub parts : List ℕ → List (List ℕ)
parts word = slice_split (λ b. b == byte ".") word

unfoldable pub is_selector : List ℕ → Bool
is_selector word = list_all is_segment (parts word)

unfoldable pub segments : List ℕ → List Segment
segments word = map segment (parts word)
