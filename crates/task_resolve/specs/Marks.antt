-- Marks of the ends of a name: whether segments match the end of so many segments, from none to all.
use Rattle.std.specs.Prelude.{◌≡◌, ℕ, ◌+◌, ◌-◌, ◌≤◌, nat_lt, Bool, true, false, ◌&&◌, ◌||◌, List, [], length, slice_index_or, if◌then◌else◌}
use Rattle.task_resolve.specs.Matching.{fits, matches, ending}
use Rattle.task_resolve.specs.declared.request.Segment.{Segment}
use Rattle.task_resolve.specs.declared.request.Segment.TheVariants.{Literal, One, Any, Choice}

pub record AreMarks (segments : List Segment) (names : List (List ℕ)) (marks : List Bool) : Type 0 where
  pub counted : length marks ≡ length names + 1
  pub right : (count : ℕ) → count ≤ length names → slice_index_or marks count false ≡ matches segments (ending names count)

abbrev pub is_any : Segment → Bool
is_any (Literal text) = false
is_any One = false
is_any Any = true
is_any (Choice texts) = false

-- the mark of an end, with one more segment before those of the marks; `last` is that of the end that is shorter by one
unfoldable pub next_mark : Segment → List (List ℕ) → List Bool → Bool → ℕ → Bool
next_mark segment names marks last count =
    if is_any segment then slice_index_or marks count false || nat_lt 0 count && last
    else nat_lt 0 count && fits segment (slice_index_or names (length names - count) []) && slice_index_or marks (count - 1) false
