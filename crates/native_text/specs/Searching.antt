-- How far a part stands at a place of a text.
use Rattle.std.specs.Prelude.{◌≡◌, ◌≢◌, ℕ, ◌+◌, ◌<◌, ◌≤◌, List, length, slice_index}

-- so many units at a place are the first of a part
abbrev pub Agrees : List ℕ → List ℕ → ℕ → ℕ → Type 0
Agrees part text at n = (j : ℕ) → j < n → slice_index text (at + j) ≡ slice_index part j

-- so many and no more
pub record Reaches (part text : List ℕ) (at n : ℕ) : Type 0 where
  pub in_part : n ≤ length part
  pub in_text : at + n ≤ length text
  pub agrees : Agrees part text at n
  pub ends : n < length part → at + n < length text → slice_index text (at + n) ≢ slice_index part n

-- for each place of a part but the first, how far the part stands there again
pub record IsOverlaps (part overlaps : List ℕ) : Type 0 where
  pub within : length overlaps ≤ length part
  pub reaches : (k : ℕ) → 0 < k → k < length overlaps → Reaches part part k (slice_index overlaps k)
