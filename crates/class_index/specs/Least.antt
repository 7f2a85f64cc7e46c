-- The least of names, in the order of bytes.
use Rattle.std.specs.Prelude.{◌≡◌, ℕ, ◌⊎◌, false, List, [], ◌∷◌, Option, Some, None, if◌then◌else◌}
use Rattle.std.specs.Cmp.Lexicographic.{slice_cmp}
use Rattle.std.specs.Ordering.{nat_cmp, is_gt}

-- the name is one of these
abbrev pub IsIn : List ℕ → List (List ℕ) → Type 0
IsIn name [] = ⊥
IsIn name (x ∷ xs) = (x ≡ name) ⊎ IsIn name xs

-- no lesser name is one of these
pub record IsLeast (Among : List ℕ → Type 0) (name : List ℕ) : Type 0 where
  pub among : Among name
  pub least : (other : List ℕ) → Among other → is_gt (slice_cmp nat_cmp name other) ≡ false

-- the lesser of two, if there is one before
abbrev pub lesser_of : Option (List ℕ) → List ℕ → List ℕ
lesser_of None name = name
lesser_of (Some least) name = if is_gt (slice_cmp nat_cmp least name) then name else least

abbrev pub least_from : Option (List ℕ) → List (List ℕ) → Option (List ℕ)
least_from least [] = least
least_from least (x ∷ xs) = least_from (Some (lesser_of least x)) xs
