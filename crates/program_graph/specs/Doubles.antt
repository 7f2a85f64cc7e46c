-- The first name that the next element has too.
use Rattle.std.specs.Prelude.{ℕ, Bool, false, List, [], ◌∷◌, bytes_eq, Option, Some, None, if◌then◌else◌}

abbrev pub begins_with : {X : Type 0} → (X → List ℕ) → List ℕ → List X → Bool
begins_with f name [] = false
begins_with f name (x ∷ xs) = bytes_eq name (f x)

abbrev pub next_double : {X : Type 0} → (X → List ℕ) → List X → Option (List ℕ)
next_double f [] = None
next_double f (x ∷ xs) = if begins_with f (f x) xs then Some (f x) else next_double f xs
