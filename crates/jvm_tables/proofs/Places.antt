-- The row at a place of a table.
use Rattle.std.proofs.Common.{◌≡◌, ℕ, ◌≤◌, List, Some, None, ap, ◌∙◌, length, map, option_map, slice_get}
use Rattle.std.proofs.lemmas.Option.{slice_get-map, slice_get_past}

-- there is one, and what it states
pub row_there : {A B : Type 0} (f : A → B) (rows : List A) (at : ℕ) (row : A) → slice_get rows at ≡ Some row → option_map {U = ℕ × B} (λ r. (at, r)) (slice_get (map f rows) at) ≡ Some (at, f row)
row_there {A} {B} f rows at row h = ap (option_map {U = ℕ × B} (λ (r : B). (at, r))) (slice_get-map f rows at ∙ ap (option_map f) h)

-- past the last there is none
pub row_past : {A B : Type 0} (f : A → B) (rows : List A) (at : ℕ) → length rows ≤ at → option_map {U = ℕ × B} (λ r. (at, r)) (slice_get (map f rows) at) ≡ None
row_past {A} {B} f rows at h = ap (option_map {U = ℕ × B} (λ (r : B). (at, r))) (slice_get-map f rows at ∙ ap (option_map f) (slice_get_past rows at h))
