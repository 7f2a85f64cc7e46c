-- Texts of a pool that are kept by their numbers.
use Rattle.std.specs.Prelude.{◌≡◌, ℕ, List, [], Option, None, IfSome, unwrap_or, slice_index_or}
use Rattle.class_model.specs.declared.constant_pool.Pool.{Pool}
use Rattle.class_model.specs.Constants.{text_at}

-- what is kept of a number is its text
abbrev pub AreTexts : Pool → List (Option (List ℕ)) → Type 0
AreTexts pool texts = (n : ℕ) → IfSome (slice_index_or texts n None) (λ text. text ≡ unwrap_or (text_at pool n) [])
