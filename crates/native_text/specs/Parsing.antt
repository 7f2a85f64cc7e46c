-- Numbers in decimal digits up to a greatest one.
use Rattle.std.specs.Prelude.{ℕ, nat_le, List, [], ◌∷◌, Option, Some, None, if◌then◌else◌}
use Rattle.native_model.specs.Texts.{is_digit, with_digit}

abbrev pub if_at_most : ℕ → ℕ → Option ℕ
if_at_most most n = if nat_le n most then Some n else None

-- a number with more digits behind it, none of which make it smaller
unfoldable pub digits_behind : ℕ → ℕ → List ℕ → Option ℕ
digits_behind most n [] = if_at_most most n
digits_behind most n (u ∷ units) = if is_digit u then digits_behind most (with_digit n u) units else None
