-- Texts that carry their length before them, so that a row of them is read in one way alone.
use Rattle.std.specs.Prelude.{ℕ, List, [], ◌∷◌, ◌++◌, length}
use Rattle.std.specs.Fmt.{decimal}
use Rattle.std.specs.Str.{byte}

-- the length in decimal, a colon, the text and a comma (the netstrings of D. J. Bernstein, 1997)
unfoldable pub net : List ℕ → List ℕ
net text = decimal (length text) ++ byte ":" ∷ text ++ byte "," ∷ []
