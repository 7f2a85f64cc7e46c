-- What a sink has taken and a source has left, where they tell.
use Rattle.std.specs.Prelude.{◌≡◌, ℕ, List, ◌++◌, Option}
use Rattle.std.specs.Option.{option_map}

-- a sink that had `before` took the piece behind it
abbrev pub Got : Option (List ℕ) → Option (List ℕ) → List ℕ → Type 0
Got before after piece = after ≡ option_map (λ taken. taken ++ piece) before

-- a source that had `before` gave the piece from its front
abbrev pub Gave : Option (List ℕ) → Option (List ℕ) → List ℕ → Type 0
Gave before after piece = before ≡ option_map (λ rest. piece ++ rest) after
