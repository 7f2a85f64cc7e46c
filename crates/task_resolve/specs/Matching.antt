-- Which names a selector's segments match.
use Rattle.std.specs.Prelude.{ℕ, ◌-◌, Bool, true, false, ◌&&◌, ◌||◌, List, [], ◌∷◌, length, drop}
use Rattle.std.specs.List.{list_any}
use Rattle.std.specs.Str.{bytes_eq}
use Rattle.task_resolve.specs.declared.request.Segment.{Segment}
use Rattle.task_resolve.specs.declared.request.Segment.TheVariants.{Literal, One, Any, Choice}

-- one segment of a name fits one of the selector; `__` is looked at by itself
abbrev pub fits : Segment → List ℕ → Bool
fits (Literal text) name = bytes_eq text name
fits One name = true
fits Any name = false
fits (Choice texts) name = list_any (λ text. bytes_eq text name) texts

-- the test passes some end of the list, the whole and nothing among them
abbrev pub some_end : (List (List ℕ) → Bool) → List (List ℕ) → Bool
some_end test [] = test []
some_end test (name ∷ names) = test (name ∷ names) || some_end test names

-- the first segment fits the first one of the name, and the others match
abbrev pub match_one : Segment → (List (List ℕ) → Bool) → List (List ℕ) → Bool
match_one segment test [] = false
match_one segment test (name ∷ names) = fits segment name && test names

abbrev pub match_first : Segment → (List (List ℕ) → Bool) → List (List ℕ) → Bool
match_first (Literal text) test names = match_one (Literal text) test names
match_first One test names = match_one One test names
match_first Any test names = some_end test names
match_first (Choice texts) test names = match_one (Choice texts) test names

-- a selector's segments match the segments of a name: `__` stands for any number of them, so that what follows it
-- matches some end
unfoldable pub matches : List Segment → List (List ℕ) → Bool
matches [] [] = true
matches [] (name ∷ names) = false
matches (segment ∷ segments) names = match_first segment (matches segments) names

-- the last so many segments of a name
abbrev pub ending : List (List ℕ) → ℕ → List (List ℕ)
ending names count = drop (length names - count) names
