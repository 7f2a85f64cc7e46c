-- Files put or taken away one after another, and what is left where one of these calls is refused.
use Rattle.std.specs.Prelude.{◌≡◌, ℕ, ◌⊎◌, List, [], ◌∷◌, Option}
use Rattle.std.specs.Option.{option_map}
use Rattle.io_traits.specs.Files.{File, Files, get, put_in, take_out, LeftByPut, LeftByRemove}

-- the content after these puts, in this order, where it is told
abbrev pub puts_in : List File → Option Files → Option Files
puts_in [] content = content
puts_in (file ∷ more) content = puts_in more (put_in file.0 file.1 content)

-- the content after these removals
abbrev pub takes_out : List (List ℕ) → Option Files → Option Files
takes_out [] content = content
takes_out (name ∷ more) content = takes_out more (take_out name content)

-- some of the first puts were made, and the next was refused, or not begun
abbrev pub LeftByPuts : List File → Option Files → Option Files → Type 0
LeftByPuts [] old new = new ≡ old
LeftByPuts (file ∷ more) old new = LeftByPut file.0 file.1 old new ⊎ LeftByPuts more (put_in file.0 file.1 old) new

-- the same of removals
abbrev pub LeftByRemoves : List (List ℕ) → Option Files → Option Files → Type 0
LeftByRemoves [] old new = new ≡ old
LeftByRemoves (name ∷ more) old new = LeftByRemove name old new ⊎ LeftByRemoves more (take_out name old) new

-- what stands under a name, where the content is told
abbrev pub at_name : List ℕ → Option Files → Option (Option (List ℕ))
at_name name content = option_map (λ files. get files name) content

-- all names but those that P allows have what they had
abbrev pub OthersStay : (List ℕ → Type 0) → Option Files → Option Files → Type 0
OthersStay P old new = (name : List ℕ) → (P name → ⊥) → at_name name new ≡ at_name name old
