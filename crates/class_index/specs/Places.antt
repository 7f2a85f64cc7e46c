-- Look-ups of places by name.
use Rattle.std.specs.Prelude.{◌≡◌, ℕ, List, bytes_eq, Option, Vec}
use Rattle.std.specs.BTreeMap.{BTreeMap, get_by}
use Rattle.std.specs.Cmp.Lexicographic.{slice_cmp}
use Rattle.std.specs.Ordering.{nat_cmp}
use Rattle.std.specs.List.{position_from}

-- what a map from names has at a name
abbrev pub place_in : {A : Type 0} → BTreeMap (Vec ℕ A) ℕ → List ℕ → Option ℕ
place_in places name = get_by (λ k. slice_cmp nat_cmp name k.items) places

-- `find` gives the place of the first class of each name among classes whose places begin at a number
abbrev pub IsPlaces : ℕ → List (List ℕ) → (List ℕ → Option ℕ) → Type 0
IsPlaces from names find = (name : List ℕ) → find name ≡ position_from (bytes_eq name) from names
