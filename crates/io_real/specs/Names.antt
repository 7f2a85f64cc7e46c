-- Which folders and files an adapter leaves out. A folder is told by the folder in which it stands, empty for the root,
-- and its name there.
use Rattle.std.specs.Prelude.{◌≡◌, ◌⊎◌, ℕ, ◌-◌, Bool, ◌||◌, List, length, take, nat_eq, codes, IsTrue}
use Rattle.std.specs.List.{starts_with, list_any}
use Rattle.tree_value.specs.Paths.{segments}

-- the folder in which a store puts bytes first
abbrev pub IsPutFolder : List ℕ → List ℕ → Type 0
IsPutFolder folder entry = (length folder ≡ 0) × (entry ≡ codes ".put")

-- what is no source of a build: the results, and folders whose name begins with a dot
abbrev pub IsNoSource : List ℕ → List ℕ → Type 0
IsNoSource folder entry = ((length folder ≡ 0) × (entry ≡ codes "out")) ⊎ IsTrue (starts_with nat_eq entry (codes "."))

-- the name of a file that a store keeps for itself: its lock, and those in the folder in which it puts bytes first
abbrev pub IsOwn : List ℕ → Type 0
IsOwn name = (name ≡ codes ".lock") ⊎ IsTrue (starts_with nat_eq name (codes ".put/"))

-- the names of the folders on the way to a file: the parts of its name before the last slash
abbrev pub folders : List ℕ → List (List ℕ)
folders name = take (length (segments name) - 1) (segments name)

-- whether a folder on the way to a file has a name that begins with a dot
abbrev pub has_dot_folder : List ℕ → Bool
has_dot_folder name = list_any (λ folder. starts_with nat_eq folder (codes ".")) (folders name)

-- whether a workspace leaves a file out: it is of the results, or below a folder whose name begins with a dot
abbrev pub is_hidden : List ℕ → Bool
is_hidden name = starts_with nat_eq name (codes "out/") || has_dot_folder name
