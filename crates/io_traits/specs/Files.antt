-- What a device of files holds: pairs of a name and its bytes, in byte order of the names. A device may not tell
-- what it holds, so its content is optional, and a change of it is an equation that holds either way.
use Rattle.std.specs.Prelude.{◌≡◌, ℕ, not, ◌⊎◌, List, map, Option}
use Rattle.std.specs.Option.{option_map}
use Rattle.std.specs.Ordering.{eq_by_cmp}
use Rattle.tree_value.specs.Trees.{path_cmp}
use Rattle.std.specs.List.Sorted.{IsStrictlySortedBy}
use Rattle.std.specs.FinMap.Entries as entries

-- a name and its bytes
abbrev pub File : Type 0
File = List ℕ × List ℕ

abbrev pub Files : Type 0
Files = List File

-- the bytes under a name
abbrev pub get : Files → List ℕ → Option (List ℕ)
get files name = entries.find path_cmp name files

-- the files with these bytes under the name, and all others as they were
abbrev pub insert : Files → List ℕ → List ℕ → Files
insert files name bytes = entries.put path_cmp name bytes files

-- the files of all other names
abbrev pub remove : Files → List ℕ → Files
remove files name = entries.where_key path_cmp (λ n. not (eq_by_cmp path_cmp name n)) files

abbrev pub names : Files → List (List ℕ)
names files = map (λ file. file.0) files

-- the names rise in byte order, so each stands once
abbrev pub IsInOrder : List (List ℕ) → Type 0
IsInOrder ns = IsStrictlySortedBy path_cmp ns

-- the content after a put, and after a removal, where it is told
abbrev pub put_in : List ℕ → List ℕ → Option Files → Option Files
put_in name bytes content = option_map (λ files. insert files name bytes) content

abbrev pub take_out : List ℕ → Option Files → Option Files
take_out name content = option_map (λ files. remove files name) content

-- a put that failed leaves the old bytes, the new bytes or nothing under its name, and all else as it was
abbrev pub LeftByPut : List ℕ → List ℕ → Option Files → Option Files → Type 0
LeftByPut name bytes old new = (new ≡ old) ⊎ ((new ≡ put_in name bytes old) ⊎ (new ≡ take_out name old))

-- a removal that failed leaves the name or takes it
abbrev pub LeftByRemove : List ℕ → Option Files → Option Files → Type 0
LeftByRemove name old new = (new ≡ old) ⊎ (new ≡ take_out name old)
