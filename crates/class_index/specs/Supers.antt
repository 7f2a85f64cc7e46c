-- Which supers of a program are missing, and which chains return.
use Rattle.std.specs.Prelude.{◌≡◌, ℕ, ◌-◌, nat_lt, Bool, true, false, not, List, [], ◌∷◌, length, filter, filter_map, slice_get, Option, Some, None, if◌then◌else◌}
use Rattle.jvm_tables.specs.Externals.{External, externals}
use Rattle.place_graph.specs.Graphs.{Reaches}
use Rattle.class_index.specs.declared.outline.Outline.{Outline}
use Rattle.class_index.specs.Hierarchy.{all_of, names, place_of, hierarchy}

abbrev pub is_extensible : Option External → Bool
is_extensible None = false
is_extensible (Some row) = row.is_extensible

-- no class is at the place of a superclass's name, or an external one that isn't extensible
abbrev pub lacks : ℕ → Option ℕ → Bool
lacks own None = true
lacks own (Some at) = if nat_lt at own then false else not (is_extensible (slice_get externals (at - own)))

-- the names of superclasses that are neither classes of the program nor extensible, by `find` for the place of a name
abbrev pub missing_by : (List ℕ → Option ℕ) → ℕ → List Outline → List (List ℕ)
missing_by find own classes = filter (λ name. lacks own (find name)) (filter_map (λ o. o.super_class) classes)

unfoldable pub missing : List Outline → List (List ℕ)
missing classes = missing_by (place_of (names (all_of classes))) (length classes) classes

-- a chain of supers or superinterfaces returns to a class of the name
abbrev pub Returns : List Outline → List ℕ → Type 0
Returns all name = (at : ℕ) × (slice_get (names all) at ≡ Some name) × Reaches (hierarchy all) at at

-- the names of the classes that are marked
abbrev pub marked_names : List Outline → List Bool → List (List ℕ)
marked_names [] marks = []
marked_names (o ∷ all) [] = []
marked_names (o ∷ all) (mark ∷ marks) = if mark then o.name ∷ marked_names all marks else marked_names all marks

-- no superclass is missing, and no chain returns
pub record IsWhole (classes : List Outline) : Type 0 where
  pub supers : missing classes ≡ []
  pub ends : (name : List ℕ) → Returns (all_of classes) name → ⊥
