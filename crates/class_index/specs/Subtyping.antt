-- Names of classes, and subtyping.
use Rattle.std.specs.Prelude.{◌≡◌, ℕ, ◌⊎◌, List, [], slice_get, unwrap_or}
use Rattle.class_model.specs.declared.identifiers.ClassId.{ClassId}
use Rattle.place_graph.specs.Graphs.{Reaches}
use Rattle.class_index.specs.declared.outline.Outline.{Outline}
use Rattle.class_index.specs.Hierarchy.{all_of, names, hierarchy, place}

-- A class is a subtype of itself, and of each class that a chain of supers and superinterfaces leads to.
abbrev pub IsSubtype : List Outline → ClassId → ClassId → Type 0
IsSubtype classes low high =
    (place classes low ≡ place classes high) ⊎ Reaches (hierarchy (all_of classes)) (place classes low) (place classes high)

abbrev pub class_name : List Outline → ClassId → List ℕ
class_name classes class = unwrap_or (slice_get (names (all_of classes)) (place classes class)) []
