-- What is initialised with a class (JVMS 5.5, step 7).
use Rattle.std.specs.Prelude.{ℕ, zero, suc, Bool, false, List, [], ◌∷◌, ◌++◌, length, map, filter, flat_map, slice_get, option_map, unwrap_or, filter_map, if◌then◌else◌}
use Rattle.std.specs.List.{list_any}
use Rattle.std.specs.Option.{option_to_list}
use Rattle.class_model.specs.declared.identifiers.ClassId.{ClassId}
use Rattle.place_graph.specs.Graphs.{once}
use Rattle.class_index.specs.declared.outline.Outline.{Outline}
use Rattle.class_index.specs.Hierarchy.{all_of, names, place_of, id_of, place}
use Rattle.class_index.specs.Facts.{superclass, is_interface_class}
use Rattle.class_index.specs.Naming.{is_default}

-- the direct superinterfaces that are there, in declared order
abbrev pub interfaces_at : List Outline → ℕ → List ℕ
interfaces_at all at = unwrap_or (option_map (λ o. filter_map (place_of (names all)) o.interfaces) (slice_get all at)) []

-- the superinterfaces of an interface before it, in the same way, to a depth
unfoldable pub interfaces_first : ℕ → List Outline → ℕ → List ℕ
interfaces_first zero all at = []
interfaces_first (suc depth) all at = flat_map (interfaces_first depth all) (interfaces_at all at) ++ at ∷ []

-- a non-abstract, non-static method is declared
abbrev pub has_default : List Outline → ℕ → Bool
has_default all at = unwrap_or (option_map (λ o. list_any is_default o.methods) (slice_get all at)) false

-- All superinterfaces of a class that declare such a method, each once. Where no chain returns, none is longer than there
-- are classes.
abbrev pub interfaces_with : List Outline → ℕ → List ℕ
interfaces_with all at =
    filter (has_default all) (once (flat_map (interfaces_first (length all) all) (interfaces_at all at)))

-- An interface initialises nothing else. With a class its superclass is initialised, then these superinterfaces.
unfoldable pub initialised_with : List Outline → ClassId → List ClassId
initialised_with classes class =
    if is_interface_class classes class then []
    else option_to_list (superclass classes class) ++ map (id_of (length classes)) (interfaces_with (all_of classes) (place classes class))
