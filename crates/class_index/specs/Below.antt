-- Subtypes as answers, and all that is a class or below it (JVMS 4.10).
use Rattle.std.specs.Prelude.{ℕ, zero, suc, ◌==◌, Bool, ◌||◌, List, [], ◌∷◌, ◌++◌, length, if◌then◌else◌}
use Rattle.class_model.specs.declared.identifiers.ClassId.{ClassId}
use Rattle.place_graph.specs.Graphs.{is_among}
use Rattle.class_index.specs.declared.outline.Outline.{Outline}
use Rattle.class_index.specs.Hierarchy.{all_of, place, id_of}
use Rattle.class_index.specs.Resolution.{above}

-- a class is another, or that is among all that is above it
abbrev pub is_subtype : List Outline → ClassId → ClassId → Bool
is_subtype classes low high =
    (place classes low == place classes high) || is_among (place classes high) (above (all_of classes) (place classes low))

abbrev pub if_below : List Outline → ClassId → ClassId → List ClassId
if_below classes high low = if is_subtype classes low high then low ∷ [] else []

-- of the first n classes those that are a class or below it, in order
unfoldable pub first_below : List Outline → ClassId → ℕ → List ClassId
first_below classes high zero = []
first_below classes high (suc n) = first_below classes high n ++ if_below classes high (id_of (length classes) n)

-- of all classes, the program's and the external ones
abbrev pub classes_below : List Outline → ClassId → List ClassId
classes_below classes high = first_below classes high (length (all_of classes))
