-- What is told of the classes of a program and the external ones, beside their members (JVMS 4.1).
use Rattle.std.specs.Prelude.{ℕ, Bool, List, length, slice_get, Option, option_map, option_and_then, unwrap_or}
use Rattle.class_model.specs.Shape.{has_flag}
use Rattle.class_model.specs.declared.identifiers.ClassId.{ClassId}
use Rattle.class_index.specs.declared.outline.Outline.{Outline}
use Rattle.class_index.specs.Outlines.{interface_flag, abstract_flag}
use Rattle.class_index.specs.Hierarchy.{all_of, names, place_of, super_by, place, id_of}

-- the class of a name
abbrev pub class_named : List Outline → List ℕ → Option ClassId
class_named classes name = option_map (id_of (length classes)) (place_of (names (all_of classes)) name)

-- what a class says of itself
abbrev pub outline_at : List Outline → ClassId → Option Outline
outline_at classes class = slice_get (all_of classes) (place classes class)

-- its direct superclass, where it has one
abbrev pub superclass : List Outline → ClassId → Option ClassId
superclass classes class =
    option_map (id_of (length classes)) (option_and_then (super_by (place_of (names (all_of classes)))) (outline_at classes class))

abbrev pub has_class_flag : ℕ → List Outline → ClassId → Bool
has_class_flag flag classes class = has_flag flag (unwrap_or (option_map (λ o. o.flags) (outline_at classes class)) 0)

abbrev pub is_interface_class : List Outline → ClassId → Bool
is_interface_class = has_class_flag interface_flag

abbrev pub is_abstract_class : List Outline → ClassId → Bool
is_abstract_class = has_class_flag abstract_flag
