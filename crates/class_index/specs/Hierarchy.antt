-- The hierarchy of classes: those of a program, in its order, then the external ones, in the order of their table. A
-- class is told by its place among all of them.
use Rattle.std.specs.Prelude.{ℕ, ◌+◌, ◌-◌, ◌<◌, nat_lt, List, ◌++◌, length, map, filter_map, bytes_eq, Option, option_and_then, if◌then◌else◌}
use Rattle.std.specs.Option.{option_to_list}
use Rattle.std.specs.List.{position_from}
use Rattle.class_model.specs.declared.identifiers.ClassId.{ClassId}
use Rattle.class_model.specs.declared.identifiers.ClassId.TheVariants.{Own, Outer}
use Rattle.jvm_tables.specs.Externals.{externals}
use Rattle.class_index.specs.declared.outline.Outline.{Outline}
use Rattle.class_index.specs.Outlines.{outer_outline}

-- the classes of a program and the external ones
unfoldable pub all_of : List Outline → List Outline
all_of classes = classes ++ map outer_outline externals

abbrev pub names : List Outline → List (List ℕ)
names all = map (λ o. o.name) all

-- The place of the class of a name. A class of the program stands before an external one.
abbrev pub place_of : List (List ℕ) → List ℕ → Option ℕ
place_of names name = position_from (bytes_eq name) 0 names

-- `find` gives the place of the class of a name
abbrev pub super_by : (List ℕ → Option ℕ) → Outline → Option ℕ
super_by find o = option_and_then find o.super_class

-- the direct superinterfaces that are there, in declared order, then the superclass
abbrev pub directs_by : (List ℕ → Option ℕ) → Outline → List ℕ
directs_by find o = filter_map find o.interfaces ++ option_to_list (super_by find o)

-- each class's superclass, where it has one that is there
abbrev pub supers : List Outline → List (Option ℕ)
supers all = map (super_by (place_of (names all))) all

-- Each class's direct superinterfaces and superclass. A path along the edges is a chain of supers and superinterfaces.
unfoldable pub hierarchy : List Outline → List (List ℕ)
hierarchy all = map (directs_by (place_of (names all))) all

abbrev pub place : List Outline → ClassId → ℕ
place classes (Own at) = at
place classes (Outer row) = length classes + row

abbrev pub id_of : ℕ → ℕ → ClassId
id_of own at = if nat_lt at own then Own at else Outer (at - own)

-- the class is there
abbrev pub IsClassId : List Outline → ClassId → Type 0
IsClassId classes (Own at) = at < length classes
IsClassId classes (Outer row) = row < length externals
