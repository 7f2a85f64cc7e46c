-- What a program answers to lookups, by walks over its plain list of classes.
use Rattle.std.specs.Prelude.{ℕ, zero, suc, Bool, not, ◌&&◌, ◌||◌, List, [], ◌∷◌, ◌++◌, length, map, filter_map, find, slice_get, codes, bytes_eq, Option, Some, None, option_map, option_and_then, unwrap_or, if◌then◌else◌}
use Rattle.std.specs.List.{list_any}
use Rattle.class_model.specs.declared.attribute_forms.Attribute.{Attribute, out-Attribute}
use Rattle.class_model.specs.declared.attribute_forms.Attribute.TheOpen.{Attribute-F}
use Rattle.class_model.specs.declared.class_file.Class.{Class}
use Rattle.class_model.specs.declared.class_file.Member.{Member}
use Rattle.class_model.specs.declared.constant_pool.Pool.{Pool}
use Rattle.class_model.specs.declared.identifiers.ClassId.{ClassId}
use Rattle.class_model.specs.declared.identifiers.ClassId.TheVariants.{Own, Outer}
use Rattle.class_model.specs.declared.identifiers.MemberRef.{MemberRef}
use Rattle.class_model.specs.Layers.{AttributeLayer}
use Rattle.class_model.specs.Programs.{find_class}
use Rattle.class_model.specs.Shape.{class_name, name_text, descriptor_text, is_static, is_native, is_abstract}
use Rattle.class_index.specs.declared.outline.Outline.{Outline}
use Rattle.class_index.specs.Outlines.{outline}
use Rattle.class_index.specs.Facts.{class_named, outline_at, superclass, is_interface_class}
use Rattle.class_index.specs.Hierarchy.{all_of, id_of, place}
use Rattle.class_index.specs.Initialisation.{interfaces_with}
use Rattle.class_index.specs.Naming.{resolution, selection, special_selection, is_below, field_resolution, class_facts, instance_field}
use Rattle.class_index.specs.Subtyping as subtyping
use Rattle.class_code.specs.Named.{Named, named_at}
use Rattle.class_code.specs.Rows.{MethodRow, method_row}
use Rattle.jvm_model.specs.Plans.{Layout, StaticField, Initialiser, Level, Oracle, code_of, resolve, resolve_field, select, select_special, below, class_of, layout_of, levels_of}

-- code

abbrev pub is_method : MemberRef → Pool → Member → Bool
is_method method pool m = bytes_eq (name_text pool m) method.name && bytes_eq (descriptor_text pool m) method.descriptor

abbrev pub row_in : MemberRef → Class → Option MethodRow
row_in method c = option_and_then (method_row c) (find (is_method method c.pool) c.methods)

abbrev pub row_of_method : List Class → MemberRef → Option MethodRow
row_of_method classes method = option_and_then (row_in method) (find_class method.owner classes)

-- the fields of objects

abbrev pub field_of : List ℕ → List ℕ × List ℕ → MemberRef
field_of owner field = record { owner = owner; name = field.0; descriptor = field.1 }

abbrev pub own_fields : Outline → List MemberRef
own_fields o = map (field_of o.name) (filter_map instance_field o.fields)

abbrev pub with_fields : Option Outline → Layout → Layout
with_fields None l = l
with_fields (Some o) l = record { fields = l.fields ++ own_fields o; root = l.root }

-- up a chain of superclasses of at most so many classes
unfoldable pub layout_up : ℕ → List Outline → ClassId → Option Layout
layout_up zero classes class = None
layout_up (suc n) classes (Outer row) = Some (record { fields = []; root = subtyping.class_name classes (Outer row) })
layout_up (suc n) classes (Own at) =
    option_map (with_fields (outline_at classes (Own at))) (option_and_then (layout_up n classes) (superclass classes (Own at)))

-- initialising

abbrev pub constant_or : Pool → AttributeLayer → Option Named → Option Named
constant_or pool (Attribute-F.ConstantValue name value) later = named_at pool value
constant_or pool _ later = later

-- the constant of a field among its attributes, which have at most one (JVMS 4.7.2)
unfoldable pub constant_in : Pool → List Attribute → Option Named
constant_in pool [] = None
constant_in pool (a ∷ attributes) = constant_or pool (out-Attribute a) (constant_in pool attributes)

abbrev pub static_field : Pool → Member → Option StaticField
static_field pool m =
    if is_static m.flags
    then Some (record { name = name_text pool m; descriptor = descriptor_text pool m; constant = constant_in pool m.attributes })
    else None

-- JVMS 2.9.2; one that is native or abstract has no code, so nothing of it runs
abbrev pub is_initializer : Pool → Member → Bool
is_initializer pool m =
    is_static m.flags && not (is_native m.flags || is_abstract m.flags) && bytes_eq (name_text pool m) (codes "<clinit>")
    && bytes_eq (descriptor_text pool m) (codes "()V")

abbrev pub initialiser : Class → Initialiser
initialiser c = record {
  class = class_name c;
  fields = filter_map (static_field c.pool) c.fields;
  has_method = list_any (is_initializer c.pool) c.methods;
}

abbrev pub initialiser_at : List Class → ClassId → Option Initialiser
initialiser_at files (Own at) = option_map initialiser (slice_get files at)
initialiser_at files (Outer row) = None

-- the superinterfaces of the program that are initialised with a class, and none with an interface
abbrev pub interfaces_of : List Class → List Outline → ClassId → List Initialiser
interfaces_of files classes class =
    if is_interface_class classes class then []
    else filter_map (initialiser_at files) (map (id_of (length classes)) (interfaces_with (all_of classes) (place classes class)))

abbrev pub level_with : List Initialiser → Initialiser → Level
level_with interfaces own = record { own = own; interfaces = interfaces }

abbrev pub before_levels : Option Level → List Level → List Level
before_levels None levels = []
before_levels (Some l) levels = l ∷ levels

abbrev pub superclass_of_class : List Outline → ClassId → Option ClassId
superclass_of_class classes class = if is_interface_class classes class then None else superclass classes class

-- up a chain of superclasses of at most so many classes
unfoldable pub levels_up : ℕ → List Class → List Outline → ClassId → List Level
levels_up zero files classes class = []
levels_up (suc n) files classes (Outer row) = []
levels_up (suc n) files classes (Own at) =
    before_levels (option_map (level_with (interfaces_of files classes (Own at))) (initialiser_at files (Own at)))
    (unwrap_or (option_map (levels_up n files classes) (superclass_of_class classes (Own at))) [])

-- A chain of superclasses that doesn't return has no more than all classes.
abbrev pub most_superclasses : List Outline → ℕ
most_superclasses classes = suc (length classes)

unfoldable pub oracle : List Class → Oracle
oracle files (code_of method) = row_of_method files method
oracle files (resolve method) = resolution (map outline files) method
oracle files (resolve_field field) = field_resolution (map outline files) field
oracle files (select method class) = selection (map outline files) method class
oracle files (select_special caller method) = special_selection (map outline files) caller method
oracle files (below low high) = is_below (map outline files) low high
oracle files (class_of name) = class_facts (map outline files) name
oracle files (layout_of name) =
    option_and_then (layout_up (most_superclasses (map outline files)) (map outline files)) (class_named (map outline files) name)
oracle files (levels_of name) =
    unwrap_or
    (option_map (levels_up (most_superclasses (map outline files)) files (map outline files)) (class_named (map outline files) name))
    []
