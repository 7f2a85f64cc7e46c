-- Fields and methods by their class and number, as classes declare them.
use Rattle.std.specs.Prelude.{ℕ, ◌==◌, Bool, ◌||◌, List, slice_get, bytes_eq, Option, Some, None, IsSome, option_map, option_and_then, if◌then◌else◌}
use Rattle.class_model.specs.declared.identifiers.ClassId.{ClassId}
use Rattle.class_model.specs.declared.identifiers.ClassId.TheVariants.{Own, Outer}
use Rattle.class_model.specs.declared.identifiers.MemberId.{MemberId}
use Rattle.jvm_tables.specs.Externals.{External, externals}
use Rattle.jvm_tables.specs.Natives.{Native, natives, stands_on}
use Rattle.class_index.specs.declared.outline.Outline.{Outline}
use Rattle.class_index.specs.declared.outline.MemberOutline.{MemberOutline}
use Rattle.class_index.specs.declared.members.Method.{Method}
use Rattle.class_index.specs.declared.members.MethodView.{MethodView}
use Rattle.class_index.specs.Members.{method_of, native_method, abstract_method}

-- a method by its texts
pub record Declaration : Type 0 where
  pub name : List ℕ
  pub descriptor : List ℕ
  pub method : Method

abbrev pub declaration : List ℕ → List ℕ → Method → Declaration
declaration name descriptor method = record { name = name; descriptor = descriptor; method = method }

-- the method of a number that a class file declares, in file order
abbrev pub own_declaration : ℕ → Outline → Option Declaration
own_declaration at o = option_map (λ m. declaration m.name m.descriptor (method_of (at, m.flags))) (slice_get o.methods at)

-- An external class has the natives that stand on it; Object has those of arrays too.
abbrev pub has_native : External → Native → Bool
has_native row native = stands_on native.class native.family row.class || bytes_eq native.class row.class

-- the method of a number that an external class has: a native by its row, or the abstract method of an interface
abbrev pub outer_declaration : ℕ → External → Option Declaration
outer_declaration at row = or_abstract (slice_get natives at)
  where
    or_abstract : Option Native → Option Declaration
    or_abstract (Some native) =
        if has_native row native then Some (declaration native.name native.descriptor (native_method (at, native))) else None
    or_abstract None =
        if at == abstract_method.at then option_map (λ m. declaration m.name m.descriptor abstract_method) row.abstract_method
        else None

-- the method that a number names
abbrev pub method_at : List Outline → MemberId → Option Declaration
method_at classes id = of_class id.class
  where
    of_class : ClassId → Option Declaration
    of_class (Own class) = option_and_then (own_declaration id.at) (slice_get classes class)
    of_class (Outer row) = option_and_then (outer_declaration id.at) (slice_get externals row)

-- the method is there
abbrev pub IsMethodId : List Outline → MemberId → Type 0
IsMethodId classes id = IsSome (method_at classes id)

-- the field that a number names; external classes have none
abbrev pub field_named : List Outline → MemberId → Option MemberOutline
field_named classes id = of_class id.class
  where
    of_class : ClassId → Option MemberOutline
    of_class (Own class) = option_and_then (λ o. slice_get o.fields id.at) (slice_get classes class)
    of_class (Outer row) = None

-- the field is there
abbrev pub IsFieldId : List Outline → MemberId → Type 0
IsFieldId classes id = IsSome (field_named classes id)

-- what a method's texts in memory say
abbrev pub said : MethodView → Declaration
said view = declaration view.name.now view.descriptor.now view.method
