-- Classes and members by their names, as what is printed and hashed tells them: no place and no number stands in them.
use Rattle.std.specs.Prelude.{ℕ, Bool, false, not, ◌||◌, List, filter_map, Option, Some, None, option_map, option_and_then, slice_get, unwrap_or, if◌then◌else◌}
use Rattle.std.specs.List.{list_any}
use Rattle.class_model.specs.Shape.{is_static, is_abstract}
use Rattle.class_model.specs.declared.identifiers.ClassId.{ClassId}
use Rattle.class_model.specs.declared.identifiers.ClassId.TheVariants.{Own, Outer}
use Rattle.class_model.specs.declared.identifiers.MemberId.{MemberId}
use Rattle.class_model.specs.declared.identifiers.MemberRef.{MemberRef}
use Rattle.class_index.specs.declared.outline.Outline.{Outline}
use Rattle.class_index.specs.declared.outline.MemberOutline.{MemberOutline}
use Rattle.class_index.specs.declared.select.Selected.{Selected}
use Rattle.class_index.specs.declared.select.Selected.TheVariants as selected
use Rattle.class_index.specs.Declarations.{Declaration, method_at, field_named}
use Rattle.class_index.specs.Facts.{class_named, outline_at}
use Rattle.class_index.specs.Below.{is_subtype}
use Rattle.class_index.specs.Resolution.{resolve_method, resolve_field}
use Rattle.class_index.specs.Subtyping.{class_name}
use Rattle.class_index.specs.Targets.{virtual_target, static_target, special_target}

-- What a reference leads to: no method, one that is abstract, one of several, or a method by name, with its flags where
-- it is one of the program's.
pub data Target : Type 0 where
  nowhere : Target
  abstract_one : Target
  one_of_several : Target
  own_method : MemberRef → ℕ → Target
  outer_method : MemberRef → Target

abbrev pub reference : List ℕ → List ℕ → List ℕ → MemberRef
reference owner name descriptor = record { owner = owner; name = name; descriptor = descriptor }

-- the flags of a method of the program, by its number
abbrev pub flags_of : List Outline → ℕ → ℕ → ℕ
flags_of classes class at =
    unwrap_or (option_map (λ m. m.flags) (option_and_then (λ o. slice_get o.methods at) (slice_get classes class))) 0

abbrev pub named_in : List Outline → ClassId → ℕ → MemberRef → Target
named_in classes (Own class) at method = own_method method (flags_of classes class at)
named_in classes (Outer row) at method = outer_method method

abbrev pub with_texts : List Outline → MemberId → Option Declaration → Target
with_texts classes id None = nowhere
with_texts classes id (Some m) = named_in classes id.class id.at (reference (class_name classes id.class) m.name m.descriptor)

-- a method by name: the class that declares it, its name and its descriptor
unfoldable pub named : List Outline → MemberId → Target
named classes id = with_texts classes id (method_at classes id)

abbrev pub named_or : List Outline → Option MemberId → Target
named_or classes None = nowhere
named_or classes (Some id) = named classes id

abbrev pub selected_target : List Outline → Option Selected → Target
selected_target classes None = nowhere
selected_target classes (Some (selected.Found id)) = named classes id
selected_target classes (Some selected.Abstract) = abstract_one
selected_target classes (Some selected.Tie) = one_of_several

-- JVMS 5.4.3.3 and 5.4.3.4
unfoldable pub resolution : List Outline → MemberRef → Target
resolution classes method = named_or classes (resolve_method classes method.owner method.name method.descriptor)

-- JVMS 6.5, invokestatic
unfoldable pub static_resolution : List Outline → MemberRef → Target
static_resolution classes method = named_or classes (static_target classes method.owner method.name method.descriptor)

-- JVMS 5.4.6, for a receiver of the class of a name
unfoldable pub selection : List Outline → MemberRef → List ℕ → Target
selection classes method receiver =
    selected_target classes
    (option_and_then (λ class. virtual_target classes class method.owner method.name method.descriptor) (class_named classes receiver))

-- JVMS 6.5, invokespecial, in code of the class of a name
unfoldable pub special_selection : List Outline → List ℕ → MemberRef → Target
special_selection classes caller method =
    selected_target classes
    (option_and_then (λ class. special_target classes class method.owner method.name method.descriptor) (class_named classes caller))

abbrev pub are_below : List Outline → Option ClassId → Option ClassId → Bool
are_below classes (Some low) (Some high) = is_subtype classes low high
are_below classes _ _ = false

-- JVMS 4.10, of classes by name
unfoldable pub is_below : List Outline → List ℕ → List ℕ → Bool
is_below classes low high = are_below classes (class_named classes low) (class_named classes high)

-- the class that declares a field, and whether it is static
abbrev pub field_by_name : List Outline → MemberId → Option MemberOutline → Option (List ℕ × Bool)
field_by_name classes id None = None
field_by_name classes id (Some f) = Some (class_name classes id.class, is_static f.flags)

-- JVMS 5.4.3.2
unfoldable pub field_resolution : List Outline → MemberRef → Option (List ℕ × Bool)
field_resolution classes field =
    option_and_then (λ id. field_by_name classes id (field_named classes id)) (resolve_field classes field.owner field.name field.descriptor)

-- What of a class decides how code runs that names it
pub record ClassFacts : Type 0 where
  pub flags : ℕ
  pub super_class : Option (List ℕ)
  pub interfaces : List (List ℕ)
  pub has_default : Bool
  pub fields : List (List ℕ × List ℕ)

-- JVMS 5.5: a method by which an interface is initialised with a class that has it
abbrev pub is_default : MemberOutline → Bool
is_default m = not (is_static m.flags || is_abstract m.flags)

abbrev pub instance_field : MemberOutline → Option (List ℕ × List ℕ)
instance_field f = if is_static f.flags then None else Some (f.name, f.descriptor)

abbrev pub facts_of : Outline → ClassFacts
facts_of o =
    record {
      flags = o.flags;
      super_class = o.super_class;
      interfaces = o.interfaces;
      has_default = list_any is_default o.methods;
      fields = filter_map instance_field o.fields;
    }

-- the facts of the class of a name
unfoldable pub class_facts : List Outline → List ℕ → Option ClassFacts
class_facts classes name = option_map facts_of (option_and_then (outline_at classes) (class_named classes name))
