-- Fields and methods that classes declare.
use Rattle.std.specs.Prelude.{ℕ, ◌+◌, ◌-◌, ◌^◌, ◌<◌, nat_lt, Bool, true, false, not, ◌&&◌, ◌||◌, List, [], ◌∷◌, length, bytes_eq, slice_get, Option, Some, None, option_map, option_and_then, if◌then◌else◌}
use Rattle.class_model.specs.Shape.{has_flag, is_static, is_abstract, is_native}
use Rattle.jvm_tables.specs.Externals.{External, externals}
use Rattle.jvm_tables.specs.Externals as external
use Rattle.jvm_tables.specs.Natives.{Native, native_of}
use Rattle.jvm_tables.specs.declared.externals.Family.{Family}
use Rattle.jvm_tables.specs.declared.externals.Family.TheVariants as families
use Rattle.class_index.specs.declared.outline.Outline.{Outline}
use Rattle.class_index.specs.declared.outline.MemberOutline.{MemberOutline}
use Rattle.class_index.specs.declared.members.Method.{Method}
use Rattle.class_index.specs.declared.members.Wanted.{Wanted}
use Rattle.class_index.specs.declared.members.Wanted.TheVariants.{Any, Overriding}

abbrev pub is_named : List ℕ → List ℕ → MemberOutline → Bool
is_named name descriptor m = bytes_eq m.name name && bytes_eq m.descriptor descriptor

-- the first member of a name and descriptor: its place, from a number on, and its flags
abbrev pub member_from : ℕ → List ℕ → List ℕ → List MemberOutline → Option (ℕ × ℕ)
member_from at name descriptor [] = None
member_from at name descriptor (m ∷ members) =
    if is_named name descriptor m then Some (at, m.flags) else member_from (at + 1) name descriptor members

-- JVMS 4.6
abbrev pub method_of : ℕ × ℕ → Method
method_of found =
    record {
      at = found.0;
      is_private = has_flag 0x0002 found.1;
      is_static = is_static found.1;
      is_abstract = is_abstract found.1;
      is_native = is_native found.1;
      is_of_arrays = false;
    }

abbrev pub in_arrays : Family → Bool
in_arrays families.Arrays = true
in_arrays _ = false

abbrev pub native_method : ℕ × Native → Method
native_method found =
    record {
      at = found.0;
      is_private = false;
      is_static = found.1.is_static;
      is_abstract = false;
      is_native = true;
      is_of_arrays = in_arrays found.1.family;
    }

-- the abstract method of an external interface is told by the number after the last native
abbrev pub abstract_method : Method
abstract_method =
    record { at = 118; is_private = false; is_static = false; is_abstract = true; is_native = false; is_of_arrays = false }

-- JVMS 4.7.3
abbrev pub has_code : Method → Bool
has_code m = not (m.is_abstract || m.is_native)

abbrev pub is_abstract_of : List ℕ → List ℕ → Option external.Method → Bool
is_abstract_of name descriptor None = false
is_abstract_of name descriptor (Some m) = bytes_eq m.name name && bytes_eq m.descriptor descriptor

-- a method of an external class: a native, or the abstract method of an interface
abbrev pub outer_method : List ℕ → List ℕ → External → Option Method
outer_method name descriptor row = or_abstract (native_of row.class name descriptor)
  where
    or_abstract : Option (ℕ × Native) → Option Method
    or_abstract (Some found) = Some (native_method found)
    or_abstract None = if is_abstract_of name descriptor row.abstract_method then Some abstract_method else None

-- the method of a name and descriptor that the class at a place declares; the first `own` places are the program's
abbrev pub declared : ℕ → List Outline → List ℕ → List ℕ → ℕ → Option Method
declared own all name descriptor place =
    if nat_lt place own then option_map method_of (option_and_then (λ o. member_from 0 name descriptor o.methods) (slice_get all place))
    else option_and_then (outer_method name descriptor) (slice_get externals (place - own))

-- JVMS 5.4.3.3 and 5.4.5: private and static methods neither override nor are they found in superinterfaces
abbrev pub if_wanted : Wanted → Method → Option Method
if_wanted Any m = Some m
if_wanted Overriding m = if m.is_private || m.is_static then None else Some m

abbrev pub wanted_method : ℕ → List Outline → List ℕ → List ℕ → Wanted → ℕ → Option Method
wanted_method own all name descriptor wanted place = option_and_then (if_wanted wanted) (declared own all name descriptor place)

-- the members of a class file are counted in two bytes
pub record HasFewMembers (o : Outline) : Type 0 where
  pub fields : length o.fields < 2 ^ 16
  pub methods : length o.methods < 2 ^ 16
