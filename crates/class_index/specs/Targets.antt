-- Which method a reference leads to, by the kind of its instruction (JVMS 6.5).
use Rattle.std.specs.Prelude.{ℕ, ◌==◌, Bool, not, ◌&&◌, ◌||◌, List, codes, bytes_eq, Option, Some, None, option_map, option_and_then, unwrap_or, if◌then◌else◌}
use Rattle.class_model.specs.declared.identifiers.ClassId.{ClassId}
use Rattle.class_model.specs.declared.identifiers.MemberId.{MemberId}
use Rattle.class_index.specs.declared.outline.Outline.{Outline}
use Rattle.class_index.specs.declared.select.Selected.{Selected}
use Rattle.class_index.specs.declared.select.Selected.TheVariants as selected
use Rattle.class_index.specs.Hierarchy.{place}
use Rattle.class_index.specs.Declarations.{Declaration, method_at}
use Rattle.class_index.specs.Facts.{class_named, superclass, is_interface_class}
use Rattle.class_index.specs.Below.{is_subtype}
use Rattle.class_index.specs.Resolution.{resolve_method}
use Rattle.class_index.specs.Selection.{select}

-- invokevirtual, invokeinterface: the method that the reference resolves to selects for the receiver's class
abbrev pub virtual_target : List Outline → ClassId → List ℕ → List ℕ → List ℕ → Option Selected
virtual_target classes receiver owner name descriptor =
    option_map (λ id. select classes id receiver) (resolve_method classes owner name descriptor)

abbrev pub if_static : MemberId → Declaration → Option MemberId
if_static id m = if m.method.is_static then Some id else None

-- invokestatic: the method that the reference resolves to, which must be static
abbrev pub static_target : List Outline → List ℕ → List ℕ → List ℕ → Option MemberId
static_target classes owner name descriptor =
    option_and_then (λ id. option_and_then (if_static id) (method_at classes id)) (resolve_method classes owner name descriptor)

-- a call by `super`: the reference's class is above the class in which it stands, and no interface
abbrev pub is_super_call : List Outline → ClassId → ClassId → Bool
is_super_call classes caller owner =
    not (place classes caller == place classes owner) && is_subtype classes caller owner && not (is_interface_class classes owner)

-- invokespecial: the class from which the method is looked up
abbrev pub special_start : List Outline → ClassId → ClassId → ClassId
special_start classes caller owner =
    if is_super_call classes caller owner then unwrap_or (superclass classes caller) owner else owner

abbrev pub from_start : List Outline → ClassId → MemberId → Option ClassId → Option Selected
from_start classes caller id owner = option_map (λ class. select classes id (special_start classes caller class)) owner

-- a private method and an `<init>` are themselves called
abbrev pub is_itself : Declaration → Bool
is_itself m = m.method.is_private || bytes_eq m.name (codes "<init>")

abbrev pub special_of : List Outline → ClassId → Option ClassId → MemberId → Declaration → Option Selected
special_of classes caller owner id m =
    if m.method.is_static then None
    else if is_itself m then Some (selected.Found id)
    else from_start classes caller id owner

-- invokespecial, in code of the class `caller`: the method that the reference resolves to, which must not be static
abbrev pub special_target : List Outline → ClassId → List ℕ → List ℕ → List ℕ → Option Selected
special_target classes caller owner name descriptor =
    option_and_then (λ id. option_and_then (special_of classes caller (class_named classes owner) id) (method_at classes id))
    (resolve_method classes owner name descriptor)
