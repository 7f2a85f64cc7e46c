-- Members of a class and of its supers and superinterfaces.
use Rattle.std.specs.Prelude.{◌≡◌, ◌⊎◌, ℕ, true, false, List, codes, Some, if◌then◌else◌}
use Rattle.class_model.specs.declared.identifiers.ClassId.{ClassId}
use Rattle.class_model.specs.declared.identifiers.MemberId.{MemberId}
use Rattle.jvm_tables.specs.Natives.{is_array}
use Rattle.class_index.specs.declared.outline.Outline.{Outline}
use Rattle.class_index.specs.declared.outline.MemberOutline.{MemberOutline}
use Rattle.class_index.specs.Hierarchy.{IsClassId}
use Rattle.class_index.specs.Subtyping.{IsSubtype, class_name}
use Rattle.class_index.specs.Declarations.{Declaration, method_at, field_named}

-- the class is of this name, or one of the supers or superinterfaces of a class of this name
abbrev pub IsAtOrAbove : List Outline → List ℕ → ClassId → Type 0
IsAtOrAbove classes name high =
    (low : ClassId) × IsClassId classes low × (class_name classes low ≡ name) × IsSubtype classes low high

-- the class whose methods an owner has: an array class has those of Object
abbrev pub method_owner : List ℕ → List ℕ
method_owner owner = if is_array owner then codes "java/lang/Object" else owner

-- a field of this name and descriptor, of the owner or of one of its supers or superinterfaces
pub record IsInheritedField (classes : List Outline) (owner name descriptor : List ℕ) (id : MemberId) : Type 0 where
  pub field : MemberOutline
  pub declared : field_named classes id ≡ Some field
  pub same_name : field.name ≡ name
  pub same_descriptor : field.descriptor ≡ descriptor
  pub above : IsAtOrAbove classes owner id.class

-- a method of this name and descriptor, of the owner or of one of its supers or superinterfaces
pub record IsInheritedMethod (classes : List Outline) (owner name descriptor : List ℕ) (id : MemberId) : Type 0 where
  pub method : Declaration
  pub declared : method_at classes id ≡ Some method
  pub same_name : method.name ≡ name
  pub same_descriptor : method.descriptor ≡ descriptor
  pub above : IsAtOrAbove classes (method_owner owner) id.class

-- A method with the name and descriptor of another, of the receiver's class or of one of its supers or
-- superinterfaces, and neither private nor static nor abstract
pub record IsOverride (classes : List Outline) (resolved : Declaration) (receiver : ClassId) (id : MemberId) : Type 0 where
  pub method : Declaration
  pub declared : method_at classes id ≡ Some method
  pub same_name : method.name ≡ resolved.name
  pub same_descriptor : method.descriptor ≡ resolved.descriptor
  pub is_private : method.method.is_private ≡ false
  pub is_static : method.method.is_static ≡ false
  pub is_abstract : method.method.is_abstract ≡ false
  pub above : IsSubtype classes receiver id.class

-- the resolved method itself, which is private or one of arrays alone, or what overrides it
pub record IsSelection (classes : List Outline) (resolved : MemberId) (receiver : ClassId) (id : MemberId) : Type 0 where
  pub method : Declaration
  pub declared : method_at classes resolved ≡ Some method
  pub is : ((id ≡ resolved) × ((method.method.is_private ≡ true) ⊎ (method.method.is_of_arrays ≡ true))) ⊎ IsOverride classes method receiver id
