-- Objects that are as their classes say (JVMS 2.4, 2.7, 5.3.3).
use Rattle.std.specs.Prelude.{◌≡◌, ℕ, ◌==◌, ℤ, Bool, List, [], ◌∷◌, Contains, Option, Some, None, if◌then◌else◌}
use Rattle.jvm_tables.specs.declared.elements.ElementKind.{ElementKind}
use Rattle.jvm_tables.specs.declared.elements.ElementKind.TheVariants as elements
use Rattle.jvm_tables.specs.declared.instruction.ValueKind.{ValueKind}
use Rattle.jvm_tables.specs.declared.instruction.ValueKind.TheVariants as values
use Rattle.class_model.specs.declared.class_file.Class.{Class}
use Rattle.class_model.specs.declared.identifiers.MemberRef.{MemberRef}
use Rattle.class_model.specs.Programs.{find_class}
use Rattle.class_code.specs.Sites.{lambda, site_at}
use Rattle.class_code.specs.Types.{kind_of, parameter_kinds}
use Rattle.jvm_heap.specs.declared.slot.Slot.{Slot}
use Rattle.jvm_heap.specs.Objects.{Base, primitive, of_class, ArrayKind, plain, throwable, enumerated, array, text, boxed_int, boxed_long, boxed_boolean, listed, iterator}
use Rattle.jvm_heap.specs.Objects as objects
use Rattle.jvm_heap.specs.Heaps.{object_at}
use Rattle.native_model.specs.Worlds.{Origin, NamedObject, NamedHeap}
use Rattle.jvm_model.specs.Plans.{Layout, layout_of}
use Rattle.jvm_model.specs.Programs.{oracle}
use Rattle.jvm_valid.specs.Values.{IsNumber, AreNumbers, AreValues, IsOfKind, AreOfKind}

-- a value for each field, of the kind of its descriptor
abbrev pub AreFields : NamedHeap → List MemberRef → List Slot → Type 0
AreFields h [] [] = Unit {0}
AreFields h (field ∷ fields) (slot ∷ slots) = IsOfKind h (kind_of field.descriptor) slot × AreFields h fields slots
AreFields h _ _ = ⊥

-- the fields of an object of a class, in the order of its layout
pub record HasFields (program : List Class) (h : NamedHeap) (class : List ℕ) (slots : List Slot) : Type 0 where
  pub layout : Layout
  pub known : oracle program (layout_of class) ≡ Some layout
  pub fields : AreFields h layout.fields slots

-- the kind of an element; None for float and double
abbrev pub element_kind : ElementKind → Option ValueKind
element_kind elements.Long = Some values.Long
element_kind elements.Float = None
element_kind elements.Double = None
element_kind _ = Some values.Int

abbrev pub base_kind : Base (List ℕ) → Option ValueKind
base_kind (primitive kind) = element_kind kind
base_kind (of_class class) = Some values.Reference

abbrev pub component_kind : ArrayKind (List ℕ) → Option ValueKind
component_kind kind = if kind.depth == 1 then base_kind kind.base else Some values.Reference

-- a site stands in a class of the program, and its parts go together
pub record IsSiteOf (program : List Class) (origin : Origin) : Type 0 where
  pub class : Class
  pub found : find_class origin.caller program ≡ Some class
  pub bootstrap : ℕ
  pub name_type : ℕ
  pub site : site_at class bootstrap name_type ≡ Some (lambda origin.site)

-- An object has the fields of its class, elements of its array's kind, or the values that its site captures, and what it
-- refers to is there.
abbrev pub IsObject : List Class → NamedHeap → NamedObject → Type 0
IsObject program h (plain class fields) = HasFields program h class fields
IsObject program h (throwable class fields message cause) = HasFields program h class fields × IsNumber h message × IsNumber h cause
IsObject program h (enumerated class fields name ordinal) = HasFields program h class fields × IsNumber h name
IsObject program h (array kind slots) = AreOfKind h (component_kind kind) slots
IsObject program h (listed class numbers) = AreNumbers h numbers
IsObject program h (iterator list next) = IsNumber h list
IsObject program h (objects.lambda origin captured) = IsSiteOf program origin × AreValues h (parameter_kinds origin.site.descriptor) captured
IsObject program h _ = Unit {0}

-- Each object is one, and each kept string constant or small box is an object of its text or value.
pub record IsHeap (program : List Class) (h : NamedHeap) : Type 0 where
  pub objects : (n : ℕ) (o : NamedObject) → object_at n h ≡ Some o → IsObject program h o
  pub texts : (units : List ℕ) (n : ℕ) → Contains h.texts (units, n) → object_at n h ≡ Some (text units)
  pub ints : (value : ℤ) (n : ℕ) → Contains h.ints (value, n) → object_at n h ≡ Some (boxed_int value)
  pub longs : (value : ℤ) (n : ℕ) → Contains h.longs (value, n) → object_at n h ≡ Some (boxed_long value)
  pub booleans : (value : Bool) (n : ℕ) → Contains h.booleans (value, n) → object_at n h ≡ Some (boxed_boolean value)
