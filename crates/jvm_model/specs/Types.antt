-- Types of objects, and what an object may be used as (JVMS 4.10.1.2, 6.5 checkcast).
use Rattle.std.specs.Prelude.{ℕ, ◌==◌, Bool, true, false, List, codes, bytes_eq, slice_get, Option, Some, None, unwrap_or, if◌then◌else◌}
use Rattle.class_model.specs.Constants.{is_array_descriptor}
use Rattle.class_model.specs.Descriptors.{FieldType, field_type}
use Rattle.class_model.specs.Descriptors as types
use Rattle.class_model.specs.TypeForms.{arrays}
use Rattle.class_index.specs.Naming.{ClassFacts}
use Rattle.class_code.specs.Sites.{interface}
use Rattle.class_code.specs.Uses.{class_of_type}
use Rattle.jvm_heap.specs.Objects.{Base, primitive, of_class, ArrayKind, array, lambda}
use Rattle.jvm_heap.specs.Heaps.{object_at}
use Rattle.native_model.specs.Worlds.{Origin, NamedObject, World, letter_of, class_of}
use Rattle.native_model.specs.Thrown.{Thrown, absent_class}
use Rattle.jvm_model.specs.Plans.{class_of as facts_of, below}
use Rattle.jvm_model.specs.Attempts.{Attempt, gives, throws, asked, or_stuck, ◌>>=◌}

-- the type that a Class constant names (JVMS 4.4.1)
abbrev pub type_named : List ℕ → FieldType
type_named name = if is_array_descriptor name then unwrap_or (field_type name) (types.object name) else types.object name

abbrev pub object_class : List ℕ
object_class = codes "java/lang/Object"

-- the interface of a lambda
abbrev pub interface_of : Origin → List ℕ
interface_of origin = unwrap_or (interface origin.site) object_class

-- what an array is made of in the end, by its letter or by its class
abbrev pub base_type : Base (List ℕ) → FieldType
base_type (primitive kind) = types.primitive (unwrap_or (slice_get (letter_of kind) 0) 0)
base_type (of_class name) = types.object name

-- the type of the arrays of a kind
abbrev pub array_type : ArrayKind (List ℕ) → FieldType
array_type kind = arrays kind.depth (base_type kind.base)

-- A lambda is of its interface.
abbrev pub type_of : NamedObject → FieldType
type_of (array kind elements) = array_type kind
type_of (lambda origin captured) = types.object (interface_of origin)
type_of o = types.object (class_of o)

-- Arrays are Objects, and arrays of what their elements may be used as.
abbrev pub is_assignable : FieldType → FieldType → Attempt Bool
is_assignable (types.array s) (types.array t) = is_assignable s t
is_assignable (types.array s) (types.object name) = gives (bytes_eq name object_class)
is_assignable (types.array s) (types.primitive letter) = gives false
is_assignable (types.object low) (types.object high) = asked (below low high)
is_assignable (types.object low) _ = gives false
is_assignable (types.primitive letter) (types.primitive other) = gives (letter == other)
is_assignable (types.primitive letter) _ = gives false

abbrev pub is_instance : NamedObject → FieldType → Attempt Bool
is_instance o t = is_assignable (type_of o) t

abbrev pub if_there : List ℕ → Option ClassFacts → Attempt ClassFacts
if_there name None = throws (absent_class name)
if_there name (Some facts) = gives facts

-- the facts of a class, which must be there
abbrev pub facts : List ℕ → Attempt ClassFacts
facts name = asked (facts_of name) >>= if_there name

abbrev pub is_there : Option (List ℕ) → Attempt (Unit {0})
is_there None = gives tt
is_there (Some name) = facts name >>= λ found. gives tt

-- The class of a name is there, or for an array that of its elements (JVMS 5.3).
abbrev pub is_known : FieldType → Attempt (Unit {0})
is_known t = is_there (class_of_type t)

abbrev pub object_of : ℕ → World → Attempt NamedObject
object_of n w = or_stuck (object_at n w.heap)

abbrev pub holds_or : Thrown → Bool → Attempt (Unit {0})
holds_or t true = gives tt
holds_or t false = throws t
