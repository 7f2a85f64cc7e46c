-- What types and objects are by themselves.
use Rattle.std.specs.Prelude.{ℕ, Bool, false, bytes_eq, List, []}
use Rattle.class_model.specs.Descriptors.{FieldType}
use Rattle.class_model.specs.Descriptors as types
use Rattle.jvm_heap.specs.Objects.{array}
use Rattle.native_model.specs.Worlds.{NamedObject, class_of}
use Rattle.jvm_model.specs.Types.{object_class}

-- java/lang/Object, which is above all others
abbrev pub is_object : FieldType → Bool
is_object (types.object name) = bytes_eq name object_class
is_object _ = false

-- the class of an object that is no array
abbrev pub class_unless_array : NamedObject → List ℕ
class_unless_array (array kind elements) = []
class_unless_array o = class_of o
