-- What the parts that an object is kept as show.
use Rattle.class_model.specs.declared.identifiers.ClassId.{ClassId}
use Rattle.class_model.specs.declared.identifiers.SiteId.{SiteId}
use Rattle.jvm_heap.specs.declared.array_kind.ArrayBase.{ArrayBase}
use Rattle.jvm_heap.specs.declared.array_kind.ArrayBase.TheVariants as bases
use Rattle.jvm_heap.specs.declared.array_kind.ArrayKind as kinds
use Rattle.jvm_heap.specs.declared.content.Content.{Content}
use Rattle.jvm_heap.specs.declared.content.Content.TheVariants as contents
use Rattle.jvm_heap.specs.Objects.{Base, primitive, of_class, ArrayKind, Object, plain, throwable, enumerated, array, text, boxed_int, boxed_long, boxed_boolean, listed, builder, iterator, path_reference, lambda}

abbrev pub base_of : ArrayBase → Base ClassId
base_of (bases.Primitive kind) = primitive kind
base_of (bases.Class class) = of_class class

abbrev pub kind_of : kinds.ArrayKind → ArrayKind ClassId
kind_of kind = record { base = base_of kind.base; depth = kind.depth }

abbrev pub shown : Content → Object ClassId SiteId
shown (contents.Plain class fields) = plain class fields
shown (contents.Throwable class fields message cause) = throwable class fields message cause
shown (contents.Enumerated class fields name ordinal) = enumerated class fields name ordinal
shown (contents.Array kind elements) = array (kind_of kind) elements
shown (contents.Text units) = text units
shown (contents.BoxedInt value) = boxed_int value
shown (contents.BoxedLong value) = boxed_long value
shown (contents.BoxedBoolean value) = boxed_boolean value
shown (contents.Listed class elements) = listed class elements
shown (contents.Builder units) = builder units
shown (contents.Iterator list next) = iterator list next
shown (contents.PathReference reference) = path_reference reference.owner reference.path
shown (contents.Lambda site captured) = lambda site captured
