-- The world of a body: all that natives read and change. Classes are told by name here.
use Rattle.std.specs.Prelude.{ℕ, ℤ, Bool, List, ◌∷◌, ◌++◌, replicate, codes, Option, Some, None, option_and_then}
use Rattle.std.specs.Str.{byte}
use Rattle.jvm_tables.specs.declared.elements.ElementKind.{ElementKind}
use Rattle.jvm_tables.specs.declared.elements.ElementKind.TheVariants as elements
use Rattle.class_code.specs.Sites.{LambdaSite}
use Rattle.jvm_heap.specs.declared.slot.Slot.{Slot}
use Rattle.jvm_heap.specs.Objects.{Base, primitive, of_class, ArrayKind, Object, plain, throwable, enumerated, array, text, boxed_int, boxed_long, boxed_boolean, listed, builder, iterator, path_reference, lambda}
use Rattle.jvm_heap.specs.Heaps.{Heap, object_at}

-- a lambda by the class in whose code its site stands, and the site
pub record Origin : Type 0 where
  pub caller : List ℕ
  pub site : LambdaSite

abbrev pub NamedObject : Type 0
NamedObject = Object (List ℕ) Origin

abbrev pub NamedHeap : Type 0
NamedHeap = Heap (List ℕ) Origin

-- what Input and Command bodies may read: variables by name, in order, and the moment of the command
pub record Surround : Type 0 where
  pub environment : List (List ℕ × List ℕ)
  pub moment : ℕ

-- The dest's files by path; the log's lines as they are put; what Input and Command bodies may read; and the task whose
-- dest it is, which an anonymous one hasn't.
pub record World : Type 0 where
  pub heap : NamedHeap
  pub dest : List (List ℕ × List ℕ)
  pub log : List (List ℕ)
  pub surround : Option Surround
  pub owner : Option (List ℕ)

abbrev pub with_heap : NamedHeap → World → World
with_heap heap w = record { heap = heap; dest = w.dest; log = w.log; surround = w.surround; owner = w.owner }

-- A world with what its code names classes and sites by.
pub record Placed (N : Type 0) : Type 0 where
  pub names : N
  pub world : World

abbrev pub in_heap : {N : Type 0} → NamedHeap → Placed N → Placed N
in_heap heap p = record { names = p.names; world = with_heap heap p.world }

-- the descriptor of an element (JVMS 4.3.2)
abbrev pub letter_of : ElementKind → List ℕ
letter_of elements.Boolean = codes "Z"
letter_of elements.Char = codes "C"
letter_of elements.Float = codes "F"
letter_of elements.Double = codes "D"
letter_of elements.Byte = codes "B"
letter_of elements.Short = codes "S"
letter_of elements.Int = codes "I"
letter_of elements.Long = codes "J"

abbrev pub base_descriptor : Base (List ℕ) → List ℕ
base_descriptor (primitive kind) = letter_of kind
base_descriptor (of_class name) = byte "L" ∷ name ++ codes ";"

-- the name of an array's class (JVMS 4.4.1)
abbrev pub array_name : ArrayKind (List ℕ) → List ℕ
array_name kind = replicate kind.depth (byte "[") ++ base_descriptor kind.base

-- the name of an object's class
abbrev pub class_of : NamedObject → List ℕ
class_of (plain class fields) = class
class_of (throwable class fields message cause) = class
class_of (enumerated class fields name ordinal) = class
class_of (array kind slots) = array_name kind
class_of (text units) = codes "java/lang/String"
class_of (boxed_int n) = codes "java/lang/Integer"
class_of (boxed_long n) = codes "java/lang/Long"
class_of (boxed_boolean b) = codes "java/lang/Boolean"
class_of (listed class numbers) = class
class_of (builder units) = codes "java/lang/StringBuilder"
class_of (iterator list next) = codes "java/util/Iterator"
class_of (path_reference owner path) = codes "mill/PathRef"
class_of (lambda site captured) = codes "mill/Lambda"

-- objects of one kind by number
abbrev pub as_text : NamedObject → Option (List ℕ)
as_text (text units) = Some units
as_text _ = None

abbrev pub as_int : NamedObject → Option ℤ
as_int (boxed_int n) = Some n
as_int _ = None

abbrev pub as_long : NamedObject → Option ℤ
as_long (boxed_long n) = Some n
as_long _ = None

abbrev pub as_boolean : NamedObject → Option Bool
as_boolean (boxed_boolean b) = Some b
as_boolean _ = None

abbrev pub as_builder : NamedObject → Option (List ℕ)
as_builder (builder units) = Some units
as_builder _ = None

abbrev pub as_list : NamedObject → Option (List ℕ × List ℕ)
as_list (listed class numbers) = Some (class, numbers)
as_list _ = None

abbrev pub as_iterator : NamedObject → Option (ℕ × ℕ)
as_iterator (iterator list next) = Some (list, next)
as_iterator _ = None

abbrev pub as_array : NamedObject → Option (ArrayKind (List ℕ) × List Slot)
as_array (array kind slots) = Some (kind, slots)
as_array _ = None

-- A reference: the owner of a tree, and a path in it.
pub record Reference : Type 0 where
  pub owner : List ℕ
  pub path : List ℕ

abbrev pub as_reference : NamedObject → Option Reference
as_reference (path_reference owner path) = Some (record { owner = owner; path = path })
as_reference _ = None

-- what an object of a number is, where it is of one kind
abbrev pub seen : {A : Type 0} → (NamedObject → Option A) → ℕ → World → Option A
seen what n w = option_and_then what (object_at n w.heap)
