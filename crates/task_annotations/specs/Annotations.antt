-- The Task annotation of a method, and the values of its elements (JVMS 4.7.16).
use Rattle.std.specs.Prelude.{ℕ, Bool, ◌&&◌, ◌||◌, ◌==◌, nat_le, List, [], filter, find, count_by, codes, bytes_eq, Option, Some, None, is_some, unwrap_or, option_map, option_and_then, if◌then◌else◌}
use Rattle.std.specs.List.{list_all}
use Rattle.std.specs.Str.{byte}
use Rattle.class_model.specs.declared.constant_pool.Constant.{Constant}
use Rattle.class_model.specs.declared.constant_pool.Constant.TheVariants.{Integer}
use Rattle.class_model.specs.declared.constant_pool.Pool.{Pool}
use Rattle.class_model.specs.declared.attribute_forms.Attribute.{Attribute, out-Attribute}
use Rattle.class_model.specs.declared.attribute_forms.Attribute.TheOpen.{Attribute-F}
use Rattle.class_model.specs.declared.annotation.Element.{Element, out-Element}
use Rattle.class_model.specs.declared.annotation.Element.TheOpen.{Element-F}
use Rattle.class_model.specs.declared.annotation.Note.{Note, out-Note}
use Rattle.class_model.specs.declared.annotation.Pair.{Pair, out-Pair}
use Rattle.class_model.specs.declared.class_file.Member.{Member}
use Rattle.class_model.specs.Layers.{AttributeLayer, ElementLayer}
use Rattle.class_model.specs.Constants.{constant_at, text_at}

-- the text of a number, and the empty one where there is none
abbrev pub text_or_empty : Pool → ℕ → List ℕ
text_or_empty pool n = unwrap_or (text_at pool n) []

abbrev pub notes_of_layer : AttributeLayer → Option (List Note)
notes_of_layer (Attribute-F.Annotations name list) = Some list
notes_of_layer _ = None

-- the annotations that an attribute has, where it is one of annotations
abbrev pub notes_of : Attribute → Option (List Note)
notes_of a = notes_of_layer (out-Attribute a)

-- the annotations among attributes, of which one at most has any
unfoldable pub annotations_in : List Attribute → List Note
annotations_in attributes =
    unwrap_or (option_and_then notes_of (find (λ a. is_some (notes_of a)) attributes)) []

abbrev pub is_of_task : Pool → Note → Bool
is_of_task pool note = bytes_eq (text_or_empty pool (out-Note note).kind) (codes "Lmill/Task;")

-- the Task annotations of a method
abbrev pub task_annotations : Pool → Member → List Note
task_annotations pool m = filter (is_of_task pool) (annotations_in m.attributes)

-- the pairs of an element, and the value of the first

abbrev pub is_pair_of : Pool → List ℕ → Pair → Bool
is_pair_of pool name p = bytes_eq (text_or_empty pool (out-Pair p).name) name

unfoldable pub value_of : Pool → List ℕ → List Pair → Option Element
value_of pool name pairs = option_map (λ p. (out-Pair p).value) (find (is_pair_of pool name) pairs)

abbrev pub is_known : Pool → Pair → Bool
is_known pool p =
    is_pair_of pool (codes "name") p || is_pair_of pool (codes "kind") p || is_pair_of pool (codes "inputs") p
    || is_pair_of pool (codes "path") p || is_pair_of pool (codes "budget") p

abbrev pub stands_once : Pool → List ℕ → List Pair → Bool
stands_once pool name pairs = nat_le (count_by (is_pair_of pool name) pairs) 1

-- each pair is of one of the five elements, and none has two
unfoldable pub are_known_once : Pool → List Pair → Bool
are_known_once pool pairs =
    list_all (is_known pool) pairs && stands_once pool (codes "name") pairs && stands_once pool (codes "kind") pairs
    && stands_once pool (codes "inputs") pairs && stands_once pool (codes "path") pairs && stands_once pool (codes "budget") pairs

-- a value as a text, as an int, and as an array

abbrev pub text_of_layer : Pool → ElementLayer → Option (List ℕ)
text_of_layer pool (Element-F.Const tag index) = if tag == byte "s" then text_at pool index else None
text_of_layer pool _ = None

abbrev pub text_in : Pool → Element → Option (List ℕ)
text_in pool value = text_of_layer pool (out-Element value)

abbrev pub integer_of : Constant → Option ℕ
integer_of (Integer n) = Some n
integer_of _ = None

-- the bits of an int
abbrev pub int_of_layer : Pool → ElementLayer → Option ℕ
int_of_layer pool (Element-F.Const tag index) = if tag == byte "I" then option_and_then integer_of (constant_at pool index) else None
int_of_layer pool _ = None

abbrev pub int_in : Pool → Element → Option ℕ
int_in pool value = int_of_layer pool (out-Element value)

abbrev pub array_of_layer : ElementLayer → Option (List Element)
array_of_layer (Element-F.Many values) = Some values
array_of_layer _ = None

abbrev pub array_in : Element → Option (List Element)
array_in value = array_of_layer (out-Element value)
