-- What a Task annotation and its method declare.
use Rattle.std.specs.Prelude.{◌≡◌, ℕ, ◌+◌, Bool, true, false, not, ◌&&◌, ◌==◌, nat_le, List, [], length, map, find, slice_get, count_by, codes, bytes_eq, Option, Some, None, is_some, unwrap_or, option_map, option_and_then, if◌then◌else◌, encode_utf8_all}
use Rattle.std.specs.List.{list_all}
use Rattle.std.specs.Str.{byte}
use Rattle.std.specs.Char.Utf16.{has_unpaired_surrogate, utf16_lossy_chars}
use Rattle.tree_value.specs.declared.value.ValueType.{ValueType}
use Rattle.tree_value.specs.declared.value.ValueType.TheVariants as types
use Rattle.tree_value.specs.Paths.{IsPath}
use Rattle.class_model.specs.declared.constant_pool.Pool.{Pool}
use Rattle.class_model.specs.declared.annotation.Element.{Element}
use Rattle.class_model.specs.declared.annotation.Note.{out-Note}
use Rattle.class_model.specs.declared.annotation.Pair.{Pair}
use Rattle.class_model.specs.declared.class_file.Member.{Member}
use Rattle.class_model.specs.Descriptors.{FieldType, primitive, object, array, MethodType, method_type}
use Rattle.class_model.specs.Shape.{is_static, is_bare, descriptor_text}
use Rattle.class_model.specs.Units.{units_at}
use Rattle.task_model.specs.declared.task_row.Kind.{Kind}
use Rattle.task_model.specs.declared.task_row.Kind.TheVariants.{Cached, Source, Input, Command, Anonymous}
use Rattle.task_model.specs.TaskNames.{is_task_name}
use Rattle.task_annotations.specs.declared.declared_kind.DeclaredKind.{DeclaredKind}
use Rattle.task_annotations.specs.declared.declared_kind.DeclaredKind.TheVariants.{Supported, Worker, Persistent}
use Rattle.task_annotations.specs.Annotations.{is_of_task, annotations_in, value_of, are_known_once, text_in, int_in, array_in}

-- kinds

abbrev pub kind_named : List ℕ → Option DeclaredKind
kind_named word =
    if bytes_eq word (codes "cached") then Some (Supported Cached)
    else if bytes_eq word (codes "source") then Some (Supported Source)
    else if bytes_eq word (codes "input") then Some (Supported Input)
    else if bytes_eq word (codes "command") then Some (Supported Command)
    else if bytes_eq word (codes "anon") then Some (Supported Anonymous)
    else if bytes_eq word (codes "worker") then Some Worker
    else if bytes_eq word (codes "persistent") then Some Persistent
    else None

-- a worker and a persistent task follow the rules of a cached one
abbrev pub followed : DeclaredKind → Kind
followed (Supported k) = k
followed _ = Cached

-- types

abbrev pub class_value : List ℕ → Option ValueType
class_value name =
    if bytes_eq name (codes "java/lang/String") then Some types.Text
    else if bytes_eq name (codes "java/util/List") then Some types.List
    else if bytes_eq name (codes "mill/PathRef") then Some types.Ref
    else None

abbrev pub letter_value : ℕ → Option ValueType
letter_value letter =
    if letter == byte "Z" then Some types.Bool
    else if letter == byte "I" then Some types.Int
    else if letter == byte "J" then Some types.Long
    else None

-- the type of value that a parameter or a result of a type is, where it is one of the six
abbrev pub value_type : FieldType → Option ValueType
value_type (primitive letter) = letter_value letter
value_type (object name) = class_value name
value_type (array component) = None

-- the types of a method's parameters and of its result
pub record Signature : Type 0 where
  pub parameters : List (Option ValueType)
  pub result : Option ValueType

abbrev pub signature : MethodType → Signature
signature m = record { parameters = map value_type m.parameters; result = option_and_then value_type m.returned }

unfoldable pub signature_of : List ℕ → Option Signature
signature_of descriptor = option_map signature (method_type descriptor)

-- the elements of the annotation

-- the value of an element that is there, read in its own way, or what an absent one stands for
abbrev pub read_or : {A : Type 0} → Option A → (Element → Option A) → Option Element → Option A
read_or absent read None = absent
read_or absent read (Some value) = read value

abbrev pub name_value : Pool → Element → Option (List ℕ)
name_value pool value = option_and_then (λ text. if is_task_name text then Some text else None) (text_in pool value)

abbrev pub kind_value : Pool → Element → Option DeclaredKind
kind_value pool value = option_and_then kind_named (text_in pool value)

-- values of which each is a text that is a task's name
abbrev pub names_of : Pool → List Element → Option (List (List ℕ))
names_of pool values =
    if list_all (λ v. is_some (name_value pool v)) values then Some (map (λ v. unwrap_or (name_value pool v) []) values) else None

abbrev pub names_value : Pool → Element → Option (List (List ℕ))
names_value pool value = option_and_then (names_of pool) (array_in value)

-- the UTF-8 text (RFC 3629) of units in which each surrogate has its partner
abbrev pub utf8_of_units : List ℕ → Option (List ℕ)
utf8_of_units units = if has_unpaired_surrogate units then None else Some (encode_utf8_all (utf16_lossy_chars units))

-- that of a text in modified UTF-8
unfoldable pub utf8_of : List ℕ → Option (List ℕ)
utf8_of bytes = option_and_then utf8_of_units (units_at (length bytes) bytes)

abbrev pub path_value : Pool → Element → Option (Option (List ℕ))
path_value pool value = option_map Some (option_and_then utf8_of (text_in pool value))

abbrev pub is_budget : ℕ → Bool
is_budget n = nat_le 1 n && nat_le n 1000000000

abbrev pub budget_value : Pool → Element → Option ℕ
budget_value pool value = option_and_then (λ n. if is_budget n then Some n else None) (int_in pool value)

-- what the elements say: the text of the path is to be a path
pub record Elements : Type 0 where
  pub name : List ℕ
  pub kind : DeclaredKind
  pub inputs : List (List ℕ)
  pub path : Option (List ℕ)
  pub budget : ℕ

abbrev pub with_budget : List ℕ → DeclaredKind → List (List ℕ) → Option (List ℕ) → ℕ → Elements
with_budget name kind inputs path budget =
    record { name = name; kind = kind; inputs = inputs; path = path; budget = budget }

-- A name is needed. By default a task is cached, has no inputs and no path, and may run 10,000,000 instructions.
unfoldable pub elements_in : Pool → List Pair → Option Elements
elements_in pool pairs =
    option_and_then (λ name. option_and_then (λ kind. option_and_then (λ inputs. option_and_then (λ path.
    option_map (with_budget name kind inputs path)
    (read_or (Some 10000000) (budget_value pool) (value_of pool (codes "budget") pairs)))
    (read_or (Some None) (path_value pool) (value_of pool (codes "path") pairs)))
    (read_or (Some []) (names_value pool) (value_of pool (codes "inputs") pairs)))
    (read_or (Some (Supported Cached)) (kind_value pool) (value_of pool (codes "kind") pairs)))
    (read_or None (name_value pool) (value_of pool (codes "name") pairs))

-- the rules of a task

pub record Declaration : Type 0 where
  pub elements : Elements
  pub parameters : List (Option ValueType)
  pub result : ValueType

abbrev pub is_list : Option (Option ValueType) → Bool
is_list (Some (Some types.List)) = true
is_list _ = false

abbrev pub is_reference : ValueType → Bool
is_reference types.Ref = true
is_reference _ = false

-- beside the parameters for its inputs, a Command has a last one for its arguments
abbrev pub obeys : Kind → Elements → List (Option ValueType) → ValueType → Bool
obeys Cached e parameters result = not (is_some e.path) && length parameters == length e.inputs
obeys Anonymous e parameters result = not (is_some e.path) && length parameters == length e.inputs
obeys Source e parameters result =
    is_some e.path && length e.inputs == 0 && length parameters == 0 && is_reference result
obeys Input e parameters result = not (is_some e.path) && length e.inputs == 0 && length parameters == 0
obeys Command e parameters result =
    not (is_some e.path) && length parameters == length e.inputs + 1 && is_list (slice_get parameters (length e.inputs))

abbrev pub declared_if : Bool → Declaration → Option Declaration
declared_if true d = Some d
declared_if false d = None

abbrev pub obeying : Elements → List (Option ValueType) → ValueType → Option Declaration
obeying e parameters result =
    declared_if (obeys (followed e.kind) e parameters result) (record { elements = e; parameters = parameters; result = result })

abbrev pub declared_by : Elements → Signature → Option Declaration
declared_by e s = option_and_then (obeying e s.parameters) s.result

-- what the pairs of an annotation and the descriptor of its method declare
unfoldable pub declaration_by : Pool → List ℕ → List Pair → Option Declaration
declaration_by pool descriptor pairs =
    if are_known_once pool pairs
    then option_and_then (λ e. option_and_then (declared_by e) (signature_of descriptor)) (elements_in pool pairs)
    else None

-- The method is static and has code, and one annotation of a task.
abbrev pub may_be_task : Pool → Member → Bool
may_be_task pool m =
    is_static m.flags && not (is_bare m.flags) && count_by (is_of_task pool) (annotations_in m.attributes) == 1

unfoldable pub declaration_of : Pool → Member → Option Declaration
declaration_of pool m =
    if may_be_task pool m
    then option_and_then (λ note. declaration_by pool (descriptor_text pool m) (out-Note note).pairs)
    (find (is_of_task pool) (annotations_in m.attributes))
    else None

abbrev pub IsPathOrNone : Option (List ℕ) → Type 0
IsPathOrNone None = Unit {0}
IsPathOrNone (Some path) = IsPath path

-- A method declares a task, or breaks a rule by itself.
abbrev pub Declares : Pool → Member → Option Declaration → Type 0
Declares pool m (Some d) = (declaration_of pool m ≡ Some d) × IsPathOrNone d.elements.path
Declares pool m None = (d : Declaration) → declaration_of pool m ≡ Some d → IsPathOrNone d.elements.path → ⊥
