-- The run of a task's body: its arguments are placed in a fresh heap, and what it gives becomes a value.
use Rattle.std.specs.Prelude.{ℕ, zero, suc, ◌+◌, ◌==◌, nat_le, ℤ, pos, Bool, true, false, not, ◌&&◌, List, [], ◌∷◌, length, map, max, codes, Option, Some, None, option_map, option_and_then, if◌then◌else◌}
use Rattle.std.specs.Ordering.{int_eq}
use Rattle.std.specs.Str.{byte}
use Rattle.class_model.specs.declared.identifiers.MemberRef.{MemberRef}
use Rattle.class_model.specs.Descriptors.{FieldType}
use Rattle.class_model.specs.Descriptors as types
use Rattle.tree_value.specs.Trees.{files_below}
use Rattle.tree_value.specs.Values.{Whole, Wholes}
use Rattle.tree_value.specs.Values as wholes
use Rattle.jvm_heap.specs.declared.slot.Slot.{Slot}
use Rattle.jvm_heap.specs.declared.slot.Slot.TheVariants.{Int, Long, Ref}
use Rattle.jvm_heap.specs.Objects.{text, boxed_int, boxed_long, boxed_boolean, listed, path_reference, throwable}
use Rattle.jvm_heap.specs.Heaps.{empty, object_at, allocated}
use Rattle.native_model.specs.declared.budget.Budget.{Budget}
use Rattle.native_model.specs.declared.budget.Budget.TheVariants as budgets
use Rattle.native_model.specs.Texts.{units_of_text, text_of_units, dotted}
use Rattle.native_model.specs.Worlds.{NamedObject, NamedHeap, Surround, World, Reference, class_of, as_text, seen}
use Rattle.native_model.specs.Answers.{Last, file, names}
use Rattle.native_model.specs.Lists.{fixed_list}
use Rattle.native_model.specs.Outside.{is_own}
use Rattle.jvm_model.specs.Plans.{Oracle, end_of}
use Rattle.jvm_model.specs.States.{Shared}
use Rattle.jvm_model.specs.Frames.{gave, threw, spent, file_at, names_below, started}
use Rattle.jvm_model.specs.Concatenating.{parameter_types}
use Rattle.jvm_model.specs.Lambdas.{result_of}
use Rattle.jvm_model.specs.Runs.{Run, ended, has_stuck, Files, run, on_move}

-- How a body ends: with a value, the files of its dest and its log; with an exception by the name of its class and its
-- message; or with a budget that is spent.
pub data Outcome : Type 0 where
  returns : Whole → List (List ℕ × List ℕ) → List (List ℕ) → Outcome
  throws : List ℕ → Option (List ℕ) → List (List ℕ) → Outcome
  spends : Budget → List (List ℕ) → Outcome

-- what decides the run of a body besides the program, its arguments and the files of references
pub record Task : Type 0 where
  pub method : MemberRef
  pub budget : ℕ
  pub owner : Option (List ℕ)
  pub surround : Option Surround

-- arguments

abbrev mutual
  -- A value in the heap, and its number. Elements are made before their list, and no box is shared.
  pub placed : Whole → NamedHeap → Option (ℕ × NamedHeap)
  placed wholes.null h = Some (0, h)
  placed (wholes.bool b) h = allocated (boxed_boolean b) h
  placed (wholes.int n) h = allocated (boxed_int n) h
  placed (wholes.long n) h = allocated (boxed_long n) h
  placed (wholes.text bytes) h = allocated (text (units_of_text bytes)) h
  placed (wholes.list items) h = option_and_then (λ made. allocated (listed fixed_list made.0) made.1) (all_placed items h)
  placed (wholes.reference owner path tree) h = allocated (path_reference owner path) h

  pub all_placed : Wholes → NamedHeap → Option (List ℕ × NamedHeap)
  all_placed wholes.no_items h = Some ([], h)
  all_placed (wholes.item v items) h =
      option_and_then (λ one. option_map (λ more. (one.0 ∷ more.0, more.1)) (all_placed items one.1)) (placed v h)

abbrev pub truth_of : Bool → ℤ
truth_of b = if b then pos 1 else pos 0

abbrev pub number_argument : ℕ → Whole → Option Slot
number_argument letter (wholes.bool b) = if letter == byte "Z" then Some (Int (truth_of b)) else None
number_argument letter (wholes.int n) = if letter == byte "I" then Some (Int n) else None
number_argument letter (wholes.long n) = if letter == byte "J" then Some (Long n) else None
number_argument letter _ = None

abbrev pub is_slot : Option Slot → Bool
is_slot None = false
is_slot (Some slot) = true

-- a parameter of boolean, int or long has such a value, and any other takes every value
abbrev pub fits : FieldType → Whole → Bool
fits (types.primitive letter) v = is_slot (number_argument letter v)
fits _ v = true

-- one argument for each parameter
abbrev pub all_fit : List FieldType → List Whole → Bool
all_fit [] [] = true
all_fit (t ∷ kinds) (v ∷ values) = fits t v && all_fit kinds values
all_fit _ _ = false

abbrev pub as_reference : ℕ × NamedHeap → Slot × NamedHeap
as_reference made = (Ref made.0, made.1)

abbrev pub with_heap : NamedHeap → Slot → Slot × NamedHeap
with_heap h slot = (slot, h)

abbrev pub argument : FieldType → Whole → NamedHeap → Option (Slot × NamedHeap)
argument (types.primitive letter) v h = option_map (with_heap h) (number_argument letter v)
argument _ v h = option_map as_reference (placed v h)

-- the arguments in order. None where the cells don't suffice.
abbrev pub arguments : List FieldType → List Whole → NamedHeap → Option (List Slot × NamedHeap)
arguments (t ∷ kinds) (v ∷ values) h =
    option_and_then (λ one. option_map (λ more. (one.0 ∷ more.0, more.1)) (arguments kinds values one.1)) (argument t v h)
arguments _ _ h = Some ([], h)

-- results

-- a value and the nodes that are left; an object that is none; or no nodes are left
pub data Told (A : Type 0) : Type 0 where
  told : A → ℕ → Told A
  untold : List ℕ → Told A
  too_many : Told A

abbrev pub bad_value : List ℕ
bad_value = codes "mill/BadValue"

abbrev pub on_told : {A B : Type 0} → Told A → (A → ℕ → Told B) → Told B
on_told (told a left) next = next a left
on_told (untold message) next = untold message
on_told too_many next = too_many

-- the files of a tree by their names
abbrev pub bytes_of : Last → List ℕ
bytes_of (file (Some bytes)) = bytes
bytes_of _ = []

abbrev pub paths_of : Last → List (List ℕ)
paths_of (names paths) = paths
paths_of _ = []

abbrev pub file_in : Files → Reference → List ℕ → List ℕ × List ℕ
file_in files reference path = (path, bytes_of (files (file_at reference path)))

abbrev pub tree_of : Files → Reference → List (List ℕ × List ℕ)
tree_of files reference = map (file_in files reference) (paths_of (files (names_below reference)))

-- the tree of a reference, of one into the body's own dest as it is at the end
abbrev pub whole_tree : Files → Reference → World → List (List ℕ × List ℕ)
whole_tree files reference w = if is_own reference w then files_below reference.path w.dest else tree_of files reference

abbrev pub reference_to : List ℕ → List ℕ → Reference
reference_to owner path = record { owner = owner; path = path }

abbrev pub text_told : Option (List ℕ) → ℕ → Told Whole
text_told None left = untold (codes "unpaired surrogate")
text_told (Some bytes) left = told (wholes.text bytes) left

-- elements one after another, by how each is told
abbrev pub items_told : (ℕ → ℕ → Told Whole) → List ℕ → ℕ → Told Wholes
items_told one [] left = told wholes.no_items left
items_told one (n ∷ numbers) left =
    on_told (one n left) (λ v rest. on_told (items_told one numbers rest) (λ items more. told (wholes.item v items) more))

abbrev pub object_told : Files → World → (ℕ → ℕ → Told Whole) → ℕ → Option NamedObject → Told Whole
object_told files w one left None = told wholes.null left
object_told files w one left (Some (text units)) = text_told (text_of_units units) left
object_told files w one left (Some (boxed_int n)) = told (wholes.int n) left
object_told files w one left (Some (boxed_long n)) = told (wholes.long n) left
object_told files w one left (Some (boxed_boolean b)) = told (wholes.bool b) left
object_told files w one left (Some (listed class numbers)) = on_told (items_told one numbers left) (λ items rest. told (wholes.list items) rest)
object_told files w one left (Some (path_reference owner path)) =
    told (wholes.reference owner path (whole_tree files (reference_to owner path) w)) left
object_told files w one left (Some o) = untold (dotted (class_of o))

abbrev pub with_node : ℕ → (ℕ → Told Whole) → Told Whole
with_node zero next = too_many
with_node (suc left) next = next left

-- The value of an object, in one walk, a list before its elements. Each value that is reached is a node, and so no walk is
-- deeper than there are nodes.
unfoldable pub value_told : Files → World → ℕ → ℕ → ℕ → Told Whole
value_told files w zero n left = too_many
value_told files w (suc deep) n left = with_node left (λ rest. object_told files w (value_told files w deep) rest (object_at n w.heap))

abbrev pub most_nodes : ℕ
most_nodes = 65536

-- A value that is no list has depth 1, and a list one more than its deepest element.
abbrev mutual
  pub depth : Whole → ℕ
  depth (wholes.list items) = suc (depth_of_items items)
  depth _ = 1

  pub depth_of_items : Wholes → ℕ
  depth_of_items wholes.no_items = 0
  depth_of_items (wholes.item v items) = max (depth v) (depth_of_items items)

-- the bytes of its texts, those of owners and paths left out
abbrev mutual
  pub text_bytes : Whole → ℕ
  text_bytes (wholes.text bytes) = length bytes
  text_bytes (wholes.list items) = bytes_of_items items
  text_bytes _ = 0

  pub bytes_of_items : Wholes → ℕ
  bytes_of_items wholes.no_items = 0
  bytes_of_items (wholes.item v items) = text_bytes v + bytes_of_items items

abbrev pub most_depth : ℕ
most_depth = 64

abbrev pub most_text_bytes : ℕ
most_text_bytes = 1048576

-- depth first, then bytes
abbrev pub within_limits : World → Whole → Outcome
within_limits w v =
    if not (nat_le (depth v) most_depth) then spends budgets.ValueDepth w.log
    else if not (nat_le (text_bytes v) most_text_bytes) then spends budgets.ValueBytes w.log
    else returns v w.dest w.log

abbrev pub of_told : World → Told Whole → Outcome
of_told w (told v left) = within_limits w v
of_told w (untold message) = throws bad_value (Some message) w.log
of_told w too_many = spends budgets.ValueNodes w.log

abbrev pub int_result : ℕ → ℤ → Whole
int_result letter n = if letter == byte "Z" then wholes.bool (not (int_eq n (pos 0))) else wholes.int n

-- a result by the type that the method gives. None where it is of another kind, or there is none.
abbrev pub result_told : Files → World → Option FieldType → Option Slot → Option Outcome
result_told files w (Some (types.primitive letter)) (Some (Int n)) = Some (within_limits w (int_result letter n))
result_told files w (Some t) (Some (Long n)) = Some (within_limits w (wholes.long n))
result_told files w (Some t) (Some (Ref n)) = Some (of_told w (value_told files w (suc most_nodes) n most_nodes))
result_told files w _ _ = None

abbrev pub exception_told : World → Option NamedObject → Option Outcome
exception_told w (Some (throwable class fields message cause)) = Some (throws class (seen as_text message w) w.log)
exception_told w _ = None

abbrev pub outcome : Files → MemberRef → Run → Option Outcome
outcome files method (ended (gave v) w) = result_told files w (result_of method.descriptor) v
outcome files method (ended (threw o) w) = exception_told w (object_at o w.heap)
outcome files method (ended (spent b) w) = Some (spends b w.log)
outcome files method has_stuck = None

-- the world before the first instruction
abbrev pub first_world : Task → NamedHeap → World
first_world task h = record { heap = h; dest = []; log = []; surround = task.surround; owner = task.owner }

abbrev pub first_shared : Task → NamedHeap → Shared
first_shared task h = record { world = first_world task h; statics = []; initialised = [] }

abbrev pub begun_run : Oracle → Files → Task → List Slot × NamedHeap → Run
begun_run oracle files task ready =
    on_move oracle files (end_of oracle (started [] (first_shared task ready.1) task.method ready.0)) (run oracle files task.budget)

abbrev pub ready_body : Oracle → Files → Task → Option (List Slot × NamedHeap) → Option Outcome
ready_body oracle files task None = Some (spends budgets.Cells [])
ready_body oracle files task (Some ready) = outcome files task.method (begun_run oracle files task ready)

-- The body of a task on whole values, where files and names of references are told. No class is initialised at its start.
-- None where the run is stuck, which no run of a verified program is.
unfoldable pub body : Oracle → Files → Task → List Whole → Option Outcome
body oracle files task values =
    if all_fit (parameter_types task.method.descriptor) values
    then ready_body oracle files task (arguments (parameter_types task.method.descriptor) values empty)
    else Some (throws bad_value (Some (codes "argument")) [])
