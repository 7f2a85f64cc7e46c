-- The rows of tasks in name order are rows of which a graph is made.
use Rattle.std.proofs.Common.{◌≡◌, ℕ, zero, suc, ◌+◌, ◌<◌, ◌≤◌, Bool, true, false, ◌||◌, ◌==◌, List, [], ◌∷◌, map, length, slice_get, slice_index_or, bytes_eq, Option, Some, None, option_map, if◌then◌else◌, All, IsTrue, refl, sym, ◌∙◌, ap, subst, arith, add-one}
use Rattle.std.specs.List.{AllByRecursion}
use Rattle.std.specs.Cmp.Lexicographic.{slice_cmp}
use Rattle.std.specs.Ordering.{nat_cmp}
use Rattle.std.specs.declared.cmp.Ordering.TheVariants.{Less}
use Rattle.std.specs.declared.result.Result.{Result}
use Rattle.std.specs.declared.result.Result.TheVariants.{Ok, Err}
use Rattle.std.proofs.lemmas.List.Elements.{All-from_recursion, All-head, All-tail}
use Rattle.std.proofs.lemmas.Slice.Eq.{bytes_eq-Decides}
use Rattle.tree_value.specs.declared.value.ValueType.{ValueType}
use Rattle.place_graph.specs.Graphs.{edges_of, is_among, AreWithin}
use Rattle.task_model.specs.declared.task_row.TaskId.{TaskId}
use Rattle.task_model.specs.declared.task_row.TaskRow.{TaskRow}
use Rattle.task_model.specs.TaskNames.{is_task_name}
use Rattle.task_graph.specs.declared.fault.GraphFault.{GraphFault}
use Rattle.task_graph.specs.declared.fault.GraphFault.TheVariants.{CommandInput, TypeMismatch}
use Rattle.task_graph.specs.TaskGraphs.{places, inputs_of, edges, kind_at, is_command_kind, names, name_at, IsDrawn}
use Rattle.program_graph.specs.Tasks.{Task, name_of, kind_of}
use Rattle.program_graph.specs.Results.{then_each}
use Rattle.program_graph.specs.Rows.{place_of, is_of_type, linked_to, linked_at, linked, links_from, links, row_with, row_if, row_of, rows_for, rows_of}
use Rattle.program_graph.proofs.NameOrder.{Rises, AreDistinct, count_rest, count_yes, less_of}

-- results in order

record Split {A E : Type 0} (one : Result A E) (more : Result (List A) E) (all : List A) : Type 0 where
  first : A
  rest : List A
  is_first : one ≡ Ok first
  is_rest : more ≡ Ok rest
  whole : first ∷ rest ≡ all

split : {A E : Type 0} (one : Result A E) (more : Result (List A) E) (all : List A) → then_each one more ≡ Ok all → Split one more all
split (Ok x) (Ok xs) all e = let same : x ∷ xs ≡ all = cc in record { first = x; rest = xs; is_first = refl; is_rest = refl; whole = same }
split (Ok x) (Err fault) all e = cc
split (Err fault) more all e = cc

-- inputs

-- a place of a task that is no command
abbrev IsInput : List Task → ℕ → Type 0
IsInput tasks place = (place < length tasks) × (is_command_kind (option_map kind_of (slice_get tasks place)) ≡ false)

get-within : {X : Type 0} (xs : List X) (place : ℕ) (x : X) → slice_get xs place ≡ Some x → place < length xs
get-within [] place x e = cc
get-within (y ∷ ys) zero x e = omega arith
get-within (y ∷ ys) (suc place) x e = let below = get-within ys place x e in omega (arith, below)

to-input : (tasks : List Task) (task input : List ℕ) (parameter : Option (Option ValueType)) (place : ℕ) (found : Option Task) (id : TaskId)
    → slice_get tasks place ≡ found → linked_to task input parameter place found ≡ Ok id → IsInput tasks id.at
to-input tasks task input parameter place None id at e = cc
to-input tasks task input parameter place (Some t) id at e = go (is_command_kind (Some (kind_of t))) refl e
  where
    here : TaskId
    here = record { at = place }

    typed : (b : Bool) → is_command_kind (Some (kind_of t)) ≡ false → (if b then Ok here else Err (TypeMismatch input task)) ≡ Ok id → IsInput tasks id.at
    typed true no_command is =
        let same : here ≡ id = cc in
        subst (λ (i : TaskId). IsInput tasks i.at) same (get-within tasks place t at, ap (λ o. is_command_kind (option_map kind_of o)) at ∙ no_command)
    typed false no_command is = cc

    go : (b : Bool) → is_command_kind (Some (kind_of t)) ≡ b
        → (if b then Err (CommandInput input task) else if is_of_type parameter t.declaration.result then Ok here else Err (TypeMismatch input task)) ≡ Ok id → IsInput tasks id.at
    go true command is = cc
    go false command is = typed (is_of_type parameter t.declaration.result) command is

linked-input : (tasks : List Task) (t : Task) (input : List ℕ) (parameter : Option (Option ValueType)) (id : TaskId)
    → linked tasks t input parameter ≡ Ok id → IsInput tasks id.at
linked-input tasks t input parameter id e = go (place_of input tasks) e
  where
    go : (found : Option ℕ) → linked_at tasks (name_of t) input parameter found ≡ Ok id → IsInput tasks id.at
    go None is = cc
    go (Some place) is = to-input tasks (name_of t) input parameter place (slice_get tasks place) id refl is

abbrev AreInputs : List Task → List ℕ → Type 0
AreInputs tasks ids = AllByRecursion (IsInput tasks) ids

links-inputs : (tasks : List Task) (t : Task) (at : ℕ) (inputs : List (List ℕ)) (ids : List TaskId) → links_from tasks t at inputs ≡ Ok ids → AreInputs tasks (places ids)
links-inputs tasks t at [] ids e = let none : [] ≡ ids = cc in subst (λ is. AllByRecursion (IsInput tasks) (places is)) none tt
links-inputs tasks t at (input ∷ inputs) ids e =
    let s = split (linked tasks t input (slice_get t.declaration.parameters at)) (links_from tasks t (at + 1) inputs) ids e in
    subst (λ is. AllByRecursion (IsInput tasks) (places is)) s.whole
    (linked-input tasks t input (slice_get t.declaration.parameters at) s.first s.is_first, links-inputs tasks t (at + 1) inputs s.rest s.is_rest)

-- rows

-- a row has the name and the kind of its task, and its inputs are places of tasks that are no commands
record IsRowFor (tasks : List Task) (t : Task) (r : TaskRow) : Type 0 where
  name : r.name ≡ name_of t
  kind : r.kind ≡ kind_of t
  inputs : AreInputs tasks (inputs_of r)

row-for : (tasks : List Task) (t : Task) (r : TaskRow) → row_of tasks t ≡ Ok r → IsRowFor tasks t r
row-for tasks t r e = go (links tasks t) refl e
  where
    go : (found : Result (List TaskId) GraphFault) → links tasks t ≡ found → row_if t found ≡ Ok r → IsRowFor tasks t r
    go (Ok ids) at is =
        let same : row_with t ids ≡ r = cc in
        subst (IsRowFor tasks t) same (record { name = refl; kind = refl; inputs = links-inputs tasks t 0 t.declaration.elements.inputs ids at })
    go (Err fault) at is = cc

abbrev AreRowsFor : List Task → List Task → List TaskRow → Type 0
AreRowsFor tasks [] [] = Unit {0}
AreRowsFor tasks (t ∷ some) (r ∷ rows) = IsRowFor tasks t r × AreRowsFor tasks some rows
AreRowsFor tasks [] (r ∷ rows) = ⊥
AreRowsFor tasks (t ∷ some) [] = ⊥

rows-for : (tasks some : List Task) (rows : List TaskRow) → rows_for tasks some ≡ Ok rows → AreRowsFor tasks some rows
rows-for tasks [] rows e = let none : [] ≡ rows = cc in subst (AreRowsFor tasks []) none tt
rows-for tasks (t ∷ some) rows e =
    let s = split (row_of tasks t) (rows_for tasks some) rows e in
    subst (AreRowsFor tasks (t ∷ some)) s.whole (row-for tasks t s.first s.is_first, rows-for tasks some s.rest s.is_rest)

rows-length : (tasks some : List Task) (rows : List TaskRow) → AreRowsFor tasks some rows → length rows ≡ length some
rows-length tasks [] [] all = refl
rows-length tasks (t ∷ some) (r ∷ rows) all = ap suc (rows-length tasks some rows all.1)
rows-length tasks [] (r ∷ rows) all = absurd all
rows-length tasks (t ∷ some) [] all = absurd all

rows-names : (tasks some : List Task) (rows : List TaskRow) → AreRowsFor tasks some rows → names rows ≡ map name_of some
rows-names tasks [] [] all = refl
rows-names tasks (t ∷ some) (r ∷ rows) all = cc (all.0.name, rows-names tasks some rows all.1)
rows-names tasks [] (r ∷ rows) all = absurd all
rows-names tasks (t ∷ some) [] all = absurd all

rows-kinds : (tasks some : List Task) (rows : List TaskRow) (place : ℕ) → AreRowsFor tasks some rows → kind_at rows place ≡ option_map kind_of (slice_get some place)
rows-kinds tasks [] [] place all = refl
rows-kinds tasks (t ∷ some) (r ∷ rows) zero all = ap Some all.0.kind
rows-kinds tasks (t ∷ some) (r ∷ rows) (suc place) all = rows-kinds tasks some rows place all.1
rows-kinds tasks [] (r ∷ rows) place all = absurd all
rows-kinds tasks (t ∷ some) [] place all = absurd all

rows-named : (tasks some : List Task) (rows : List TaskRow) → AreRowsFor tasks some rows → All (λ t. is_task_name (name_of t) ≡ true) some
    → AllByRecursion (λ row. IsTrue (is_task_name row.name)) rows
rows-named tasks [] [] all named = tt
rows-named tasks (t ∷ some) (r ∷ rows) all named =
    let P : Task → Type 0 = λ t. is_task_name (name_of t) ≡ true in
    let first : is_task_name r.name ≡ true = ap is_task_name all.0.name ∙ All-head P t some named in
    (first, rows-named tasks some rows all.1 (All-tail P t some named))
rows-named tasks [] (r ∷ rows) all named = absurd all
rows-named tasks (t ∷ some) [] all named = absurd all

rows-edges : (tasks some : List Task) (rows : List TaskRow) → AreRowsFor tasks some rows → AllByRecursion (AreInputs tasks) (edges rows)
rows-edges tasks [] [] all = tt
rows-edges tasks (t ∷ some) (r ∷ rows) all = (all.0.inputs, rows-edges tasks some rows all.1)
rows-edges tasks [] (r ∷ rows) all = absurd all
rows-edges tasks (t ∷ some) [] all = absurd all

-- edges

inputs-within : (tasks : List Task) (ids : List ℕ) → AreInputs tasks ids → AllByRecursion (λ place. place < length tasks) ids
inputs-within tasks [] all = tt
inputs-within tasks (x ∷ ids) all = (all.0.0, inputs-within tasks ids all.1)

edges-within : (tasks : List Task) (n : ℕ) (graph : List (List ℕ)) → n ≡ length tasks → AllByRecursion (AreInputs tasks) graph → AllByRecursion (AreWithin n) graph
edges-within tasks n [] e all = tt
edges-within tasks n (ids ∷ graph) e all =
    (subst (λ m. AreWithin m ids) (sym e) (All-from_recursion (λ place. place < length tasks) ids (inputs-within tasks ids all.0)), edges-within tasks n graph e all.1)

among-input : (tasks : List Task) (ids : List ℕ) (x : ℕ) → AreInputs tasks ids → IsTrue (is_among x ids) → IsInput tasks x
among-input tasks [] x all is = cc
among-input tasks (y ∷ ids) x all is = go (y == x) refl is (λ later. among-input tasks ids x all.1 later)
  where
    go : (b : Bool) → (y == x) ≡ b → IsTrue (b || is_among x ids) → (IsTrue (is_among x ids) → IsInput tasks x) → IsInput tasks x
    go true e among rest = let same : y ≡ x = grind (arith, e) in subst (IsInput tasks) same all.0
    go false e among rest = rest among

edge-input : (tasks : List Task) (graph : List (List ℕ)) (task input : ℕ) → AllByRecursion (AreInputs tasks) graph → IsTrue (is_among input (edges_of graph task)) → IsInput tasks input
edge-input tasks [] task input all is = cc
edge-input tasks (ids ∷ graph) zero input all is = among-input tasks ids input all.0 is
edge-input tasks (ids ∷ graph) (suc task) input all is = edge-input tasks graph task input all.1 is

-- names

apart : {X : Type 0} (f : X → List ℕ) (x y : X) (ys : List X) → AreDistinct f (x ∷ y ∷ ys) → bytes_eq (f x) (f y) ≡ false
apart f x y ys once = go (bytes_eq (f x) (f y)) refl
  where
    go : (b : Bool) → bytes_eq (f x) (f y) ≡ b → b ≡ false
    go false e = refl
    go true e =
        let one = count_yes (λ z. bytes_eq (f x) (f z)) x (y ∷ ys) ((bytes_eq-Decides (f x) (f x)).1 refl) in
        let two = count_yes (λ z. bytes_eq (f x) (f z)) y ys e in
        let most = once (f x) in
        absurd (omega (arith, one, two, most))

strict : {X : Type 0} (f : X → List ℕ) (xs : List X) (k : ℕ) → Rises f xs → AreDistinct f xs → suc k < length xs
    → slice_cmp nat_cmp (slice_index_or (map f xs) k []) (slice_index_or (map f xs) (suc k) []) ≡ Less
strict f [] k up once below = absurd (omega (arith, below))
strict f (x ∷ []) k up once below = absurd (omega (arith, below))
strict f (x ∷ y ∷ ys) zero up once below = less_of (f x) (f y) up.0 (apart f x y ys once)
strict f (x ∷ y ∷ ys) (suc k) up once below =
    strict f (y ∷ ys) k up.1
    (λ name. let c = count_rest (λ z. bytes_eq name (f z)) x (y ∷ ys) in let o = once name in omega (arith, c, o)) (omega (arith, below))

edges-length : (rows : List TaskRow) → length (edges rows) ≡ length rows
edges-length [] = refl
edges-length (r ∷ rows) = ap suc (edges-length rows)

pub rows-drawn : (tasks : List Task) (rows : List TaskRow) → rows_of tasks ≡ Ok rows → length tasks ≤ 4096 → All (λ t. is_task_name (name_of t) ≡ true) tasks
    → Rises name_of tasks → AreDistinct name_of tasks → IsDrawn rows
unfolding rows_of
rows-drawn tasks rows e few named up once =
    let all = rows-for tasks tasks rows e in
    let count = rows-length tasks tasks rows all in
    let good = rows-edges tasks tasks rows all in
    let same : length (edges rows) ≡ length tasks = edges-length rows ∙ count in
    record {
      few = omega (arith, count, few);
      named = All-from_recursion (λ row. IsTrue (is_task_name row.name)) rows (rows-named tasks tasks rows all named);
      rising = λ place below.
          subst (λ n. slice_cmp nat_cmp (name_at rows place) (name_at rows n) ≡ Less) (sym (add-one place))
          (subst (λ ns. slice_cmp nat_cmp (slice_index_or ns place []) (slice_index_or ns (suc place) []) ≡ Less) (sym (rows-names tasks tasks rows all))
          (strict name_of tasks place up once (omega (arith, below, count))));
      inputs = All-from_recursion (AreWithin (length (edges rows))) (edges rows) (edges-within tasks (length (edges rows)) (edges rows) same good);
      no_commands = λ task input among.
          ap is_command_kind (rows-kinds tasks tasks rows input all) ∙ (edge-input tasks (edges rows) task input good among).1;
    }
