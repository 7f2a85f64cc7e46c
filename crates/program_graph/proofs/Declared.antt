-- The names that a declaration has are names of tasks.
use Rattle.std.proofs.Common.{◌≡◌, ℕ, Bool, true, false, List, [], ◌∷◌, map, codes, Option, Some, None, is_some, unwrap_or, option_map, option_and_then, find, if◌then◌else◌, All, refl, ap, subst}
use Rattle.std.specs.List.{list_all, AllByRecursion}
use Rattle.std.proofs.lemmas.Bool.{and_parts}
use Rattle.std.proofs.lemmas.List.Elements.{All-from_recursion}
use Rattle.tree_value.specs.declared.value.ValueType.{ValueType}
use Rattle.class_model.specs.declared.constant_pool.Pool.{Pool}
use Rattle.class_model.specs.declared.annotation.Element.{Element}
use Rattle.class_model.specs.declared.annotation.Note.{out-Note}
use Rattle.class_model.specs.declared.annotation.Pair.{Pair}
use Rattle.class_model.specs.declared.class_file.Member.{Member}
use Rattle.class_model.specs.Shape.{descriptor_text}
use Rattle.task_model.specs.TaskNames.{is_task_name}
use Rattle.task_annotations.specs.Annotations.{is_of_task, annotations_in, value_of, are_known_once, text_in, array_in}
use Rattle.task_annotations.specs.declared.declared_kind.DeclaredKind.{DeclaredKind}
use Rattle.task_annotations.specs.declared.declared_kind.DeclaredKind.TheVariants.{Supported}
use Rattle.task_model.specs.declared.task_row.Kind.TheVariants.{Cached}
use Rattle.task_annotations.specs.Declarations.{Elements, Declaration, read_or, name_value, kind_value, names_of, names_value, path_value, budget_value, with_budget, elements_in, obeying, obeys, followed, declared_if, declared_by, declaration_by, signature_of, may_be_task, declaration_of}

record Made {A B : Type 0} (f : A → Option B) (o : Option A) (y : B) : Type 0 where
  from : A
  is : o ≡ Some from
  gives : f from ≡ Some y

and_then-made : {A B : Type 0} (f : A → Option B) (o : Option A) (y : B) → option_and_then f o ≡ Some y → Made f o y
and_then-made f None y e = cc
and_then-made f (Some x) y e = record { from = x; is = refl; gives = e }

record Mapped {A B : Type 0} (f : A → B) (o : Option A) (y : B) : Type 0 where
  from : A
  is : o ≡ Some from
  gives : f from ≡ y

map-made : {A B : Type 0} (f : A → B) (o : Option A) (y : B) → option_map f o ≡ Some y → Mapped f o y
map-made f None y e = cc
map-made f (Some x) y e = let same : f x ≡ y = cc in record { from = x; is = refl; gives = same }

if-true : {A : Type 0} (b : Bool) (o : Option A) (y : A) → (if b then o else None) ≡ Some y → o ≡ Some y
if-true true o y e = e
if-true false o y e = cc

name-is : (pool : Pool) (value : Element) (name : List ℕ) → name_value pool value ≡ Some name → is_task_name name ≡ true
name-is pool value name e =
    let made = and_then-made (λ text. if is_task_name text then Some text else None) (text_in pool value) name e in
    go made.from (is_task_name made.from) refl made.gives
  where
    go : (text : List ℕ) (b : Bool) → is_task_name text ≡ b → (if b then Some text else None) ≡ Some name → is_task_name name ≡ true
    go text true is same = let at : text ≡ name = cc in subst (λ n. is_task_name n ≡ true) at is
    go text false is same = cc

element-name : (pool : Pool) (value : Option Element) (name : List ℕ) → read_or None (name_value pool) value ≡ Some name → is_task_name name ≡ true
element-name pool None name e = cc
element-name pool (Some value) name e = name-is pool value name e

each-name : (pool : Pool) (values : List Element) → list_all (λ v. is_some (name_value pool v)) values ≡ true
    → AllByRecursion (λ n. is_task_name n ≡ true) (map (λ v. unwrap_or (name_value pool v) []) values)
each-name pool [] all = tt
each-name pool (v ∷ values) all =
    let both = and_parts (is_some (name_value pool v)) (list_all (λ v. is_some (name_value pool v)) values) all in
    (go (name_value pool v) refl both.0, each-name pool values both.1)
  where
    go : (found : Option (List ℕ)) → name_value pool v ≡ found → is_some found ≡ true → is_task_name (unwrap_or found []) ≡ true
    go None is some = cc
    go (Some name) is some = name-is pool v name is

names-are : (pool : Pool) (values : List Element) (names : List (List ℕ)) → names_of pool values ≡ Some names → AllByRecursion (λ n. is_task_name n ≡ true) names
names-are pool values names e = go (list_all (λ v. is_some (name_value pool v)) values) refl e
  where
    go : (b : Bool) → list_all (λ v. is_some (name_value pool v)) values ≡ b
        → (if b then Some (map (λ v. unwrap_or (name_value pool v) []) values) else None) ≡ Some names → AllByRecursion (λ n. is_task_name n ≡ true) names
    go true is same =
        let at : map (λ v. unwrap_or (name_value pool v) []) values ≡ names = cc in
        subst (AllByRecursion (λ n. is_task_name n ≡ true)) at (each-name pool values is)
    go false is same = cc

element-names : (pool : Pool) (value : Option Element) (names : List (List ℕ)) → read_or (Some []) (names_value pool) value ≡ Some names
    → AllByRecursion (λ n. is_task_name n ≡ true) names
element-names pool None names e = let none : [] ≡ names = cc in subst (AllByRecursion (λ n. is_task_name n ≡ true)) none tt
element-names pool (Some value) names e =
    let made = and_then-made (names_of pool) (array_in value) names e in names-are pool made.from names made.gives

pub record HasNames (e : Elements) : Type 0 where
  pub name : is_task_name e.name ≡ true
  pub inputs : All (λ n. is_task_name n ≡ true) e.inputs

elements-names : (pool : Pool) (pairs : List Pair) (e : Elements) → elements_in pool pairs ≡ Some e → HasNames e
unfolding elements_in
elements-names pool pairs e is =
    let name = and_then-made with_name (read_or None (name_value pool) (value_of pool (codes "name") pairs)) e is in
    let kind = and_then-made (with_kind name.from) (read_or (Some (Supported Cached)) (kind_value pool) (value_of pool (codes "kind") pairs)) e name.gives in
    let inputs = and_then-made (with_inputs name.from kind.from) (read_or (Some []) (names_value pool) (value_of pool (codes "inputs") pairs)) e kind.gives in
    let path = and_then-made (with_path name.from kind.from inputs.from) (read_or (Some None) (path_value pool) (value_of pool (codes "path") pairs)) e inputs.gives in
    let budget = map-made (with_budget name.from kind.from inputs.from path.from) (read_or (Some 10000000) (budget_value pool) (value_of pool (codes "budget") pairs)) e path.gives in
    subst HasNames budget.gives (record {
      name = element-name pool (value_of pool (codes "name") pairs) name.from name.is;
      inputs = All-from_recursion (λ n. is_task_name n ≡ true) inputs.from (element-names pool (value_of pool (codes "inputs") pairs) inputs.from inputs.is);
    })
  where
    with_path : List ℕ → DeclaredKind → List (List ℕ) → Option (List ℕ) → Option Elements
    with_path name kind inputs path =
        option_map (with_budget name kind inputs path) (read_or (Some 10000000) (budget_value pool) (value_of pool (codes "budget") pairs))

    with_inputs : List ℕ → DeclaredKind → List (List ℕ) → Option Elements
    with_inputs name kind inputs =
        option_and_then (with_path name kind inputs) (read_or (Some None) (path_value pool) (value_of pool (codes "path") pairs))

    with_kind : List ℕ → DeclaredKind → Option Elements
    with_kind name kind =
        option_and_then (with_inputs name kind) (read_or (Some []) (names_value pool) (value_of pool (codes "inputs") pairs))

    with_name : List ℕ → Option Elements
    with_name name =
        option_and_then (with_kind name) (read_or (Some (Supported Cached)) (kind_value pool) (value_of pool (codes "kind") pairs))

obeying-elements : (e : Elements) (parameters : List (Option ValueType)) (result : ValueType) (d : Declaration) → obeying e parameters result ≡ Some d → e ≡ d.elements
obeying-elements e parameters result d is = go (obeys (followed e.kind) e parameters result) is
  where
    made : Declaration
    made = record { elements = e; parameters = parameters; result = result }

    go : (b : Bool) → declared_if b made ≡ Some d → e ≡ d.elements
    go true same = let at : made ≡ d = cc in ap (λ d. d.elements) at
    go false same = cc

by-names : (pool : Pool) (descriptor : List ℕ) (pairs : List Pair) (d : Declaration) → declaration_by pool descriptor pairs ≡ Some d → HasNames d.elements
unfolding declaration_by
by-names pool descriptor pairs d is =
    let elements = and_then-made (λ e. option_and_then (declared_by e) (signature_of descriptor)) (elements_in pool pairs) d (if-true (are_known_once pool pairs) _ d is) in
    let s = and_then-made (declared_by elements.from) (signature_of descriptor) d elements.gives in
    let result = and_then-made (obeying elements.from s.from.parameters) s.from.result d s.gives in
    subst HasNames (obeying-elements elements.from s.from.parameters result.from d result.gives) (elements-names pool pairs elements.from elements.is)

pub declared-names : (pool : Pool) (m : Member) (d : Declaration) → declaration_of pool m ≡ Some d → HasNames d.elements
unfolding declaration_of
declared-names pool m d is =
    let note = and_then-made (λ note. declaration_by pool (descriptor_text pool m) (out-Note note).pairs) (find (is_of_task pool) (annotations_in m.attributes)) d
    (if-true (may_be_task pool m) _ d is) in
    by-names pool (descriptor_text pool m) (out-Note note.from).pairs d note.gives
