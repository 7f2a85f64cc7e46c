-- External classes are found by their names.
use Rattle.std.proofs.Common.{◌≡◌, ℕ, zero, suc, ◌+◌, ◌-◌, ◌<◌, ◌&&◌, Bool, true, false, eqb, List, [], ◌∷◌, ◌++◌, length, map, Option, Some, None, option_map, slice_get, refl, sym, ◌∙◌, ap, subst, arith, inl, inr}
use Rattle.std.specs.Prelude.{nat_lt, not, is_some, IsSome, option_and_then}
use Rattle.std.specs.Str.{bytes_eq}
use Rattle.std.specs.List.{position_from}
use Rattle.std.specs.Cmp.Lexicographic.{nat_list_eq_equiv}
use Rattle.std.proofs.lemmas.Bool.{cases_Bool, and_parts, eqb-true, le-ltb, not-true}
use Rattle.std.proofs.lemmas.Slice.Eq.{bytes_eq-Decides}
use Rattle.class_model.specs.declared.identifiers.ClassId.TheVariants.{Outer}
use Rattle.jvm_tables.specs.Externals.{External, externals, external_from, external_of}
use Rattle.class_index.specs.declared.outline.Outline.{Outline}
use Rattle.class_index.specs.Outlines.{outer_outline}
use Rattle.jvm_tables.specs.Natives.{natives, is_array}
use Rattle.jvm_tables.specs.Callbacks.{called_back}
use Rattle.jvm_tables.specs.declared.natives.Callback.{Callback}
use Rattle.jvm_tables.specs.declared.natives.Callback.TheVariants.{ToString, Equals, Accept, Apply, ApplyTwo, Test}
use Rattle.class_index.specs.declared.members.Method.{Method}
use Rattle.class_index.specs.declared.members.Wanted.TheVariants.{Any}
use Rattle.class_index.specs.Members.{outer_method, wanted_method}
use Rattle.class_index.specs.Lookups.{found_at}
use Rattle.class_index.specs.Resolution.{above, member_of, owner_place, method_through, resolve_method}
use Rattle.class_index.specs.declared.lookup.Found.{Found}
use Rattle.class_model.specs.declared.identifiers.MemberId.{MemberId}
use Rattle.class_index.proofs.LookupLemmas.{nearest_found, resolved_nearest}
use Rattle.class_index.proofs.Listings.{external_at}
use Rattle.class_index.proofs.Questions.{length-all_of}
use Rattle.class_index.proofs.Outers.{count}
use Rattle.class_index.specs.Hierarchy.{all_of, names, place_of, supers, id_of}
use Rattle.class_index.specs.Facts.{class_named}
use Rattle.class_index.specs.Apart.{HasNoExternal}

-- the table finds each of its rows
abbrev is_found_at : ℕ → Option (ℕ × External) → Bool
is_found_at at None = false
is_found_at at (Some found) = eqb found.0 at

abbrev each_found : ℕ → List External → Bool
each_found at [] = true
each_found at (row ∷ rows) = is_found_at at (external_of row.class) && each_found (at + 1) rows

externals_found : each_found 0 externals ≡ true
unfolding externals
externals_found = refl

found_from : (from k : ℕ) (rows : List External) (row : External) → each_found from rows ≡ true → slice_get rows k ≡ Some row → is_found_at (from + k) (external_of row.class) ≡ true
found_from from k [] row t e = cc
found_from from zero (r ∷ rows) row t e =
    let same : r ≡ row = cc in
    let here : from ≡ from + 0 = omega arith in
    subst (λ (n : ℕ). is_found_at n (external_of row.class) ≡ true) here
    (subst (λ (x : External). is_found_at from (external_of x.class) ≡ true) same (and_parts (is_found_at from (external_of r.class)) (each_found (from + 1) rows) t).0)
found_from from (suc k) (r ∷ rows) row t e =
    let next : (from + 1) + k ≡ from + suc k = omega arith in
    subst (λ (n : ℕ). is_found_at n (external_of row.class) ≡ true) next
    (found_from (from + 1) k rows row (and_parts (is_found_at from (external_of r.class)) (each_found (from + 1) rows) t).1 e)

place_found : (o : Option (ℕ × External)) (at : ℕ) → is_found_at at o ≡ true → option_map (λ p. p.0) o ≡ Some at
place_found None at t = cc
place_found (Some found) at t = ap Some (eqb-true found.0 at t)

-- external classes are looked for in the order of their table
in_table : (n at : ℕ) (name : List ℕ) (rows : List External) → position_from (bytes_eq name) (n + at) (map (λ (o : Outline). o.name) (map outer_outline rows))
    ≡ option_map (λ p. n + p) (option_map (λ (p : ℕ × External). p.0) (external_from at name rows))
in_table n at name [] = refl
in_table n at name (row ∷ rows) = elim (cases_Bool (bytes_eq row.class name)) [
  | inl y ↦
      let other : bytes_eq name row.class ≡ true = nat_list_eq_equiv.symm name row.class ∙ y in
      rw (y, other) refl
  | inr f ↦
      let other : bytes_eq name row.class ≡ false = nat_list_eq_equiv.symm name row.class ∙ f in
      let next : (n + at) + 1 ≡ n + (at + 1) = omega arith in
      rw (f, other, next) (in_table n (at + 1) name rows)
]

not_own : (name : List ℕ) (found : ℕ × External) (o : Outline) → external_of name ≡ Some found → external_of o.name ≡ None → bytes_eq name o.name ≡ false
not_own name found o e none = elim (cases_Bool (bytes_eq name o.name)) [
  | inl y ↦
      let same : name ≡ o.name = (bytes_eq-Decides name o.name).0 y in
      let no : None ≡ Some found = sym none ∙ (subst (λ (x : List ℕ). external_of x ≡ Some found) same e) in
      cc
  | inr f ↦ f
]

-- none of the program's classes is found by an external name
past_own : (from : ℕ) (name : List ℕ) (found : ℕ × External) (classes : List Outline) (ys : List Outline) → external_of name ≡ Some found → HasNoExternal classes
    → position_from (bytes_eq name) from (names (classes ++ ys)) ≡ position_from (bytes_eq name) (from + length classes) (names ys)
past_own from name found [] ys e h = let here : from + 0 ≡ from = omega arith in rw here refl
past_own from name found (o ∷ classes) ys e h =
    let next : (from + 1) + length classes ≡ from + suc (length classes) = omega arith in
    rw (not_own name found o e h.0) (past_own (from + 1) name found classes ys e h.1 ∙ ap (λ n. position_from (bytes_eq name) n (names ys)) next)

some_pair : (o : Option (ℕ × External)) (at : ℕ) → is_found_at at o ≡ true → (p : ℕ × External) × (o ≡ Some p)
some_pair None at t = cc
some_pair (Some p) at t = (p, refl)

outer_id : (n row : ℕ) → id_of n (n + row) ≡ Outer row
outer_id n row =
    let past : nat_lt (n + row) n ≡ false = le-ltb (n + row) n (omega arith) in
    let left : n + row - n ≡ row = omega arith in
    rw (past, left) refl

row_found : (row : ℕ) (r : External) → slice_get externals row ≡ Some r → is_found_at row (external_of r.class) ≡ true
row_found row r e =
    let same : 0 + row ≡ row = omega arith in
    subst (λ (n : ℕ). is_found_at n (external_of r.class) ≡ true) same (found_from 0 row externals r externals_found e)

-- the place of an external name is that of its row
pub external_place : (classes : List Outline) (row : ℕ) (r : External) → HasNoExternal classes → slice_get externals row ≡ Some r → place_of (names (all_of classes)) r.class ≡ Some (length classes + row)
unfolding all_of
external_place classes row r h e =
    let test : is_found_at row (external_of r.class) ≡ true = row_found row r e in
    let found = some_pair (external_of r.class) row test in
    let from : 0 + length classes ≡ length classes + 0 = omega arith in
    past_own 0 r.class found.0 classes (map outer_outline externals) found.1 h
    ∙ ap (λ n. position_from (bytes_eq r.class) n (names (map outer_outline externals))) from
    ∙ in_table (length classes) 0 r.class externals ∙ ap (option_map (λ p. length classes + p)) (place_found (external_of r.class) row test)

-- the class of an external name is its row
pub external_class : (classes : List Outline) (row : ℕ) (r : External) → HasNoExternal classes → slice_get externals row ≡ Some r → class_named classes r.class ≡ Some (Outer row)
external_class classes row r h e = ap (option_map (id_of (length classes))) (external_place classes row r h e) ∙ ap Some (outer_id (length classes) row)

declared_outer : (classes : List Outline) (name descriptor : List ℕ) (row : ℕ) (r : External) (m : Method) → slice_get externals row ≡ Some r → outer_method name descriptor r ≡ Some m
    → wanted_method (length classes) (all_of classes) name descriptor Any (length classes + row) ≡ Some m
declared_outer classes name descriptor row r m e f =
    let past : nat_lt (length classes + row) (length classes) ≡ false = le-ltb (length classes + row) (length classes) (omega arith) in
    let left : length classes + row - length classes ≡ row = omega arith in
    rw (past, left, e, f) refl

-- a method that an external class has itself resolves to itself
pub external_method : (classes : List Outline) (owner name descriptor : List ℕ) (p : ℕ × External) (m : Method) → HasNoExternal classes → external_of owner ≡ Some p → is_array owner ≡ false
    → outer_method name descriptor p.1 ≡ Some m → IsSome (resolve_method classes owner name descriptor)
external_method classes owner name descriptor p m h e array f =
    let at = external_at 0 owner externals p.0 p.1 (sym e) in
    let here : p.0 ≡ at.0 = omega (arith, at.1) in
    let row : slice_get externals p.0 ≡ Some p.1 = ap (slice_get externals) here ∙ at.2 in
    let place : place_of (names (all_of classes)) owner ≡ Some (length classes + p.0) =
    subst (λ (x : List ℕ). place_of (names (all_of classes)) x ≡ Some (length classes + p.0)) at.3 (external_place classes p.0 p.1 h row) in
    let some : 0 < length (all_of classes) = omega (arith, length-all_of classes, count) in
    let near = nearest_found (wanted_method (length classes) (all_of classes) name descriptor Any) (supers (all_of classes)) (length (all_of classes)) (length classes + p.0) m some
    (declared_outer classes name descriptor p.0 p.1 m row f) in
    let found = resolved_nearest (length classes) (all_of classes) (supers (all_of classes)) (above (all_of classes)) name descriptor (length classes + p.0) (found_at (length classes + p.0) m) (sym near) in
    let owned : owner_place classes owner ≡ Some (length classes + p.0) = rw array place in
    let through : method_through classes owner name descriptor (length classes + p.0) ≡ Some (found_at (length classes + p.0) m) = rw array (sym found) in
    let is : resolve_method classes owner name descriptor ≡ Some (member_of (length classes) (length classes + p.0) m.at) =
    ap (λ o. option_map (λ (f : Found). member_of (length classes) f.place f.method.at) (option_and_then (method_through classes owner name descriptor) o)) owned
    ∙ ap (option_map (λ (f : Found). member_of (length classes) f.place f.method.at)) through in
    subst (λ (o : Option MemberId). IsSome o) (sym is) refl

has_called : Callback → Bool
has_called c = is_some (option_and_then (λ p. outer_method (called_back c).name (called_back c).descriptor p.1) (external_of (called_back c).class)) && not (is_array (called_back c).class)

all_have : (c : Callback) → has_called c ≡ true
unfolding externals natives has_called
all_have ToString = refl
all_have Equals = refl
all_have Accept = refl
all_have Apply = refl
all_have ApplyTwo = refl
all_have Test = refl

-- the methods that natives call back resolve
pub callback_resolves : (classes : List Outline) (c : Callback) → HasNoExternal classes → IsSome (resolve_method classes (called_back c).class (called_back c).name (called_back c).descriptor)
unfolding has_called
callback_resolves classes c h = by_class (external_of (called_back c).class) refl
  where
    parts : (is_some (option_and_then (λ (p : ℕ × External). outer_method (called_back c).name (called_back c).descriptor p.1) (external_of (called_back c).class)) ≡ true) × (not (is_array (called_back c).class) ≡ true)
    parts = and_parts (is_some (option_and_then (λ (p : ℕ × External). outer_method (called_back c).name (called_back c).descriptor p.1) (external_of (called_back c).class))) (not (is_array (called_back c).class)) (all_have c)

    by_method : (p : ℕ × External) (o : Option Method) → external_of (called_back c).class ≡ Some p → outer_method (called_back c).name (called_back c).descriptor p.1 ≡ o
        → IsSome (resolve_method classes (called_back c).class (called_back c).name (called_back c).descriptor)
    by_method p None e f = let no : false ≡ true = rw (e, f) at parts.0 in cc
    by_method p (Some m) e f = external_method classes (called_back c).class (called_back c).name (called_back c).descriptor p m h e (not-true (is_array (called_back c).class) parts.1) f

    by_class : (o : Option (ℕ × External)) → external_of (called_back c).class ≡ o → IsSome (resolve_method classes (called_back c).class (called_back c).name (called_back c).descriptor)
    by_class None e = let no : false ≡ true = rw e at parts.0 in cc
    by_class (Some p) e = by_method p (outer_method (called_back c).name (called_back c).descriptor p.1) e refl
