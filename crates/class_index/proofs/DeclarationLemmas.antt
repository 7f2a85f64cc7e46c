-- What is looked up in a class is the method of its number.
use Rattle.std.proofs.Common.{◌≡◌, ℕ, zero, suc, ◌+◌, ◌-◌, ◌<◌, ◌&&◌, Bool, true, false, not, List, [], ◌∷◌, length, map, ◌≤◌, get_or, Option, Some, None, IsSome, option_map, option_and_then, slice_get, refl, sym, ◌∙◌, ap, subst, arith, inl, inr}
use Rattle.std.specs.Prelude.{codes, nat_lt}
use Rattle.std.specs.Str.{bytes_eq}
use Rattle.std.proofs.lemmas.Bool.{cases_Bool, and_parts, or_left, or_right, ltb-true, both_ways, not-true}
use Rattle.std.proofs.lemmas.Option.{slice_get-map, slice_get_within, slice_get_read}
use Rattle.std.proofs.lemmas.Slice.Eq.{bytes_eq-Decides}
use Rattle.class_model.specs.declared.identifiers.ClassId.{ClassId}
use Rattle.class_model.specs.declared.identifiers.ClassId.TheVariants.{Own, Outer}
use Rattle.class_model.specs.declared.identifiers.MemberId.{MemberId}
use Rattle.jvm_tables.specs.declared.externals.Family.{Family}
use Rattle.jvm_tables.specs.declared.externals.Family.TheVariants as families
use Rattle.jvm_tables.specs.Externals.{External, externals, external_from, external_of}
use Rattle.jvm_tables.specs.Externals as external
use Rattle.jvm_tables.specs.Natives.{Native, natives, native_of, is_array, stands_on}
use Rattle.class_index.specs.declared.outline.Outline.{Outline}
use Rattle.class_index.specs.declared.members.Method.{Method}
use Rattle.class_index.specs.Outlines.{outer_outline}
use Rattle.class_index.specs.Hierarchy.{all_of, IsClassId}
use Rattle.class_index.specs.Members.{member_from, method_of, native_method, abstract_method, is_abstract_of, outer_method, declared}
use Rattle.class_index.specs.Declarations.{Declaration, declaration, own_declaration, has_native, outer_declaration, method_at, IsMethodId}
use Rattle.class_index.specs.Resolution.{member_of}
use Rattle.class_index.proofs.Questions.{length-all_of}
use Rattle.class_index.proofs.Listings.{mapped, chained, front, back, member_at, native_at}

own_is : (o : Outline) (name descriptor : List ℕ) (at flags : ℕ) → member_from 0 name descriptor o.methods ≡ Some (at, flags)
    → own_declaration at o ≡ Some (declaration name descriptor (method_of (at, flags)))
own_is o name descriptor at flags e =
    let found = member_at 0 name descriptor o.methods at flags (sym e) in
    let m = found.2 in
    let here : at ≡ found.0 = omega (arith, found.1) in
    let read : slice_get o.methods at ≡ Some m = ap (slice_get o.methods) here ∙ found.3 in
    rw (read, found.4, found.5, found.6) refl

same_texts : (name descriptor n d : List ℕ) (m : Method) → n ≡ name → d ≡ descriptor → declaration n d m ≡ declaration name descriptor m
same_texts name descriptor n d m e f = ap (λ (x : List ℕ). declaration x d m) e ∙ ap (λ (x : List ℕ). declaration name x m) f

-- a native that the class has is the declaration of its number
native_is : (row : External) (name descriptor : List ℕ) (at : ℕ) (native : Native) → slice_get natives at ≡ Some native → native.name ≡ name → native.descriptor ≡ descriptor → has_native row native ≡ true
    → outer_declaration at row ≡ Some (declaration name descriptor (native_method (at, native)))
native_is row name descriptor at native read e f has =
    rw (read, has) (ap Some (same_texts name descriptor native.name native.descriptor (native_method (at, native)) e f))

past : slice_get natives 118 ≡ None
unfolding natives
past = refl

abstract_is : (row : External) (name descriptor : List ℕ) (o : Option external.Method) → row.abstract_method ≡ o → is_abstract_of name descriptor o ≡ true
    → outer_declaration 118 row ≡ Some (declaration name descriptor abstract_method)
abstract_is row name descriptor None e t = cc
abstract_is row name descriptor (Some m) e t =
    let parts = and_parts (bytes_eq m.name name) (bytes_eq m.descriptor descriptor) t in
    rw (past, e) (ap Some (same_texts name descriptor m.name m.descriptor abstract_method ((bytes_eq-Decides m.name name).0 parts.0) ((bytes_eq-Decides m.descriptor descriptor).0 parts.1)))

outer_is : (row : External) (name descriptor : List ℕ) (m : Method) → outer_method name descriptor row ≡ Some m → outer_declaration m.at row ≡ Some (declaration name descriptor m)
outer_is row name descriptor m e = by_native (native_of row.class name descriptor) refl
  where
    by_abstract : (b : Bool) → is_abstract_of name descriptor row.abstract_method ≡ b → native_of row.class name descriptor ≡ None → outer_declaration m.at row ≡ Some (declaration name descriptor m)
    by_abstract true t none =
        let same : Some abstract_method ≡ Some m = rw (none, t) at e in
        let is : abstract_method ≡ m = cc in
        subst (λ (x : Method). outer_declaration x.at row ≡ Some (declaration name descriptor x)) is (abstract_is row name descriptor row.abstract_method refl t)
    by_abstract false f none = let no : None ≡ Some m = rw (none, f) at e in cc

    by_native : (o : Option (ℕ × Native)) → native_of row.class name descriptor ≡ o → outer_declaration m.at row ≡ Some (declaration name descriptor m)
    by_native None none = by_abstract (is_abstract_of name descriptor row.abstract_method) refl none
    by_native (Some found) is =
        let same : Some (native_method found) ≡ Some m = rw is at e in
        let method : native_method found ≡ m = cc in
        let stands = native_at 0 row.class name descriptor natives found.0 found.1 (sym is) in
        let here : found.0 ≡ stands.0 = omega (arith, stands.1) in
        let has : has_native row found.1 ≡ true = or_left (stands_on found.1.class found.1.family row.class) (bytes_eq found.1.class row.class) stands.5 in
        subst (λ (x : Method). outer_declaration x.at row ≡ Some (declaration name descriptor x)) method
        (native_is row name descriptor found.0 found.1 (ap (slice_get natives) here ∙ stands.2) stands.3 stands.4 has)

pub back_of : (classes : List Outline) (place row : ℕ) (r : External) → place ≡ length classes + row → slice_get externals row ≡ Some r → slice_get (all_of classes) place ≡ Some (outer_outline r)
unfolding all_of
back_of classes place row r e read =
    back classes (map outer_outline externals) place row e ∙ slice_get-map outer_outline externals row ∙ ap (option_map outer_outline) read

-- an external class has no fields
pub no_fields : (classes : List Outline) (place : ℕ) (o : Outline) → length classes ≤ place → slice_get (all_of classes) place ≡ Some o → o.fields ≡ []
unfolding all_of
no_fields classes place o h e =
    let at : slice_get (all_of classes) place ≡ slice_get (map outer_outline externals) (place - length classes) =
    back classes (map outer_outline externals) place (place - length classes) (omega arith) in
    let row = mapped outer_outline (slice_get externals (place - length classes)) o (sym (slice_get-map outer_outline externals (place - length classes)) ∙ sym at ∙ e) in
    ap (λ (x : Outline). x.fields) (sym row.2)

pub front_of : (classes : List Outline) (place : ℕ) → place < length classes → slice_get (all_of classes) place ≡ slice_get classes place
unfolding all_of
front_of classes place h = front classes _ place h

method_own : (classes : List Outline) (id : MemberId) (class : ℕ) → id.class ≡ Own class → method_at classes id ≡ option_and_then (own_declaration id.at) (slice_get classes class)
method_own classes id class e = rw e refl

found_in : {A B : Type 0} (f : A → Option B) (o : Option A) → IsSome (option_and_then f o) → (x : A) × (o ≡ Some x)
found_in f None t = let none : false ≡ true = t in cc
found_in f (Some x) t = (x, refl)

-- a method that is there stands in a class that is there
pub class_there : (classes : List Outline) (id : MemberId) → IsMethodId classes id → IsClassId classes id.class
class_there classes id h = by_class id.class refl
  where
    by_class : (k : ClassId) → id.class ≡ k → IsClassId classes id.class
    by_class (Own class) e =
        let found = found_in (own_declaration id.at) (slice_get classes class) (rw e at h) in
        let within : class < length classes = slice_get_within classes class found.0 found.1 in
        rw e within
    by_class (Outer row) e =
        let found = found_in (outer_declaration id.at) (slice_get externals row) (rw e at h) in
        let within : row < length externals = slice_get_within externals row found.0 found.1 in
        rw e within

-- the class of a method that is there is one of the program's
pub own_within : (classes : List Outline) (id : MemberId) (class : ℕ) → id.class ≡ Own class → IsMethodId classes id → class < length (all_of classes)
own_within classes id class e h = by_class (slice_get classes class) refl (subst (λ (o : Option Declaration). IsSome o) (method_own classes id class e) h)
  where
    by_class : (o : Option Outline) → slice_get classes class ≡ o → IsSome (option_and_then (own_declaration id.at) (slice_get classes class)) → class < length (all_of classes)
    by_class None g t = let none : false ≡ true = rw g at t in cc
    by_class (Some o) g t = omega (arith, slice_get_within classes class o g, length-all_of classes)

pub own_read : (classes : List Outline) (id : MemberId) (class : ℕ) (o : Outline) → id.class ≡ Own class → IsMethodId classes id → o ≡ get_or (all_of classes) class o
    → own_declaration id.at o ≡ method_at classes id
own_read classes id class o e h is = by_class (slice_get classes class) refl (subst (λ (m : Option Declaration). IsSome m) (method_own classes id class e) h)
  where
    by_class : (x : Option Outline) → slice_get classes class ≡ x → IsSome (option_and_then (own_declaration id.at) (slice_get classes class)) → own_declaration id.at o ≡ method_at classes id
    by_class None g t = let none : false ≡ true = rw g at t in cc
    by_class (Some x) g t =
        let read : slice_get (all_of classes) class ≡ Some o = slice_get_read (all_of classes) (length (all_of classes)) class o refl (own_within classes id class e h) is in
        let own : slice_get classes class ≡ Some o = sym (front_of classes class (slice_get_within classes class x g)) ∙ read in
        sym (method_own classes id class e ∙ ap (option_and_then (own_declaration id.at)) own)

-- the method that is looked up at a place is the one that its number names
pub declared_is : (classes : List Outline) (name descriptor : List ℕ) (place : ℕ) (m : Method) → declared (length classes) (all_of classes) name descriptor place ≡ Some m
    → method_at classes (member_of (length classes) place m.at) ≡ Some (declaration name descriptor m)
declared_is classes name descriptor place m e = elim (cases_Bool (nat_lt place (length classes))) [
  | inl t ↦
      let found = mapped method_of _ m (rw t at e) in
      let class = chained (λ (o : Outline). member_from 0 name descriptor o.methods) (slice_get (all_of classes) place) found.0 found.1 in
      let read : slice_get classes place ≡ Some class.0 = sym (front_of classes place (ltb-true place (length classes) t)) ∙ class.1 in
      rw (t, read)
      (subst (λ (x : Method). own_declaration x.at class.0 ≡ Some (declaration name descriptor x)) found.2 (own_is class.0 name descriptor found.0.0 found.0.1 class.2))
  | inr f ↦
      let row = chained (outer_method name descriptor) (slice_get externals (place - length classes)) m (rw f at e) in
      rw (f, row.1) (outer_is row.0 name descriptor m row.2)
]

-- no external class is a class of arrays
abbrev no_arrays : List External → Bool
no_arrays [] = true
no_arrays (row ∷ rows) = not (is_array row.class) && no_arrays rows

none_are_arrays : no_arrays externals ≡ true
unfolding externals
none_are_arrays = refl

not_external : (from : ℕ) (owner : List ℕ) (rows : List External) → is_array owner ≡ true → no_arrays rows ≡ true → external_from from owner rows ≡ None
not_external from owner [] a t = refl
not_external from owner (row ∷ rows) a t =
    let parts = and_parts (not (is_array row.class)) (no_arrays rows) t in
    elim (cases_Bool (bytes_eq row.class owner)) [
      | inl y ↦
          let same : row.class ≡ owner = (bytes_eq-Decides row.class owner).0 y in
          absurd (both_ways (is_array row.class) (not-true (is_array row.class) parts.0) (subst (λ (x : List ℕ). is_array x ≡ true) (sym same) a))
      | inr f ↦ rw f (not_external (from + 1) owner rows a parts.1)
    ]

-- the natives of arrays are those of Object, and no other class of a native is one of arrays
abbrev is_placed : Family → List ℕ → Bool
is_placed families.Arrays class = bytes_eq class (codes "java/lang/Object")
is_placed families.Alone class = not (is_array class)
is_placed families.Lists class = true
is_placed families.Throwables class = true

abbrev all_placed : List Native → Bool
all_placed [] = true
all_placed (row ∷ rows) = is_placed row.family row.class && all_placed rows

natives_are_placed : all_placed natives ≡ true
unfolding natives
natives_are_placed = refl

placed_at : (rows : List Native) (k : ℕ) (row : Native) → all_placed rows ≡ true → slice_get rows k ≡ Some row → is_placed row.family row.class ≡ true
placed_at [] k row t e = cc
placed_at (r ∷ rows) zero row t e =
    let same : r ≡ row = cc in
    subst (λ (x : Native). is_placed x.family x.class ≡ true) same (and_parts (is_placed r.family r.class) (all_placed rows) t).0
placed_at (r ∷ rows) (suc k) row t e = placed_at rows k row (and_parts (is_placed r.family r.class) (all_placed rows) t).1 e

on_arrays : (owner : List ℕ) (family : Family) (class : List ℕ) → is_array owner ≡ true → external_of owner ≡ None → is_placed family class ≡ true → stands_on class family owner ≡ true
    → bytes_eq class (codes "java/lang/Object") ≡ true
on_arrays owner families.Arrays class a none p s = p
on_arrays owner families.Alone class a none p s =
    let same : class ≡ owner = (bytes_eq-Decides class owner).0 s in
    absurd (both_ways (is_array class) (not-true (is_array class) p) (subst (λ (x : List ℕ). is_array x ≡ true) (sym same) a))
on_arrays owner families.Lists class a none p s = let no : false ≡ true = rw none at s in cc
on_arrays owner families.Throwables class a none p s = let no : false ≡ true = rw none at s in cc

-- a native of an array class is one of Object
pub array_native_is : (row : External) (owner name descriptor : List ℕ) (found : ℕ × Native) → row.class ≡ codes "java/lang/Object" → is_array owner ≡ true
    → native_of owner name descriptor ≡ Some found → outer_declaration found.0 row ≡ Some (declaration name descriptor (native_method found))
array_native_is row owner name descriptor found object a e =
    let stands = native_at 0 owner name descriptor natives found.0 found.1 (sym e) in
    let here : found.0 ≡ stands.0 = omega (arith, stands.1) in
    let read : slice_get natives found.0 ≡ Some found.1 = ap (slice_get natives) here ∙ stands.2 in
    let class : bytes_eq found.1.class (codes "java/lang/Object") ≡ true =
    on_arrays owner found.1.family found.1.class a (not_external 0 owner externals a none_are_arrays) (placed_at natives found.0 found.1 natives_are_placed read) stands.5 in
    let has : has_native row found.1 ≡ true = or_right (stands_on found.1.class found.1.family row.class) (bytes_eq found.1.class row.class) (rw object class) in
    native_is row name descriptor found.0 found.1 read stands.3 stands.4 has
