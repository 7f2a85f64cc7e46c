-- What resolution and selection find is a member of the class or of what is above it.
use Rattle.std.proofs.Common.{◌||◌, ◌≡◌, ℕ, ◌+◌, ◌-◌, ◌<◌, ◌≤◌, Bool, true, false, eqb, List, [], ◌∷◌, length, Option, Some, None, option_map, option_and_then, slice_get, refl, sym, ◌∙◌, ap, subst, arith, inl, inr}
use Rattle.std.specs.Prelude.{codes, nat_lt, IsSome}
use Rattle.std.proofs.lemmas.Bool.{cases_Bool, ltb-true, ltb-false, le-ltb, or_cases, or_left, or_right, eq-eqb, eqb-true}
use Rattle.std.proofs.lemmas.Option.{slice_get_within, slice_get-map, some_pair_parts}
use Rattle.class_model.specs.declared.identifiers.ClassId.{ClassId}
use Rattle.class_model.specs.declared.identifiers.MemberId.{MemberId}
use Rattle.jvm_tables.specs.Externals.{External, externals, external_of}
use Rattle.jvm_tables.specs.Natives.{Native, native_of, is_array}
use Rattle.place_graph.specs.Graphs.{is_among}
use Rattle.place_graph.proofs.Walks.{beyond_reaches}
use Rattle.class_index.specs.declared.outline.Outline.{Outline}
use Rattle.class_index.specs.declared.outline.MemberOutline.{MemberOutline}
use Rattle.class_index.specs.declared.members.Wanted.TheVariants.{Overriding}
use Rattle.class_index.specs.declared.lookup.Found.{Found}
use Rattle.class_index.specs.declared.lookup.Choice.{Choice}
use Rattle.class_index.specs.declared.lookup.Choice.TheVariants.{Nothing, One, Many}
use Rattle.class_index.specs.declared.select.Selected.TheVariants as selected
use Rattle.class_index.specs.Outlines.{outer_outline}
use Rattle.class_index.specs.Hierarchy.{all_of, names, place_of, supers, hierarchy, place, id_of, IsClassId}
use Rattle.class_index.specs.Members.{native_method, member_from, wanted_method}
use Rattle.class_index.specs.Lookups.{found_at, nearest, in_interface, most_specific, resolved, field_at, first_field}
use Rattle.class_index.specs.Resolution.{member_of, above, resolve_field, owner_place, method_through, resolve_method}
use Rattle.class_index.specs.Subtyping.{IsSubtype, class_name}
use Rattle.class_index.specs.Declarations.{Declaration, declaration, method_at, IsMethodId, field_named, IsFieldId}
use Rattle.class_index.specs.Selection.{the_only, or_only, overriding, select}
use Rattle.class_index.specs.Inherited.{IsAtOrAbove, method_owner, IsInheritedField, IsInheritedMethod, IsOverride, IsSelection}
use Rattle.class_index.proofs.Listings.{mapped, chained, member_at, external_at, position_at}
use Rattle.class_index.proofs.DeclarationLemmas.{back_of, no_fields, front_of, declared_is, array_native_is}
use Rattle.class_index.proofs.Climbs.{IsUp, CanOverride, nearest_at, overriding_is, interface_is, specific_at, resolved_is}
use Rattle.class_index.proofs.PlaceLemmas.{place_within}
use Rattle.class_index.proofs.Questions.{length-all_of}

pub place_of_id : (classes : List Outline) (p : ℕ) → place classes (id_of (length classes) p) ≡ p
place_of_id classes p = elim (cases_Bool (nat_lt p (length classes))) [
  | inl t ↦ rw t refl
  | inr f ↦ let past : length classes ≤ p = ltb-false p (length classes) f in rw f (omega arith)
]

pub id_is_class : (classes : List Outline) (p : ℕ) → p < length (all_of classes) → IsClassId classes (id_of (length classes) p)
id_is_class classes p h = elim (cases_Bool (nat_lt p (length classes))) [
  | inl t ↦ rw t (ltb-true p (length classes) t)
  | inr f ↦
      let past : length classes ≤ p = ltb-false p (length classes) f in
      let within : p - length classes < length externals = omega (arith, h, length-all_of classes) in
      rw f within
]

-- a class from which a chain leads to another is its subtype
up_is_subtype : (classes : List Outline) (low high : ℕ) → IsUp (all_of classes) low high → IsSubtype classes (id_of (length classes) low) (id_of (length classes) high)
up_is_subtype classes low high up = rw (place_of_id classes low, place_of_id classes high) up

up_from_class : (classes : List Outline) (low : ClassId) (high : ℕ) → IsUp (all_of classes) (place classes low) high → IsSubtype classes low (id_of (length classes) high)
up_from_class classes low high up = rw (place_of_id classes high) up

-- the class of a name stands at the place
record IsPlaceOf (classes : List Outline) (name : List ℕ) (p : ℕ) : Type 0 where
  within : p < length (all_of classes)
  read : slice_get (names (all_of classes)) p ≡ Some name

named : (classes : List Outline) (name : List ℕ) (p : ℕ) → slice_get (names (all_of classes)) p ≡ Some name → class_name classes (id_of (length classes) p) ≡ name
named classes name p read = rw (place_of_id classes p, read) refl

above_is : (classes : List Outline) (name : List ℕ) (p high : ℕ) → IsPlaceOf classes name p → IsUp (all_of classes) p high → IsAtOrAbove classes name (id_of (length classes) high)
above_is classes name p high is up = (
  id_of (length classes) p,
  id_is_class classes p is.within,
  named classes name p is.read,
  up_is_subtype classes p high up,
)

place_is : (classes : List Outline) (owner : List ℕ) (p : ℕ) → place_of (names (all_of classes)) owner ≡ Some p → IsPlaceOf classes owner p
place_is classes owner p e =
    let at = position_at owner 0 (names (all_of classes)) p (sym e) in
    let here : p ≡ at.0 = omega (arith, at.1) in
    record { within = place_within (all_of classes) owner p e; read = ap (slice_get (names (all_of classes))) here ∙ at.2 }

external_is : (classes : List Outline) (name : List ℕ) (found : ℕ × External) (p : ℕ) → external_of name ≡ Some found → p ≡ length classes + found.0 → IsPlaceOf classes name p
external_is classes name found p e f =
    let at = external_at 0 name externals found.0 found.1 (sym e) in
    let here : found.0 ≡ at.0 = omega (arith, at.1) in
    let row : slice_get externals found.0 ≡ Some found.1 = ap (slice_get externals) here ∙ at.2 in
    let read : slice_get (all_of classes) p ≡ Some (outer_outline found.1) = back_of classes p found.0 found.1 f row in
    record {
      within = slice_get_within (all_of classes) p (outer_outline found.1) read;
      read = slice_get-map (λ (o : Outline). o.name) (all_of classes) p ∙ ap (option_map (λ (o : Outline). o.name)) read ∙ ap Some at.3;
    }

-- where the methods of an owner are looked for
owner_is : (classes : List Outline) (owner : List ℕ) (p : ℕ) → owner_place classes owner ≡ Some p → IsPlaceOf classes (method_owner owner) p
owner_is classes owner p e = elim (cases_Bool (is_array owner)) [
  | inl t ↦
      let found = mapped (λ (row : ℕ × External). length classes + row.0) (external_of (codes "java/lang/Object")) p (rw t at e) in
      rw t (external_is classes (codes "java/lang/Object") found.0 p found.1 (sym found.2))
  | inr f ↦ rw f (place_is classes owner p (rw f at e))
]

field_there : (classes : List Outline) (name descriptor : List ℕ) (p at : ℕ) → field_at (all_of classes) name descriptor p ≡ Some at
    → (f : MemberOutline) × (field_named classes (member_of (length classes) p at) ≡ Some f) × (f.name ≡ name) × (f.descriptor ≡ descriptor)
field_there classes name descriptor p at e =
    let found = mapped (λ (f : ℕ × ℕ). f.0) (option_and_then (λ (o : Outline). member_from 0 name descriptor o.fields) (slice_get (all_of classes) p)) at e in
    let class = chained (λ (o : Outline). member_from 0 name descriptor o.fields) (slice_get (all_of classes) p) found.0 found.1 in
    let m = member_at 0 name descriptor class.0.fields found.0.0 found.0.1 (sym class.2) in
    let here : at ≡ m.0 = omega (arith, m.1, found.2) in
    let read : slice_get class.0.fields at ≡ Some m.2 = ap (slice_get class.0.fields) here ∙ m.3 in
    (m.2, named_at class.0 m.2 class.1 read, m.4, m.5)
  where
    named_at : (o : Outline) (f : MemberOutline) → slice_get (all_of classes) p ≡ Some o → slice_get o.fields at ≡ Some f → field_named classes (member_of (length classes) p at) ≡ Some f
    named_at o f class read = elim (cases_Bool (nat_lt p (length classes))) [
      | inl t ↦
          let own : slice_get classes p ≡ Some o = sym (front_of classes p (ltb-true p (length classes) t)) ∙ class in
          rw (t, own) read
      | inr past ↦
          let none : o.fields ≡ [] = no_fields classes p o (ltb-false p (length classes) past) class in
          let empty : None ≡ Some f = rw none at read in
          cc
    ]

first_next : (find : ℕ → Option ℕ) (place : ℕ) (places : List ℕ) (p at : ℕ) (o : Option ℕ) → find place ≡ o
    → (first_field find places ≡ Some (p, at) → (is_among p places ≡ true) × (find p ≡ Some at))
    → first_field find (place ∷ places) ≡ Some (p, at) → (is_among p (place ∷ places) ≡ true) × (find p ≡ Some at)
first_next find place places p at None g later e =
    let there = later (rw g at e) in (or_right (eqb place p) (is_among p places) there.0, there.1)
first_next find place places p at (Some x) g later e =
    let is : ◌≡◌ {A = Option (ℕ × ℕ)} (Some (place, x)) (Some (p, at)) = rw g at e in
    let same : (place ≡ p) × (x ≡ at) = some_pair_parts place p x at is in (
      or_left (eqb place p) (is_among p places) (eq-eqb place p same.0),
      subst (λ (q : ℕ). find q ≡ Some at) same.0 (g ∙ ap Some same.1),
    )

first_at : (find : ℕ → Option ℕ) (places : List ℕ) (p at : ℕ) → first_field find places ≡ Some (p, at) → (is_among p places ≡ true) × (find p ≡ Some at)
first_at find [] p at e = cc
first_at find (place ∷ places) p at e = first_next find place places p at (find place) refl (first_at find places p at) e

up_among : (all : List Outline) (low high : ℕ) → is_among high (low ∷ above all low) ≡ true → IsUp all low high
up_among all low high t = elim (or_cases (eqb low high) (is_among high (above all low)) t) [
  | inl e ↦ inl (eqb-true low high e)
  | inr more ↦ inr (beyond_reaches (hierarchy all) low high more)
]

-- a field that is found is one of its owner or of what is above it
pub field_inherited : (classes : List Outline) (owner name descriptor : List ℕ) (id : MemberId) → resolve_field classes owner name descriptor ≡ Some id → IsInheritedField classes owner name descriptor id
field_inherited classes owner name descriptor id e =
    let all = all_of classes in
    let found = mapped (λ (f : ℕ × ℕ). member_of (length classes) f.0 f.1)
    (option_and_then (λ (p : ℕ). first_field (field_at all name descriptor) (p ∷ above all p)) (place_of (names all) owner)) id e in
    let p = chained (λ (p : ℕ). first_field (field_at all name descriptor) (p ∷ above all p)) (place_of (names all) owner) found.0 found.1 in
    let first = first_at (field_at all name descriptor) (p.0 ∷ above all p.0) found.0.0 found.0.1 p.2 in
    let there = field_there classes name descriptor found.0.0 found.0.1 first.1 in
    let is : IsInheritedField classes owner name descriptor (member_of (length classes) found.0.0 found.0.1) = record {
      field = there.0;
      declared = there.1;
      same_name = there.2;
      same_descriptor = there.3;
      above = above_is classes owner p.0 found.0.0 (place_is classes owner p.0 p.1) (up_among all p.0 found.0.0 first.0);
    } in
    subst (IsInheritedField classes owner name descriptor) found.2 is

-- a method that was found, by its number
record IsThere (classes : List Outline) (name descriptor : List ℕ) (low : ℕ) (f : Found) : Type 0 where
  declared : method_at classes (member_of (length classes) f.place f.method.at) ≡ Some (declaration name descriptor f.method)
  up : IsUp (all_of classes) low f.place

from_climbed : (classes : List Outline) (name descriptor : List ℕ) (low : ℕ) (f : Found)
    → resolved (length classes) (all_of classes) (supers (all_of classes)) (above (all_of classes)) name descriptor low ≡ Some f → IsThere classes name descriptor low f
from_climbed classes name descriptor low f e =
    let is = resolved_is (length classes) (all_of classes) name descriptor low f e in
    record { declared = declared_is classes name descriptor f.place f.method is.declared; up = is.up }

array_there : (classes : List Outline) (owner name descriptor : List ℕ) (p : ℕ) (native : ℕ × Native) → owner_place classes owner ≡ Some p → is_array owner ≡ true
    → native_of owner name descriptor ≡ Some native → IsThere classes name descriptor p (found_at p (native_method native))
array_there classes owner name descriptor p native o a n =
    let found = mapped (λ (row : ℕ × External). length classes + row.0) (external_of (codes "java/lang/Object")) p (rw a at o) in
    let at = external_at 0 (codes "java/lang/Object") externals found.0.0 found.0.1 (sym found.1) in
    let here : found.0.0 ≡ at.0 = omega (arith, at.1) in
    let row : slice_get externals found.0.0 ≡ Some found.0.1 = ap (slice_get externals) here ∙ at.2 in
    let past : nat_lt p (length classes) ≡ false = le-ltb p (length classes) (omega (arith, found.2)) in
    let place : p - length classes ≡ found.0.0 = omega (arith, found.2) in
    record { declared = rw (past, place, row) (array_native_is found.0.1 owner name descriptor native at.3 a n); up = inl refl }

through_is : (classes : List Outline) (owner name descriptor : List ℕ) (p : ℕ) (f : Found) → owner_place classes owner ≡ Some p → method_through classes owner name descriptor p ≡ Some f
    → IsThere classes name descriptor p f
through_is classes owner name descriptor p f o e = by_array (is_array owner) refl
  where
    by_native : (n : Option (ℕ × Native)) → is_array owner ≡ true → native_of owner name descriptor ≡ n → IsThere classes name descriptor p f
    by_native None a n = from_climbed classes name descriptor p f (rw (a, n) at e)
    by_native (Some native) a n =
        let is : Some (found_at p (native_method native)) ≡ Some f = rw (a, n) at e in
        let same : found_at p (native_method native) ≡ f = cc in
        subst (IsThere classes name descriptor p) same (array_there classes owner name descriptor p native o a n)

    by_array : (b : Bool) → is_array owner ≡ b → IsThere classes name descriptor p f
    by_array true a = by_native (native_of owner name descriptor) a refl
    by_array false a = from_climbed classes name descriptor p f (rw a at e)

-- a method that is found is one of its owner or of what is above it
pub method_inherited : (classes : List Outline) (owner name descriptor : List ℕ) (id : MemberId) → resolve_method classes owner name descriptor ≡ Some id → IsInheritedMethod classes owner name descriptor id
method_inherited classes owner name descriptor id e =
    let found = mapped (λ (f : Found). member_of (length classes) f.place f.method.at) (option_and_then (method_through classes owner name descriptor) (owner_place classes owner)) id e in
    let p = chained (method_through classes owner name descriptor) (owner_place classes owner) found.0 found.1 in
    let there = through_is classes owner name descriptor p.0 found.0 p.1 p.2 in
    let is : IsInheritedMethod classes owner name descriptor (member_of (length classes) found.0.place found.0.method.at) = record {
      method = declaration name descriptor found.0.method;
      declared = there.declared;
      same_name = refl;
      same_descriptor = refl;
      above = above_is classes (method_owner owner) p.0 found.0.place (owner_is classes owner p.0 p.1) there.up;
    } in
    subst (IsInheritedMethod classes owner name descriptor) found.2 is

-- a method that is found is there
pub method_there : (classes : List Outline) (owner name descriptor : List ℕ) (id : MemberId) → Some id ≡ resolve_method classes owner name descriptor → IsMethodId classes id
method_there classes owner name descriptor id e =
    let is = method_inherited classes owner name descriptor id (sym e) in
    subst (λ (o : Option Declaration). IsSome o) (sym is.declared) refl

override_is : (classes : List Outline) (r : Declaration) (receiver : ClassId) (f : Found) → CanOverride (length classes) (all_of classes) r.name r.descriptor f.place f.method → f.method.is_abstract ≡ false
    → IsUp (all_of classes) (place classes receiver) f.place → IsOverride classes r receiver (member_of (length classes) f.place f.method.at)
override_is classes r receiver f can concrete up = record {
  method = declaration r.name r.descriptor f.method;
  declared = declared_is classes r.name r.descriptor f.place f.method can.declared;
  same_name = refl;
  same_descriptor = refl;
  is_private = can.is_private;
  is_static = can.is_static;
  is_abstract = concrete;
  above = up_from_class classes receiver f.place up;
}

by_choice : (classes : List Outline) (r : Declaration) (receiver : ClassId) (id : MemberId) (choice : Choice)
    → most_specific (in_interface (length classes) (all_of classes) r.name r.descriptor) (above (all_of classes)) (above (all_of classes) (place classes receiver)) ≡ choice
    → the_only (length classes) choice ≡ selected.Found id → IsOverride classes r receiver id
by_choice classes r receiver id Nothing g e = cc
by_choice classes r receiver id Many g e = cc
by_choice classes r receiver id (One f) g e =
    let same : member_of (length classes) f.place f.method.at ≡ id = cc in
    let is = specific_at (in_interface (length classes) (all_of classes) r.name r.descriptor) (all_of classes) (place classes receiver) f g in
    subst (IsOverride classes r receiver) same
    (override_is classes r receiver f (interface_is (length classes) (all_of classes) r.name r.descriptor f.place f.method is.0.found) is.1 is.0.up)

by_nearest : (classes : List Outline) (r : Declaration) (receiver : ClassId) (id : MemberId) (o : Option Found)
    → nearest (wanted_method (length classes) (all_of classes) r.name r.descriptor Overriding) (supers (all_of classes)) (length (all_of classes)) (place classes receiver) ≡ o
    → or_only (length classes) o (most_specific (in_interface (length classes) (all_of classes) r.name r.descriptor) (above (all_of classes)) (above (all_of classes) (place classes receiver))) ≡ selected.Found id
    → IsOverride classes r receiver id
by_nearest classes r receiver id None g e =
    by_choice classes r receiver id (most_specific (in_interface (length classes) (all_of classes) r.name r.descriptor) (above (all_of classes)) (above (all_of classes) (place classes receiver))) refl e
by_nearest classes r receiver id (Some f) g e = elim (cases_Bool f.method.is_abstract) [
  | inl t ↦ let no : selected.Abstract ≡ selected.Found id = rw t at e in cc
  | inr concrete ↦
      let is : selected.Found (member_of (length classes) f.place f.method.at) ≡ selected.Found id = rw concrete at e in
      let same : member_of (length classes) f.place f.method.at ≡ id = cc in
      let near = nearest_at (wanted_method (length classes) (all_of classes) r.name r.descriptor Overriding) (all_of classes) (length (all_of classes)) (place classes receiver) f g in
      subst (IsOverride classes r receiver) same
      (override_is classes r receiver f (overriding_is (length classes) (all_of classes) r.name r.descriptor f.place f.method near.found) concrete near.up)
]

overriding_found : (classes : List Outline) (r : Declaration) (receiver : ClassId) (id : MemberId)
    → overriding (length classes) (all_of classes) (supers (all_of classes)) (above (all_of classes)) r.name r.descriptor (place classes receiver) ≡ selected.Found id → IsOverride classes r receiver id
unfolding overriding
overriding_found classes r receiver id e =
    by_nearest classes r receiver id (nearest (wanted_method (length classes) (all_of classes) r.name r.descriptor Overriding) (supers (all_of classes)) (length (all_of classes)) (place classes receiver)) refl e

-- what is selected is the private method itself or overrides the resolved one
pub selection_is : (classes : List Outline) (resolved id : MemberId) (receiver : ClassId) → select classes resolved receiver ≡ selected.Found id → IsSelection classes resolved receiver id
selection_is classes resolved id receiver e = by_method (method_at classes resolved) refl
  where
    itself : (r : Declaration) → method_at classes resolved ≡ Some r → (r.method.is_private || r.method.is_of_arrays) ≡ true → id ≡ resolved
    itself r m t =
        let is : selected.Found resolved ≡ selected.Found id = rw (m, t) at e in
        cc

    by_arrays : (r : Declaration) (b : Bool) → method_at classes resolved ≡ Some r → r.method.is_private ≡ false → r.method.is_of_arrays ≡ b → IsSelection classes resolved receiver id
    by_arrays r true m p t = record { method = r; declared = m; is = inl (itself r m (rw (p, t) refl), inr t) }
    by_arrays r false m p f = record { method = r; declared = m; is = inr (overriding_found classes r receiver id (rw (m, p, f) at e)) }

    by_private : (r : Declaration) (b : Bool) → method_at classes resolved ≡ Some r → r.method.is_private ≡ b → IsSelection classes resolved receiver id
    by_private r true m t = record { method = r; declared = m; is = inl (itself r m (rw t refl), inl t) }
    by_private r false m f = by_arrays r r.method.is_of_arrays m f refl

    by_method : (o : Option Declaration) → method_at classes resolved ≡ o → IsSelection classes resolved receiver id
    by_method None m = let no : selected.Abstract ≡ selected.Found id = rw m at e in cc
    by_method (Some r) m = by_private r r.method.is_private m refl

-- a field that is found is there
pub resolved_field_there : (classes : List Outline) (owner name descriptor : List ℕ) (id : MemberId) → Some id ≡ resolve_field classes owner name descriptor → IsFieldId classes id
resolved_field_there classes owner name descriptor id e =
    let is = field_inherited classes owner name descriptor id (sym e) in
    subst (λ (o : Option MemberOutline). IsSome o) (sym is.declared) refl
