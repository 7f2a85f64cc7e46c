-- What look-ups in lists and tables find stands there.
use Rattle.std.proofs.Common.{◌≡◌, ℕ, zero, suc, ◌+◌, ◌<◌, List, [], ◌∷◌, ◌++◌, length, Option, Some, None, option_map, option_and_then, slice_get, true, ◌&&◌, eqb, refl, sym, ◌∙◌, ap, subst, arith, inl, inr}
use Rattle.std.specs.Str.{bytes_eq}
use Rattle.std.specs.List.{filter_map, position_from}
use Rattle.std.proofs.lemmas.Bool.{cases_Bool, and_parts, or_left, or_right, eq-eqb}
use Rattle.std.proofs.lemmas.Option.{slice_get_within, some_pair_parts}
use Rattle.std.proofs.lemmas.Slice.Eq.{bytes_eq-Decides}
use Rattle.jvm_tables.specs.Externals.{External, external_from}
use Rattle.jvm_tables.specs.Natives.{Native, is_native, native_from, stands_on}
use Rattle.place_graph.specs.Graphs.{is_among}
use Rattle.class_index.specs.declared.outline.MemberOutline.{MemberOutline}
use Rattle.class_index.specs.Members.{is_named, member_from}

pub mapped : {A B : Type 0} (f : A → B) (o : Option A) (y : B) → option_map f o ≡ Some y → (x : A) × (o ≡ Some x) × (f x ≡ y)
mapped f None y e = cc
mapped f (Some x) y e = let same : f x ≡ y = cc in (x, refl, same)

pub chained : {A B : Type 0} (f : A → Option B) (o : Option A) (y : B) → option_and_then f o ≡ Some y → (x : A) × (o ≡ Some x) × (f x ≡ Some y)
chained f None y e = cc
chained f (Some x) y e = (x, refl, e)

pub front : {X : Type 0} (xs ys : List X) (i : ℕ) → i < length xs → slice_get (xs ++ ys) i ≡ slice_get xs i
front [] ys i h = absurd (omega arith)
front (x ∷ xs) ys zero h = refl
front (x ∷ xs) ys (suc i) h = front xs ys i (omega arith)

pub back : {X : Type 0} (xs ys : List X) (i k : ℕ) → i ≡ length xs + k → slice_get (xs ++ ys) i ≡ slice_get ys k
back [] ys i k e = let same : i ≡ k = omega (arith, e) in ap (slice_get ys) same
back (x ∷ xs) ys zero k e = absurd (omega (arith, e))
back (x ∷ xs) ys (suc i) k e = back xs ys i k (omega (arith, e))

pub member_at : (from : ℕ) (name descriptor : List ℕ) (members : List MemberOutline) (at flags : ℕ) → Some (at, flags) ≡ member_from from name descriptor members
    → (k : ℕ) × (at ≡ from + k) × (m : MemberOutline) × (slice_get members k ≡ Some m) × (m.name ≡ name) × (m.descriptor ≡ descriptor) × (m.flags ≡ flags)
member_at from name descriptor [] at flags e = cc
member_at from name descriptor (m ∷ members) at flags e = elim (cases_Bool (is_named name descriptor m)) [
  | inl t ↦
      let here : ◌≡◌ {A = Option (ℕ × ℕ)} (Some (at, flags)) (Some (from, m.flags)) = e ∙ rw t refl in
      let same : (at ≡ from) × (flags ≡ m.flags) = some_pair_parts at from flags m.flags here in
      let parts = and_parts (bytes_eq m.name name) (bytes_eq m.descriptor descriptor) t in
      (0, omega (arith, same.0), m, refl, (bytes_eq-Decides m.name name).0 parts.0, (bytes_eq-Decides m.descriptor descriptor).0 parts.1, sym same.1)
  | inr f ↦
      let next = member_at (from + 1) name descriptor members at flags (e ∙ rw f refl) in
      (suc next.0, omega (arith, next.1), next.2, next.3, next.4, next.5, next.6)
]

-- a member that is found has its place in the list
pub member_within : (from : ℕ) (name descriptor : List ℕ) (members : List MemberOutline) (at flags : ℕ) → Some (at, flags) ≡ member_from from name descriptor members → at < from + length members
member_within from name descriptor members at flags e =
    let m = member_at from name descriptor members at flags e in
    omega (arith, m.1, slice_get_within members m.0 m.2 m.3)

pub native_at : (from : ℕ) (class name descriptor : List ℕ) (rows : List Native) (at : ℕ) (row : Native) → Some (at, row) ≡ native_from from class name descriptor rows
    → (k : ℕ) × (at ≡ from + k) × (slice_get rows k ≡ Some row) × (row.name ≡ name) × (row.descriptor ≡ descriptor) × (stands_on row.class row.family class ≡ true)
native_at from class name descriptor [] at row e = cc
native_at from class name descriptor (r ∷ rows) at row e = elim (cases_Bool (is_native class name descriptor r)) [
  | inl t ↦
      let here : ◌≡◌ {A = Option (ℕ × Native)} (Some (at, row)) (Some (from, r)) = e ∙ rw t refl in
      let same : (at ≡ from) × (row ≡ r) = some_pair_parts at from row r here in
      let parts = and_parts (bytes_eq r.name name && bytes_eq r.descriptor descriptor) (stands_on r.class r.family class) t in
      let texts = and_parts (bytes_eq r.name name) (bytes_eq r.descriptor descriptor) parts.0 in (
        0,
        omega (arith, same.0),
        ap Some (sym same.1),
        ap (λ (x : Native). x.name) same.1 ∙ (bytes_eq-Decides r.name name).0 texts.0,
        ap (λ (x : Native). x.descriptor) same.1 ∙ (bytes_eq-Decides r.descriptor descriptor).0 texts.1,
        subst (λ (x : Native). stands_on x.class x.family class ≡ true) (sym same.1) parts.1,
      )
  | inr f ↦
      let next = native_at (from + 1) class name descriptor rows at row (e ∙ rw f refl) in
      (suc next.0, omega (arith, next.1), next.2, next.3, next.4, next.5)
]

pub external_at : (from : ℕ) (class : List ℕ) (rows : List External) (at : ℕ) (row : External) → Some (at, row) ≡ external_from from class rows
    → (k : ℕ) × (at ≡ from + k) × (slice_get rows k ≡ Some row) × (row.class ≡ class)
external_at from class [] at row e = cc
external_at from class (r ∷ rows) at row e = elim (cases_Bool (bytes_eq r.class class)) [
  | inl t ↦
      let here : ◌≡◌ {A = Option (ℕ × External)} (Some (at, row)) (Some (from, r)) = e ∙ rw t refl in
      let same : (at ≡ from) × (row ≡ r) = some_pair_parts at from row r here in
      (0, omega (arith, same.0), ap Some (sym same.1), ap (λ (x : External). x.class) same.1 ∙ (bytes_eq-Decides r.class class).0 t)
  | inr f ↦
      let next = external_at (from + 1) class rows at row (e ∙ rw f refl) in
      (suc next.0, omega (arith, next.1), next.2, next.3)
]

pub position_at : (name : List ℕ) (from : ℕ) (xs : List (List ℕ)) (n : ℕ) → Some n ≡ position_from (bytes_eq name) from xs → (k : ℕ) × (n ≡ from + k) × (slice_get xs k ≡ Some name)
position_at name from [] n e = cc
position_at name from (x ∷ xs) n e = elim (cases_Bool (bytes_eq name x)) [
  | inl t ↦
      let here : Some n ≡ Some from = e ∙ rw t refl in
      let same : n ≡ from = cc in
      (0, omega (arith, same), ap Some (sym ((bytes_eq-Decides name x).0 t)))
  | inr f ↦
      let next = position_at name (from + 1) xs n (e ∙ rw f refl) in
      (suc next.0, omega (arith, next.1), next.2)
]

-- the first of what a list gives comes from one of its places
abbrev pub IsGiven : {Y : Type 0} → (ℕ → Option Y) → List ℕ → Y → Type 0
IsGiven g places y = (x : ℕ) × (is_among x places ≡ true) × (g x ≡ Some y)

pub given_later : {Y : Type 0} (g : ℕ → Option Y) (place : ℕ) (places : List ℕ) (y : Y) → IsGiven g places y → IsGiven g (place ∷ places) y
given_later g place places y given = (given.0, or_right (eqb place given.0) (is_among given.0 places) given.1, given.2)

pub given_here : {Y : Type 0} (g : ℕ → Option Y) (place : ℕ) (places : List ℕ) (y : Y) → g place ≡ Some y → IsGiven g (place ∷ places) y
given_here g place places y e = (place, or_left (eqb place place) (is_among place places) (eq-eqb place place refl), e)

given_next : {Y : Type 0} (g : ℕ → Option Y) (place : ℕ) (places : List ℕ) (y : Y) (ys : List Y) (o : Option Y) → g place ≡ o → (filter_map g places ≡ y ∷ ys → IsGiven g places y)
    → filter_map g (place ∷ places) ≡ y ∷ ys → IsGiven g (place ∷ places) y
given_next g place places y ys None f later e = given_later g place places y (later (rw f at e))
given_next g place places y ys (Some z) f later e =
    let here : z ∷ filter_map g places ≡ y ∷ ys = rw f at e in
    let same : z ≡ y = cc in
    given_here g place places y (f ∙ ap Some same)

pub from_filter_map : {Y : Type 0} (g : ℕ → Option Y) (places : List ℕ) (y : Y) (ys : List Y) → filter_map g places ≡ y ∷ ys → IsGiven g places y
from_filter_map g [] y ys e = cc
from_filter_map g (place ∷ places) y ys e = given_next g place places y ys (g place) refl (from_filter_map g places y ys) e
