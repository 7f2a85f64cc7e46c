-- What is looked for in a class and above it is found there.
use Rattle.std.proofs.Common.{◌≡◌, ℕ, zero, suc, ◌⊎◌, ◌||◌, Bool, true, false, eqb, List, [], ◌∷◌, ◌++◌, length, map, get_or, Option, Some, None, option_and_then, refl, sym, ◌∙◌, ap, subst, inl, inr}
use Rattle.std.specs.List.{filter_map}
use Rattle.std.proofs.lemmas.Bool.{cases_Bool, or_parts, or_left, or_right, eq-eqb}
use Rattle.place_graph.specs.Graphs.{edges_of, is_among, Reaches, edge, further}
use Rattle.place_graph.proofs.Walks.{beyond_reaches}
use Rattle.class_index.specs.declared.outline.Outline.{Outline}
use Rattle.class_index.specs.declared.members.Method.{Method}
use Rattle.class_index.specs.declared.members.Wanted.TheVariants.{Any, Overriding}
use Rattle.class_index.specs.declared.lookup.Found.{Found}
use Rattle.class_index.specs.declared.lookup.Choice.{Choice}
use Rattle.class_index.specs.declared.lookup.Choice.TheVariants.{Nothing, One, Many}
use Rattle.class_index.specs.Hierarchy.{names, place_of, super_by, directs_by, supers, hierarchy}
use Rattle.class_index.specs.Members.{declared, if_wanted, wanted_method}
use Rattle.class_index.specs.Lookups.{found_at, super_at, nearest, is_interface, in_interface, is_beaten, if_concrete, specific, choice_of, most_specific, first_in, the_one, or_found, or_further, resolved}
use Rattle.class_index.specs.Resolution.{above}
use Rattle.class_index.proofs.Listings.{chained, from_filter_map}

-- a place itself, or one that a chain leads to
abbrev pub IsUp : List Outline → ℕ → ℕ → Type 0
IsUp all low high = (low ≡ high) ⊎ Reaches (hierarchy all) low high

last_among : (x : ℕ) (xs : List ℕ) → is_among x (xs ++ x ∷ []) ≡ true
last_among x [] = or_left (eqb x x) false (eq-eqb x x refl)
last_among x (y ∷ ys) = or_right (eqb y x) (is_among x (ys ++ x ∷ [])) (last_among x ys)

super_is_direct : (find : List ℕ → Option ℕ) (o : Outline) (next : ℕ) → super_by find o ≡ Some next → is_among next (directs_by find o) ≡ true
super_is_direct find o next e = rw e (last_among next (filter_map find o.interfaces))

super_in_rows : (find : List ℕ → Option ℕ) (os : List Outline) (place next : ℕ) → get_or (map (super_by find) os) place None ≡ Some next → is_among next (get_or (map (directs_by find) os) place []) ≡ true
super_in_rows find [] place next e = cc
super_in_rows find (o ∷ os) zero next e = super_is_direct find o next e
super_in_rows find (o ∷ os) (suc place) next e = super_in_rows find os place next e

-- an edge leads to the superclass
super_edge : (all : List Outline) (place next : ℕ) → super_at (supers all) place ≡ Some next → is_among next (edges_of (hierarchy all) place) ≡ true
unfolding hierarchy
super_edge all place next e = super_in_rows (place_of (names all)) all place next e

up_from : (all : List Outline) (place next high : ℕ) → is_among next (edges_of (hierarchy all) place) ≡ true → IsUp all next high → IsUp all place high
up_from all place next high t (inl e) = inr (subst (λ (p : ℕ). Reaches (hierarchy all) place p) e (edge place next t))
up_from all place next high t (inr r) = inr (further place next high t r)

-- a method that was found: where, and that it is found there
pub record IsFoundAt (find : ℕ → Option Method) (all : List Outline) (low : ℕ) (f : Found) : Type 0 where
  pub found : find f.place ≡ Some f.method
  pub up : IsUp all low f.place

nearest_next : (find : ℕ → Option Method) (all : List Outline) (n place : ℕ) (f : Found) (o : Option Method) → find place ≡ o
    → ((next : ℕ) → nearest find (supers all) n next ≡ Some f → IsFoundAt find all next f)
    → or_further place o (option_and_then (nearest find (supers all) n) (super_at (supers all) place)) ≡ Some f → IsFoundAt find all place f
nearest_next find all n place f (Some m) g later e =
    let same : found_at place m ≡ f = cc in
    subst (IsFoundAt find all place) same (record { found = g; up = inl refl })
nearest_next find all n place f None g later e =
    let next = chained (nearest find (supers all) n) (super_at (supers all) place) f e in
    let there = later next.0 next.2 in
    record { found = there.found; up = up_from all place next.0 f.place (super_edge all place next.0 next.1) there.up }

pub nearest_at : (find : ℕ → Option Method) (all : List Outline) (n place : ℕ) (f : Found) → nearest find (supers all) n place ≡ Some f → IsFoundAt find all place f
unfolding nearest
nearest_at find all zero place f e = cc
nearest_at find all (suc n) place f e = nearest_next find all n place f (find place) refl (λ next r. nearest_at find all n next f r) e

any_is : (own : ℕ) (all : List Outline) (name descriptor : List ℕ) (place : ℕ) (m : Method) → wanted_method own all name descriptor Any place ≡ Some m → declared own all name descriptor place ≡ Some m
any_is own all name descriptor place m e =
    let found = chained (if_wanted Any) (declared own all name descriptor place) m e in found.1 ∙ found.2

-- a method that can override
pub record CanOverride (own : ℕ) (all : List Outline) (name descriptor : List ℕ) (place : ℕ) (m : Method) : Type 0 where
  pub declared : declared own all name descriptor place ≡ Some m
  pub is_private : m.is_private ≡ false
  pub is_static : m.is_static ≡ false

pub overriding_is : (own : ℕ) (all : List Outline) (name descriptor : List ℕ) (place : ℕ) (m : Method) → wanted_method own all name descriptor Overriding place ≡ Some m → CanOverride own all name descriptor place m
overriding_is own all name descriptor place m e =
    let found = chained (if_wanted Overriding) (declared own all name descriptor place) m e in
    elim (cases_Bool (found.0.is_private || found.0.is_static)) [
      | inl t ↦ let no : None ≡ Some m = rw t at found.2 in cc
      | inr f ↦
          let is : Some found.0 ≡ Some m = rw f at found.2 in
          let same : found.0 ≡ m = cc in
          let parts = or_parts found.0.is_private found.0.is_static f in
          subst (CanOverride own all name descriptor place) same (record { declared = found.1; is_private = parts.0; is_static = parts.1 })
    ]

pub interface_is : (own : ℕ) (all : List Outline) (name descriptor : List ℕ) (place : ℕ) (m : Method) → in_interface own all name descriptor place ≡ Some m → CanOverride own all name descriptor place m
interface_is own all name descriptor place m e = elim (cases_Bool (is_interface all place)) [
  | inl t ↦ overriding_is own all name descriptor place m (rw t at e)
  | inr f ↦ let no : None ≡ Some m = rw f at e in cc
]

one_specific : (place : ℕ) (beaten : Bool) (o : Option Method) (f : Found) → if_concrete place beaten o ≡ Some f → (o ≡ Some f.method) × (place ≡ f.place) × (f.method.is_abstract ≡ false)
one_specific place beaten None f e = cc
one_specific place beaten (Some m) f e = elim (cases_Bool (m.is_abstract || beaten)) [
  | inl t ↦ let no : None ≡ Some f = rw t at e in cc
  | inr g ↦
      let is : Some (found_at place m) ≡ Some f = rw g at e in
      let same : found_at place m ≡ f = cc in (
        ap (λ (x : Found). Some x.method) same,
        ap (λ (x : Found). x.place) same,
        subst (λ (x : Found). x.method.is_abstract ≡ false) same (or_parts m.is_abstract beaten g).0,
      )
]

choice_one : (xs : List Found) (f : Found) → choice_of xs ≡ One f → xs ≡ f ∷ []
choice_one [] f e = cc
choice_one (x ∷ []) f e = let same : x ≡ f = cc in ap (λ (y : Found). y ∷ []) same
choice_one (x ∷ y ∷ xs) f e = cc

-- a maximally-specific method is found among what is above, and isn't abstract
pub specific_at : (find : ℕ → Option Method) (all : List Outline) (place : ℕ) (f : Found) → most_specific find (above all) (above all place) ≡ One f → IsFoundAt find all place f × (f.method.is_abstract ≡ false)
specific_at find all place f e =
    let others = above all place in
    let given = from_filter_map (specific find (above all) others) others f [] (choice_one (filter_map (specific find (above all) others) others) f e) in
    let is = one_specific given.0 (is_beaten find (above all) given.0 others) (find given.0) f given.2 in
    let here : IsUp all place given.0 = inr (beyond_reaches (hierarchy all) place given.0 given.1) in (
      record { found = ap find (sym is.1) ∙ is.0; up = subst (IsUp all place) is.1 here },
      is.2,
    )

first_next : (find : ℕ → Option Method) (place : ℕ) (places : List ℕ) (f : Found) (o : Option Method) → find place ≡ o
    → (first_in find places ≡ Some f → (find f.place ≡ Some f.method) × (is_among f.place places ≡ true))
    → or_further place o (first_in find places) ≡ Some f → (find f.place ≡ Some f.method) × (is_among f.place (place ∷ places) ≡ true)
first_next find place places f (Some m) g later e =
    let same : found_at place m ≡ f = cc in
    subst (λ (x : Found). (find x.place ≡ Some x.method) × (is_among x.place (place ∷ places) ≡ true)) same
    (g, or_left (eqb place place) (is_among place places) (eq-eqb place place refl))
first_next find place places f None g later e =
    let there = later e in (there.0, or_right (eqb place f.place) (is_among f.place places) there.1)

first_at : (find : ℕ → Option Method) (places : List ℕ) (f : Found) → first_in find places ≡ Some f → (find f.place ≡ Some f.method) × (is_among f.place places ≡ true)
first_at find [] f e = cc
first_at find (place ∷ places) f e = first_next find place places f (find place) refl (first_at find places f) e

-- a method that is found in a class or above it
pub record IsClimbed (own : ℕ) (all : List Outline) (name descriptor : List ℕ) (low : ℕ) (f : Found) : Type 0 where
  pub declared : declared own all name descriptor f.place ≡ Some f.method
  pub up : IsUp all low f.place

climbed_first : (own : ℕ) (all : List Outline) (name descriptor : List ℕ) (place : ℕ) (f : Found) → first_in (in_interface own all name descriptor) (above all place) ≡ Some f → IsClimbed own all name descriptor place f
climbed_first own all name descriptor place f e =
    let first = first_at (in_interface own all name descriptor) (above all place) f e in
    record { declared = (interface_is own all name descriptor f.place f.method first.0).declared; up = inr (beyond_reaches (hierarchy all) place f.place first.1) }

climbed_specific : (own : ℕ) (all : List Outline) (name descriptor : List ℕ) (place : ℕ) (f : Found) → most_specific (in_interface own all name descriptor) (above all) (above all place) ≡ One f
    → IsClimbed own all name descriptor place f
climbed_specific own all name descriptor place f e =
    let is = specific_at (in_interface own all name descriptor) all place f e in
    record { declared = (interface_is own all name descriptor f.place f.method is.0.found).declared; up = is.0.up }

climbed_above : (own : ℕ) (all : List Outline) (name descriptor : List ℕ) (place : ℕ) (f : Found) (choice : Choice) → most_specific (in_interface own all name descriptor) (above all) (above all place) ≡ choice
    → the_one choice (first_in (in_interface own all name descriptor) (above all place)) ≡ Some f → IsClimbed own all name descriptor place f
climbed_above own all name descriptor place f Nothing g e = climbed_first own all name descriptor place f e
climbed_above own all name descriptor place f Many g e = climbed_first own all name descriptor place f e
climbed_above own all name descriptor place f (One x) g e =
    let same : x ≡ f = cc in climbed_specific own all name descriptor place f (g ∙ ap One same)

climbed_nearest : (own : ℕ) (all : List Outline) (name descriptor : List ℕ) (place : ℕ) (f : Found) (o : Option Found)
    → nearest (wanted_method own all name descriptor Any) (supers all) (length all) place ≡ o
    → or_found o (the_one (most_specific (in_interface own all name descriptor) (above all) (above all place)) (first_in (in_interface own all name descriptor) (above all place))) ≡ Some f
    → IsClimbed own all name descriptor place f
climbed_nearest own all name descriptor place f (Some x) g e =
    let there = nearest_at (wanted_method own all name descriptor Any) all (length all) place f (g ∙ e) in
    record { declared = any_is own all name descriptor f.place f.method there.found; up = there.up }
climbed_nearest own all name descriptor place f None g e =
    climbed_above own all name descriptor place f (most_specific (in_interface own all name descriptor) (above all) (above all place)) refl e

-- what a class has is declared there or above it
pub resolved_is : (own : ℕ) (all : List Outline) (name descriptor : List ℕ) (place : ℕ) (f : Found) → resolved own all (supers all) (above all) name descriptor place ≡ Some f
    → IsClimbed own all name descriptor place f
unfolding resolved
resolved_is own all name descriptor place f e =
    climbed_nearest own all name descriptor place f (nearest (wanted_method own all name descriptor Any) (supers all) (length all) place) refl e
