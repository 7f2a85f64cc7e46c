-- Look-ups of places by name, and the graph of the hierarchy.
use Rattle.std.proofs.Common.{◌≡◌, ℕ, ◌+◌, ◌<◌, Bool, true, false, cond, List, [], ◌∷◌, length, map, get_or, drop, Option, Some, None, option_and_then, refl, sym, ◌∙◌, ap, subst, arith, inl, inr}
use Rattle.std.specs.Str.{bytes_eq}
use Rattle.std.specs.Option.{option_to_list}
use Rattle.std.specs.List.{All, filter_map, position_from}
use Rattle.std.specs.Prelude.{Vec}
use Rattle.std.specs.BTreeMap.{BTreeMap, UpdatesBy}
use Rattle.std.specs.Map.{KeepsOthers, IsKeyTest, AreApart, lookup}
use Rattle.std.specs.Cmp.{eq_by_cmp_equiv}
use Rattle.std.specs.Cmp.Lexicographic.{slice_cmp, nat_list_cmp_total, nat_list_eq_equiv}
use Rattle.std.specs.Ordering.{nat_cmp, is_eq}
use Rattle.std.proofs.lemmas.Slice.Eq.{bytes_eq-Decides}
use Rattle.std.proofs.lemmas.Bool.{cases_Bool}
use Rattle.std.proofs.lemmas.List.{drop_more, length-map}
use Rattle.std.proofs.lemmas.List.Elements.{All-nil, All-cons, All-append}
use Rattle.std.proofs.lemmas.Map.Text.{is_eq-slice_cmp}
use Rattle.place_graph.specs.Graphs.{AreWithin, IsGraph}
use Rattle.class_index.specs.declared.outline.Outline.{Outline}
use Rattle.class_index.specs.Hierarchy.{names, place_of, super_by, directs_by, supers, hierarchy}
use Rattle.class_index.specs.Places.{IsPlaces, place_in}

other_entries : {K X : Type 0} (eq : K → K → Bool) (test : K → Bool) (old new : List (K × X)) → KeepsOthers eq test old new → (other : K → Bool) → IsKeyTest eq other → AreApart test other
    → lookup other new ≡ lookup other old
unfolding KeepsOthers
other_entries eq test old new h = h

apart : (name q key : List ℕ) → bytes_eq name q ≡ false → is_eq (slice_cmp nat_cmp name key) ≡ true → is_eq (slice_cmp nat_cmp q key) ≡ false
apart name q key n y =
    is_eq-slice_cmp q key ∙ nat_list_eq_equiv.symm q key ∙ sym (nat_list_eq_equiv.congr name key q (sym (is_eq-slice_cmp name key) ∙ y)) ∙ n

-- what a map has at each name after a name was entered
pub entered : {A : Type 0} (name : List ℕ) (old new : BTreeMap (Vec ℕ A) ℕ) (at : ℕ)
    → UpdatesBy (λ x y. slice_cmp nat_cmp x.items y.items) (λ k. slice_cmp nat_cmp name k.items) old new (Some at)
    → (q : List ℕ) → place_in new q ≡ cond (bytes_eq name q) (Some at) (place_in old q)
entered name old new at h q = elim (cases_Bool (bytes_eq name q)) [
  | inl y ↦
      let same : name ≡ q = (bytes_eq-Decides name q).0 y in
      let here : place_in new q ≡ Some at = subst (λ (l : List ℕ). place_in new l ≡ Some at) same h.1 in
      here ∙ sym (ap (λ b. cond b (Some at) (place_in old q)) y)
  | inr n ↦
      let kept : place_in new q ≡ place_in old q =
      other_entries _ _ _ _ h.3 _ (λ x y. (eq_by_cmp_equiv nat_list_cmp_total).congr q x.items y.items) (λ k. apart name q k.items n) in
      kept ∙ sym (ap (λ b. cond b (Some at) (place_in old q)) n)
]

-- the look-ups after one more name, in front, was entered
pub places_more : (names : List (List ℕ)) (at : ℕ) (name : List ℕ) (old new : List ℕ → Option ℕ) → at < length names → name ≡ get_or names at []
    → ((q : List ℕ) → new q ≡ cond (bytes_eq name q) (Some at) (old q)) → IsPlaces (at + 1) (drop (at + 1) names) old → IsPlaces at (drop at names) new
places_more names at name old new within is enters before q =
    let split : drop at names ≡ name ∷ drop (at + 1) names = drop_more names at [] within ∙ ap (λ (n : List ℕ). n ∷ drop (at + 1) names) (sym is) in
    let test : bytes_eq name q ≡ bytes_eq q name = nat_list_eq_equiv.symm name q in
    enters q ∙ ap (λ b. cond b (Some at) (old q)) test ∙ ap (λ o. cond (bytes_eq q name) (Some at) o) (before q)
    ∙ sym (ap (position_from (bytes_eq q) at) split)

pub position_within : (t : List ℕ → Bool) (from : ℕ) (xs : List (List ℕ)) (n : ℕ) → position_from t from xs ≡ Some n → n < from + length xs
position_within t from [] n e = cc
position_within t from (x ∷ xs) n e = elim (cases_Bool (t x)) [
  | inl y ↦ let here : Some from ≡ Some n = sym (rw y refl) ∙ e in let same : from ≡ n = cc in omega (arith, same)
  | inr f ↦ let later : position_from t (from + 1) xs ≡ Some n = sym (rw f refl) ∙ e in omega (arith, position_within t (from + 1) xs n later)
]

filter_map_agree : (f g : List ℕ → Option ℕ) (xs : List (List ℕ)) → ((x : List ℕ) → f x ≡ g x) → filter_map f xs ≡ filter_map g xs
filter_map_agree f g [] h = refl
filter_map_agree f g (x ∷ xs) h = rw (h x, filter_map_agree f g xs h) refl

pub super_agree : (f g : List ℕ → Option ℕ) (o : Outline) → ((x : List ℕ) → f x ≡ g x) → super_by f o ≡ super_by g o
super_agree f g o h = go o.super_class
  where
    go : (s : Option (List ℕ)) → option_and_then f s ≡ option_and_then g s
    go None = refl
    go (Some x) = h x

directs_agree : (f g : List ℕ → Option ℕ) (o : Outline) → ((x : List ℕ) → f x ≡ g x) → directs_by f o ≡ directs_by g o
directs_agree f g o h = rw (filter_map_agree f g o.interfaces h, super_agree f g o h) refl

pub all_supers : (f g : List ℕ → Option ℕ) (all : List Outline) → ((x : List ℕ) → f x ≡ g x) → map (super_by f) all ≡ map (super_by g) all
all_supers f g [] h = refl
all_supers f g (o ∷ all) h = rw (super_agree f g o h, all_supers f g all h) refl

pub all_directs : (f g : List ℕ → Option ℕ) (all : List Outline) → ((x : List ℕ) → f x ≡ g x) → map (directs_by f) all ≡ map (directs_by g) all
all_directs f g [] h = refl
all_directs f g (o ∷ all) h = rw (directs_agree f g o h, all_directs f g all h) refl

one_more : (n : ℕ) (find : List ℕ → Option ℕ) (x : List ℕ) (xs : List (List ℕ)) → ((y : List ℕ) (p : ℕ) → find y ≡ Some p → p < n) → AreWithin n (filter_map find xs) → AreWithin n (filter_map find (x ∷ xs))
one_more n find x xs h rest = go (find x) refl
  where
    go : (o : Option ℕ) → find x ≡ o → AreWithin n (filter_map find (x ∷ xs))
    go None e = rw e rest
    go (Some p) e = rw e (All-cons (λ q. q < n) p (filter_map find xs) (h x p e) rest)

filter_map_within : (n : ℕ) (find : List ℕ → Option ℕ) (xs : List (List ℕ)) → ((x : List ℕ) (p : ℕ) → find x ≡ Some p → p < n) → AreWithin n (filter_map find xs)
filter_map_within n find [] h = All-nil (λ p. p < n)
filter_map_within n find (x ∷ xs) h = one_more n find x xs h (filter_map_within n find xs h)

super_within : (n : ℕ) (find : List ℕ → Option ℕ) (s : Option (List ℕ)) → ((x : List ℕ) (p : ℕ) → find x ≡ Some p → p < n) → AreWithin n (option_to_list (option_and_then find s))
super_within n find None h = All-nil (λ p. p < n)
super_within n find (Some x) h = go (find x) refl
  where
    go : (o : Option ℕ) → find x ≡ o → AreWithin n (option_to_list (find x))
    go None e = rw e (All-nil (λ p. p < n))
    go (Some p) e = rw e (All-cons (λ q. q < n) p [] (h x p e) (All-nil (λ q. q < n)))

pub place_within : (all : List Outline) (x : List ℕ) (p : ℕ) → place_of (names all) x ≡ Some p → p < length all
place_within all x p e = omega (arith, position_within (bytes_eq x) 0 (names all) p e, length-map all (λ (o : Outline). o.name))

directs_within : (all : List Outline) (o : Outline) → AreWithin (length all) (directs_by (place_of (names all)) o)
directs_within all o =
    All-append (λ p. p < length all) (filter_map (place_of (names all)) o.interfaces) (option_to_list (super_by (place_of (names all)) o))
    (filter_map_within (length all) (place_of (names all)) o.interfaces (place_within all)) (super_within (length all) (place_of (names all)) o.super_class (place_within all))

rows_within : (n : ℕ) (f : Outline → List ℕ) (os : List Outline) → ((o : Outline) → AreWithin n (f o)) → All (AreWithin n) (map f os)
rows_within n f [] h = All-nil (AreWithin n)
rows_within n f (o ∷ os) h = All-cons (AreWithin n) (f o) (map f os) (h o) (rows_within n f os h)

hierarchy_is : (all : List Outline) → hierarchy all ≡ map (directs_by (place_of (names all))) all
unfolding hierarchy
hierarchy_is all = refl

pub length-hierarchy : (all : List Outline) → length (hierarchy all) ≡ length all
length-hierarchy all = ap length (hierarchy_is all) ∙ length-map all (directs_by (place_of (names all)))

pub hierarchy_graph : (all : List Outline) → IsGraph (hierarchy all)
hierarchy_graph all =
    let n : length (hierarchy all) ≡ length all = length-hierarchy all in
    let within : All (AreWithin (length all)) (hierarchy all) =
    rw (hierarchy_is all) (rows_within (length all) (directs_by (place_of (names all))) all (directs_within all)) in
    subst (λ (m : ℕ). All (AreWithin m) (hierarchy all)) (sym n) within

-- what was built by the map of places is the hierarchy
pub built_hierarchy : (all : List Outline) (find : List ℕ → Option ℕ) (graph : List (List ℕ)) → IsPlaces 0 (names all) find → graph ≡ map (directs_by find) all → graph ≡ hierarchy all
built_hierarchy all find graph is e = e ∙ all_directs find (place_of (names all)) all is ∙ sym (hierarchy_is all)

pub built_supers : (all : List Outline) (find : List ℕ → Option ℕ) (found : List (Option ℕ)) → IsPlaces 0 (names all) find → found ≡ map (super_by find) all → found ≡ supers all
built_supers all find found is e = e ∙ all_supers find (place_of (names all)) all is
