-- Walks, and the lists of what is beyond a place.
use Rattle.std.proofs.Common.{◌≡◌, ℕ, zero, suc, ◌<◌, ◌≤◌, ◌⊎◌, Bool, true, false, ◌||◌, List, [], ◌∷◌, ◌++◌, length, eqb, flat_map, refl, sym, ◌∙◌, ap, subst, arith, inl, inr}
use Rattle.std.proofs.lemmas.Bool.{cases_Bool, eq-eqb, eqb-true, or_cases}
use Rattle.place_graph.specs.Graphs.{edges_of, is_among, Reaches, edge, further, walk, with_place, with_places, once, beyond}
use Rattle.place_graph.specs.Closing.{gathered}
use Rattle.place_graph.proofs.Marks.{is_among-append, or_true, or_false}

or_assoc : (a b c : Bool) → ((a || b) || c) ≡ (a || (b || c))
or_assoc true b c = refl
or_assoc false b c = refl

pub with_places-append : (found xs ys : List ℕ) → with_places found (xs ++ ys) ≡ with_places (with_places found xs) ys
with_places-append found [] ys = refl
with_places-append found (x ∷ xs) ys = with_places-append (with_place found x) xs ys

pub is_among-with_place : (x : ℕ) (found : List ℕ) (y : ℕ) → is_among x (with_place found y) ≡ (is_among x found || eqb y x)
is_among-with_place x found y = elim (cases_Bool (is_among y found)) [
  | inl t ↦ rw t (there (cases_Bool (eqb y x)) t)
  | inr f ↦ rw f (is_among-append x found (y ∷ []) ∙ ap (λ b. is_among x found || b) (or_false (eqb y x)))
]
  where
    there : (eqb y x ≡ true) ⊎ (eqb y x ≡ false) → is_among y found ≡ true → is_among x found ≡ (is_among x found || eqb y x)
    there (inl e) t =
        let is : is_among x found ≡ true = subst (λ (z : ℕ). is_among z found ≡ true) (eqb-true y x e) t in
        rw is refl
    there (inr e) t = rw e (sym (or_false (is_among x found)))

pub is_among-with_places : (x : ℕ) (found ys : List ℕ) → is_among x (with_places found ys) ≡ (is_among x found || is_among x ys)
is_among-with_places x found [] = sym (or_false (is_among x found))
is_among-with_places x found (y ∷ ys) =
    is_among-with_places x (with_place found y) ys ∙ ap (λ b. b || is_among x ys) (is_among-with_place x found y)
    ∙ or_assoc (is_among x found) (eqb y x) (is_among x ys)

pub is_among-once : (x : ℕ) (ys : List ℕ) → is_among x (once ys) ≡ is_among x ys
is_among-once x ys = is_among-with_places x [] ys

added_last : (found b : List ℕ) (y : ℕ) → with_places found (with_place b y) ≡ with_place (with_places found b) y
added_last found b y = elim (cases_Bool (is_among y b)) [
  | inl t ↦
      let is : is_among y (with_places found b) ≡ true = is_among-with_places y found b ∙ (rw t (or_true (is_among y found))) in
      rw (t, is) refl
  | inr f ↦ rw f (with_places-append found b (y ∷ []))
]

-- adding a list whose doubles were left out adds the list
pub with_places-once : (found b ys : List ℕ) → with_places found (with_places b ys) ≡ with_places (with_places found b) ys
with_places-once found b [] = refl
with_places-once found b (y ∷ ys) = with_places-once found (with_place b y) ys ∙ ap (λ xs. with_places xs ys) (added_last found b y)

pub flat_map_agree : (f g : ℕ → List ℕ) (xs : List ℕ) → ((x : ℕ) → is_among x xs ≡ true → f x ≡ g x) → flat_map f xs ≡ flat_map g xs
flat_map_agree f g [] h = refl
flat_map_agree f g (x ∷ xs) h =
    let here : f x ≡ g x = h x (rw (eq-eqb x x refl) refl) in
    let rest : flat_map f xs ≡ flat_map g xs = flat_map_agree f g xs (λ y t. h y (rw t (or_true (eqb x y)))) in
    rw (here, rest) refl

-- ranks by which the edges of a ranked place lead to ranked places of lesser rank
pub record IsRanking (graph : List (List ℕ)) (rank : ℕ → ℕ) : Type 0 where
  pub ranked : (place next : ℕ) → 0 < rank place → is_among next (edges_of graph place) ≡ true → 0 < rank next
  pub lower : (place next : ℕ) → 0 < rank place → is_among next (edges_of graph place) ≡ true → rank next < rank place

walk_more : (n : ℕ) (graph : List (List ℕ)) (place : ℕ) → walk (suc n) graph place ≡ place ∷ flat_map (walk n graph) (edges_of graph place)
unfolding walk
walk_more n graph place = refl

-- A depth of the rank suffices.
pub walk_same : (graph : List (List ℕ)) (rank : ℕ → ℕ) → IsRanking graph rank → (f g place : ℕ) → 0 < rank place → rank place ≤ f → rank place ≤ g
    → walk f graph place ≡ walk g graph place
walk_same graph rank is zero g place some low high = absurd (omega (arith, some, low))
walk_same graph rank is (suc f) zero place some low high = absurd (omega (arith, some, high))
walk_same graph rank is (suc f) (suc g) place some low high =
    let rest : flat_map (walk f graph) (edges_of graph place) ≡ flat_map (walk g graph) (edges_of graph place) =
    flat_map_agree (walk f graph) (walk g graph) (edges_of graph place) (λ next t.
    let less : rank next < rank place = is.lower place next some t in
    walk_same graph rank is f g next (is.ranked place next some t) (omega (arith, less, low)) (omega (arith, less, high))) in
    walk_more f graph place ∙ ap (λ xs. place ∷ xs) rest ∙ sym (walk_more g graph place)

-- with a depth that suffices a walk is the place and what is beyond it
pub walk_on : (graph : List (List ℕ)) (rank : ℕ → ℕ) → IsRanking graph rank → (n place : ℕ) → 0 < rank place → rank place ≤ n
    → walk n graph place ≡ place ∷ flat_map (walk n graph) (edges_of graph place)
walk_on graph rank is n place some small = walk_same graph rank is n (suc n) place some small (omega (arith, small)) ∙ walk_more n graph place

beyond_is : (graph : List (List ℕ)) (place : ℕ) → beyond graph place ≡ once (flat_map (walk (length graph) graph) (edges_of graph place))
unfolding beyond
beyond_is graph place = refl

pub gathered_is : (graph above : List (List ℕ)) (rank : ℕ → ℕ) → IsRanking graph rank → (found places : List ℕ)
    → ((x : ℕ) → is_among x places ≡ true → (0 < rank x) × (rank x ≤ length graph) × (edges_of above x ≡ beyond graph x))
    → gathered above found places ≡ with_places found (flat_map (walk (length graph) graph) places)
gathered_is graph above rank is found [] h = refl
gathered_is graph above rank is found (x ∷ xs) h =
    let at = h x (rw (eq-eqb x x refl) refl) in
    let later : List ℕ = flat_map (walk (length graph) graph) (edges_of graph x) in
    let here : with_places (with_place found x) (edges_of above x) ≡ with_places found (walk (length graph) graph x) =
    ap (with_places (with_place found x)) (at.2 ∙ beyond_is graph x) ∙ with_places-once (with_place found x) [] later
    ∙ sym (ap (with_places found) (walk_on graph rank is (length graph) x at.0 at.1)) in
    gathered_is graph above rank is (with_places (with_place found x) (edges_of above x)) xs (λ y t. h y (rw t (or_true (eqb x y))))
    ∙ ap (λ b. with_places b (flat_map (walk (length graph) graph) xs)) here
    ∙ sym (with_places-append found (walk (length graph) graph x) (flat_map (walk (length graph) graph) xs))

pub beyond_from : (graph above : List (List ℕ)) (rank : ℕ → ℕ) → IsRanking graph rank → (place : ℕ)
    → ((x : ℕ) → is_among x (edges_of graph place) ≡ true → (0 < rank x) × (rank x ≤ length graph) × (edges_of above x ≡ beyond graph x))
    → gathered above [] (edges_of graph place) ≡ beyond graph place
beyond_from graph above rank is place h = gathered_is graph above rank is [] (edges_of graph place) h ∙ sym (beyond_is graph place)

-- what stands in a list of lists
pub among_flat_map : (f : ℕ → List ℕ) (x y : ℕ) (ys : List ℕ) → is_among y ys ≡ true → is_among x (f y) ≡ true → is_among x (flat_map f ys) ≡ true
among_flat_map f x y [] t u = cc
among_flat_map f x y (z ∷ ys) t u = elim (or_cases (eqb z y) (is_among y ys) t) [
  | inl e ↦
      let is : is_among x (f z) ≡ true = subst (λ (w : ℕ). is_among x (f w) ≡ true) (sym (eqb-true z y e)) u in
      is_among-append x (f z) (flat_map f ys) ∙ rw is refl
  | inr e ↦ is_among-append x (f z) (flat_map f ys) ∙ rw (among_flat_map f x y ys e u) (or_true (is_among x (f z)))
]

pub from_flat_map : (f : ℕ → List ℕ) (x : ℕ) (ys : List ℕ) → is_among x (flat_map f ys) ≡ true → (y : ℕ) × (is_among y ys ≡ true) × (is_among x (f y) ≡ true)
from_flat_map f x [] t = cc
from_flat_map f x (y ∷ ys) t = elim (or_cases (is_among x (f y)) (is_among x (flat_map f ys)) (sym (is_among-append x (f y) (flat_map f ys)) ∙ t)) [
  | inl e ↦ (y, rw (eq-eqb y y refl) refl, e)
  | inr e ↦ let found = from_flat_map f x ys e in (found.0, rw found.1 (or_true (eqb y found.0)), found.2)
]

-- What a walk comes to is the place itself or is reached from it.
pub walk_reaches : (graph : List (List ℕ)) (n place x : ℕ) → is_among x (walk n graph place) ≡ true → (place ≡ x) ⊎ Reaches graph place x
unfolding walk
walk_reaches graph zero place x t = cc
walk_reaches graph (suc n) place x t = elim (or_cases (eqb place x) (is_among x (flat_map (walk n graph) (edges_of graph place))) t) [
  | inl e ↦ inl (eqb-true place x e)
  | inr e ↦
      let found = from_flat_map (walk n graph) x (edges_of graph place) e in
      inr (elim (walk_reaches graph n found.0 x found.2) [
        | inl same ↦ edge place x (subst (λ (y : ℕ). is_among y (edges_of graph place) ≡ true) same found.1)
        | inr r ↦ further place found.0 x found.1 r
      ])
]

-- What is beyond a place is what is reached from it.
pub beyond_reaches : (graph : List (List ℕ)) (place x : ℕ) → is_among x (beyond graph place) ≡ true → Reaches graph place x
beyond_reaches graph place x t =
    let is : is_among x (flat_map (walk (length graph) graph) (edges_of graph place)) ≡ true =
    sym (ap (is_among x) (beyond_is graph place) ∙ is_among-once x (flat_map (walk (length graph) graph) (edges_of graph place))) ∙ t in
    let found = from_flat_map (walk (length graph) graph) x (edges_of graph place) is in
    elim (walk_reaches graph (length graph) found.0 x found.2) [
      | inl same ↦ edge place x (subst (λ (y : ℕ). is_among y (edges_of graph place) ≡ true) same found.1)
      | inr r ↦ further place found.0 x found.1 r
    ]

walked_all : (graph : List (List ℕ)) (rank : ℕ → ℕ) → IsRanking graph rank → ((p : ℕ) → rank p ≤ length graph) → (place x : ℕ) → 0 < rank place → Reaches graph place x
    → is_among x (flat_map (walk (length graph) graph) (edges_of graph place)) ≡ true
walked_all graph rank is small place x some (edge a b t) =
    among_flat_map (walk (length graph) graph) b b (edges_of graph a) t
    (rw (walk_on graph rank is (length graph) b (is.ranked a b some t) (small b)) (rw (eq-eqb b b refl) refl))
walked_all graph rank is small place x some (further a b c t r) =
    among_flat_map (walk (length graph) graph) c b (edges_of graph a) t
    (rw (walk_on graph rank is (length graph) b (is.ranked a b some t) (small b))
    (rw (walked_all graph rank is small b c (is.ranked a b some t) r) (or_true (eqb b c))))

pub reaches_beyond : (graph : List (List ℕ)) (rank : ℕ → ℕ) → IsRanking graph rank → ((p : ℕ) → rank p ≤ length graph) → (place x : ℕ) → 0 < rank place → Reaches graph place x
    → is_among x (beyond graph place) ≡ true
reaches_beyond graph rank is small place x some r =
    ap (is_among x) (beyond_is graph place) ∙ is_among-once x (flat_map (walk (length graph) graph) (edges_of graph place)) ∙ walked_all graph rank is small place x some r

-- What is reached has a lesser rank, so no path returns.
pub reaches_lower : (graph : List (List ℕ)) (rank : ℕ → ℕ) → IsRanking graph rank → (a b : ℕ) → 0 < rank a → Reaches graph a b → rank b < rank a
reaches_lower graph rank is a b some (edge p q t) = is.lower p q some t
reaches_lower graph rank is a b some (further p q r t more) =
    let less : rank q < rank p = is.lower p q some t in
    omega (arith, less, reaches_lower graph rank is q r (is.ranked p q some t) more)
