-- Places from which nothing new is reached.
use Rattle.std.proofs.Common.{◌≡◌, ℕ, ◌<◌, ◌⊎◌, true, false, ◌||◌, List, [], ◌∷◌, length, get_or, eqb, refl, sym, ◌∙◌, ap, subst, inl, inr}
use Rattle.std.specs.Prelude.{Result, Ok, Err, OnOk}
use Rattle.std.proofs.lemmas.Bool.{eq-eqb, eqb-true, or_cases}
use Rattle.place_graph.specs.Graphs.{edges_of, is_among, Reaches, edge, further, AreWithin, with_place, with_places, beyond}
use Rattle.place_graph.specs.Closing.{IsMarking, IsFull, IsListed, IsClosing}
use Rattle.place_graph.proofs.Marks.{or_true, or_false}
use Rattle.place_graph.proofs.Walks.{is_among-with_place, is_among-with_places, beyond_reaches, reaches_beyond}
use Rattle.place_graph.proofs.Searched.{reaches_on, among_within}
use Rattle.place_graph.proofs.Settled.{rank_of, ranking, rank_small}

with_places_same : (found ys : List ℕ) → ((z : ℕ) → is_among z ys ≡ true → is_among z found ≡ true) → with_places found ys ≡ found
with_places_same found [] h = refl
with_places_same found (y ∷ ys) h =
    let here : is_among y found ≡ true = h y (rw (eq-eqb y y refl) refl) in
    rw here (with_places_same found ys (λ z t. h z (rw t (or_true (eqb y z)))))

still : (z : ℕ) (found : List ℕ) (place : ℕ) → is_among z found ≡ true → is_among z (with_place found place) ≡ true
still z found place t = is_among-with_place z found place ∙ rw t refl

later : (z : ℕ) (found : List ℕ) (place : ℕ) (row : List ℕ) → is_among z (with_place found place) ≡ true → is_among z (with_places (with_place found place) row) ≡ true
later z found place row t = is_among-with_places z (with_place found place) row ∙ rw t refl

in_row : (z : ℕ) (found row : List ℕ) → is_among z row ≡ true → is_among z (with_places found row) ≡ true
in_row z found row t = is_among-with_places z found row ∙ rw t (or_true (is_among z found))

reached_found : (graph : List (List ℕ)) (found : List ℕ) (place z : ℕ) → IsFull graph found → ((e : ℕ) → is_among e (edges_of graph place) ≡ true → is_among e found ≡ true) → Reaches graph place z
    → is_among z found ≡ true
reached_found graph found place z full all (edge a b t) = all b t
reached_found graph found place z full all (further a b c t r) = full b c (all b t) r

-- where all edges of a place lead to places that are found, nothing beyond it is new
pub covered : (graph above : List (List ℕ)) (found : List ℕ) (place : ℕ) → IsFull graph found → IsListed graph above place
    → ((e : ℕ) → is_among e (edges_of graph place) ≡ true → is_among e found ≡ true)
    → with_places (with_place found place) (edges_of above place) ≡ with_place found place
covered graph above found place full listed all =
    with_places_same (with_place found place) (edges_of above place)
    (λ z t. still z found place (reached_found graph found place z full all (listed.only z t)))

pub full_more : (graph above : List (List ℕ)) (found : List ℕ) (place : ℕ) → IsFull graph found → IsListed graph above place
    → IsFull graph (with_places (with_place found place) (edges_of above place))
full_more graph above found place full listed = λ y z t r. by_row y z r (or_cases (is_among y (with_place found place)) (is_among y (edges_of above place)) (sym (is_among-with_places y (with_place found place) (edges_of above place)) ∙ t))
  where
    by_place : (y z : ℕ) → Reaches graph y z → (is_among y found ≡ true) ⊎ (eqb place y ≡ true) → is_among z (with_places (with_place found place) (edges_of above place)) ≡ true
    by_place y z r (inl t) = later z found place (edges_of above place) (still z found place (full y z t r))
    by_place y z r (inr e) =
        in_row z (with_place found place) (edges_of above place) (listed.each z (subst (λ (p : ℕ). Reaches graph p z) (sym (eqb-true place y e)) r))

    by_row : (y z : ℕ) → Reaches graph y z → (is_among y (with_place found place) ≡ true) ⊎ (is_among y (edges_of above place) ≡ true)
        → is_among z (with_places (with_place found place) (edges_of above place)) ≡ true
    by_row y z r (inl t) = by_place y z r (or_cases (is_among y found) (eqb place y) (sym (is_among-with_place y found place) ∙ t))
    by_row y z r (inr t) =
        in_row z (with_place found place) (edges_of above place) (listed.each z (reaches_on graph place y z (listed.only y t) r))

-- nothing is found at first
pub full_none : (graph : List (List ℕ)) → IsFull graph []
full_none graph = λ y z t r. (let no : false ≡ true = t in cc)

-- what is listed for a known place
pub listed_known : (graph above : List (List ℕ)) (ranks : List ℕ) (known place : ℕ) → IsClosing graph above ranks known → 0 < rank_of ranks place → IsListed graph above place
listed_known graph above ranks known place closing some = record {
  only = λ z t. beyond_reaches graph place z (sym (ap (is_among z) (closing.each place some).beyond) ∙ t);
  each = λ z r. ap (is_among z) (closing.each place some).beyond
      ∙ reaches_beyond graph (rank_of ranks) (ranking graph above ranks known closing) (rank_small graph above ranks known closing) place z some r;
}

-- the same, where marks say that all edges lead to places that are found
pub covered_by_marks : (graph above : List (List ℕ)) (marks found row : List ℕ) (round place : ℕ) → row ≡ edges_of graph place → AreWithin (length marks) row → IsMarking marks round found
    → IsFull graph found → IsListed graph above place → ((x : ℕ) → is_among x row ≡ true → get_or marks x 0 ≡ round)
    → with_places (with_place found place) (edges_of above place) ≡ with_place found place
covered_by_marks graph above marks found row round place e within marking full listed all =
    covered graph above found place full listed (λ x t. at x (subst (λ (xs : List ℕ). is_among x xs ≡ true) (sym e) t))
  where
    at : (x : ℕ) → is_among x row ≡ true → is_among x found ≡ true
    at x t = sym (marking.marked x (among_within (length marks) x row within t)) ∙ eq-eqb (get_or marks x 0) round (all x t)

pub on_ok : {T E : Type 0} (r : Result T E) (P Q : Type 0) → (P → Q) → OnOk r P → OnOk r Q
on_ok (Ok x) P Q f p = f p
on_ok (Err e) P Q f p = tt
