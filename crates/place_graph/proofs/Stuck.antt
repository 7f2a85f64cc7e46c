-- Where no further place can become known, a path returns.
use Rattle.std.proofs.Common.{◌≡◌, ℕ, zero, suc, ◌+◌, ◌<◌, ◌≤◌, ◌⊎◌, Bool, true, false, cond, List, [], ◌∷◌, length, ltb, count_by, refl, sym, ◌∙◌, arith, inl, inr}
use Rattle.std.proofs.lemmas.Bool.{lt-ltb, false_from_ne_true}
use Rattle.std.proofs.lemmas.List.Sums.{sum_by-cons, count_by-le-length}
use Rattle.place_graph.specs.Graphs.{edges_of, is_among, Reaches, edge, further, IsGraph}
use Rattle.place_graph.specs.Closing.{IsClosing, AllWait}
use Rattle.place_graph.specs.Searches.{is_marked, IsReached, AreReturning, AreSearched}
use Rattle.place_graph.specs.Orders.{IsClosed}
use Rattle.place_graph.proofs.Walks.{beyond_reaches, reaches_beyond, reaches_lower}
use Rattle.place_graph.proofs.Settled.{rank_of, ranking, rank_small, edges_within}
use Rattle.place_graph.proofs.Searched.{among_within}

abbrev pub marks_of : List Bool → ℕ
marks_of marks = count_by (λ b. b) marks

cons_count : (b : Bool) (marks : List Bool) → marks_of (b ∷ marks) ≡ cond b 1 0 + marks_of marks
cons_count b marks = sum_by-cons (λ (x : Bool). cond x 1 0) b marks

-- fewer marks: each is a mark of the other, which has one more
no_more_marks : (xs ys : List Bool) → length xs ≡ length ys → ((i : ℕ) → is_marked xs i ≡ true → is_marked ys i ≡ true) → marks_of xs ≤ marks_of ys
no_more_marks [] ys e h = omega arith
no_more_marks (x ∷ xs) [] e h = absurd (omega arith)
no_more_marks (x ∷ xs) (y ∷ ys) e h =
    let rest : marks_of xs ≤ marks_of ys = no_more_marks xs ys (omega arith) (λ i t. h (suc i) t) in
    omega (arith, cons_count x xs, cons_count y ys, rest, head x y (h zero))
  where
    head : (a b : Bool) → (a ≡ true → b ≡ true) → ◌≤◌ (cond a 1 0) (cond b 1 0)
    head true b imp = rw (imp refl) (omega arith)
    head false b imp = omega arith

fewer_marks : (xs ys : List Bool) (i : ℕ) → length xs ≡ length ys → ((j : ℕ) → is_marked xs j ≡ true → is_marked ys j ≡ true) → is_marked xs i ≡ false → is_marked ys i ≡ true
    → marks_of xs < marks_of ys
fewer_marks xs [] i e h not_x is_y = cc
fewer_marks [] (y ∷ ys) i e h not_x is_y = absurd (omega arith)
fewer_marks (x ∷ xs) (y ∷ ys) zero e h not_x is_y =
    let rest : marks_of xs ≤ marks_of ys = no_more_marks xs ys (omega arith) (λ j t. h (suc j) t) in
    let none : ◌≡◌ {A = ℕ} (cond x 1 0) 0 = rw not_x refl in
    let one : ◌≡◌ {A = ℕ} (cond y 1 0) 1 = rw is_y refl in
    omega (arith, cons_count x xs, cons_count y ys, rest, none, one)
fewer_marks (x ∷ xs) (y ∷ ys) (suc i) e h not_x is_y =
    let rest : marks_of xs < marks_of ys = fewer_marks xs ys i (omega arith) (λ j t. h (suc j) t) not_x is_y in
    omega (arith, cons_count x xs, cons_count y ys, rest, head x y (h zero))
  where
    head : (a b : Bool) → (a ≡ true → b ≡ true) → ◌≤◌ (cond a 1 0) (cond b 1 0)
    head true b imp = rw (imp refl) (omega arith)
    head false b imp = omega arith

begins : (rows : List (List ℕ)) (p q : ℕ) → is_among q (edges_of rows p) ≡ true → p < length rows
begins [] p q t = cc
begins (row ∷ rows) zero q t = omega arith
begins (row ∷ rows) (suc p) q t = omega (arith, begins rows p q t)

-- a path begins at a place of the graph
pub from_within : (graph : List (List ℕ)) (a b : ℕ) → IsGraph graph → Reaches graph a b → a < length graph
from_within graph a b is_graph (edge p q t) = begins graph p q t
from_within graph a b is_graph (further p q r t more) = begins graph p q t

-- each place has a rank, where so many have one as there are
all_ranked : (ranks : List ℕ) (place : ℕ) → count_by (λ rank. ltb 0 rank) ranks ≡ length ranks → place < length ranks → 0 < rank_of ranks place
all_ranked [] place e h = absurd (omega arith)
all_ranked (zero ∷ ranks) place e h =
    let none : ◌≡◌ {A = ℕ} (cond (ltb 0 zero) 1 0) 0 = refl in
    absurd (omega (arith, sum_by-cons (λ (r : ℕ). cond (ltb 0 r) 1 0) zero ranks, none, e, count_by-le-length (λ rank. ltb 0 rank) ranks))
all_ranked (suc rank ∷ ranks) zero e h = omega arith
all_ranked (suc rank ∷ ranks) (suc place) e h =
    let some : ◌≡◌ {A = ℕ} (cond (ltb 0 (suc rank)) 1 0) 1 = rw (lt-ltb 0 (suc rank) (omega arith)) refl in
    all_ranked ranks place (omega (arith, sum_by-cons (λ (r : ℕ). cond (ltb 0 r) 1 0) (suc rank) ranks, some, e)) (omega arith)

-- the next place of one that waits: less is reached from it, where no path returns
pub record IsNext (graph : List (List ℕ)) (ranks : List ℕ) (marks : List Bool) (next : ℕ) (later : List Bool) : Type 0 where
  pub within : next < length graph
  pub none : rank_of ranks next ≡ 0
  pub reached : IsReached graph next later
  pub fewer : marks_of later < marks_of marks

next_waiting : (graph : List (List ℕ)) (ranks : List ℕ) → IsGraph graph → AllWait graph ranks (length graph) → AreSearched graph (length graph)
    → ((place : ℕ) → Reaches graph place place → ⊥) → (place : ℕ) (marks : List Bool) → IsReached graph place marks → place < length graph → rank_of ranks place ≡ 0
    → (next : ℕ) × (later : List Bool) × IsNext graph ranks marks next later
next_waiting graph ranks is_graph wait searched ends place marks reached within none =
    let w = wait place within none in
    let next_within : w.0 < length graph = among_within (length graph) w.0 (edges_of graph place) (edges_within (length graph) graph place is_graph) w.1 in
    let found = searched w.0 next_within in (
      w.0,
      found.0,
      record {
        within = next_within;
        none = w.2;
        reached = found.1;
        fewer = fewer_marks found.0 marks w.0 (found.1.all ∙ sym reached.all) (λ j u. reached.each j (further place w.0 j w.1 (found.1.only j u)))
            (false_from_ne_true (is_marked found.0 w.0) (λ u. ends w.0 (found.1.only w.0 u))) (reached.each w.0 (edge place w.0 w.1));
      },
    )

-- From a place that waits one would come to places from which ever less is reached.
waiting_ends : (graph : List (List ℕ)) (ranks : List ℕ) → IsGraph graph → AllWait graph ranks (length graph) → AreSearched graph (length graph)
    → ((place : ℕ) → Reaches graph place place → ⊥) → (most place : ℕ) (marks : List Bool) → IsReached graph place marks → marks_of marks ≤ most → place < length graph → rank_of ranks place ≡ 0 → ⊥
waiting_ends graph ranks is_graph wait searched ends zero place marks reached small within none =
    let found = next_waiting graph ranks is_graph wait searched ends place marks reached within none in
    omega (arith, found.2.fewer, small)
waiting_ends graph ranks is_graph wait searched ends (suc most) place marks reached small within none =
    let found = next_waiting graph ranks is_graph wait searched ends place marks reached within none in
    waiting_ends graph ranks is_graph wait searched ends most found.0 found.1 found.2.reached (omega (arith, found.2.fewer, small)) found.2.within found.2.none

-- a place without a rank, where not all have one
unranked : (ranks : List ℕ) → count_by (λ rank. ltb 0 rank) ranks < length ranks → (place : ℕ) × (place < length ranks) × (rank_of ranks place ≡ 0)
unranked [] h = absurd (omega arith)
unranked (zero ∷ ranks) h = (0, omega arith, refl)
unranked (suc rank ∷ ranks) h =
    let some : ◌≡◌ {A = ℕ} (cond (ltb 0 (suc rank)) 1 0) 1 = rw (lt-ltb 0 (suc rank) (omega arith)) refl in
    let more = unranked ranks (omega (arith, sum_by-cons (λ (r : ℕ). cond (ltb 0 r) 1 0) (suc rank) ranks, some, h)) in
    (suc more.0, omega (arith, more.1), more.2)

marked_or_none : (marks : List Bool) → ((place : ℕ) × (is_marked marks place ≡ true)) ⊎ ((place : ℕ) → is_marked marks place ≡ false)
marked_or_none [] = inr (λ place. refl)
marked_or_none (true ∷ marks) = inl (0, refl)
marked_or_none (false ∷ marks) = elim (marked_or_none marks) [
  | inl found ↦ inl (suc found.0, found.1)
  | inr none ↦ inr (λ place. at place none)
]
  where
    at : (place : ℕ) → ((p : ℕ) → is_marked marks p ≡ false) → is_marked (false ∷ marks) place ≡ false
    at zero none = refl
    at (suc place) none = none place

-- Where places wait, a path returns.
pub one_returns : (graph above : List (List ℕ)) (ranks : List ℕ) (known : ℕ) (marks : List Bool) → IsGraph graph → IsClosing graph above ranks known → AllWait graph ranks (length graph)
    → AreSearched graph (length graph) → AreReturning graph (length graph) marks → (known ≡ length graph → ⊥) → (place : ℕ) × (is_marked marks place ≡ true)
one_returns graph above ranks known marks is_graph closing wait searched returning not_all = elim (marked_or_none marks) [
  | inl found ↦ found
  | inr none ↦ absurd (go none)
]
  where
    ends : ((place : ℕ) → is_marked marks place ≡ false) → (place : ℕ) → Reaches graph place place → ⊥
    ends none place r =
        let yes : is_marked marks place ≡ true = returning.each place (from_within graph place place is_graph r) r in
        let no_mark : is_marked marks place ≡ false = none place in
        cc

    go : ((place : ℕ) → is_marked marks place ≡ false) → ⊥
    go none =
        let small : count_by (λ rank. ltb 0 rank) ranks ≤ length ranks = count_by-le-length (λ rank. ltb 0 rank) ranks in
        let found = unranked ranks (omega (arith, small, closing.count, closing.ranked, not_all)) in
        let within : found.0 < length graph = omega (arith, found.1, closing.ranked) in
        let reached = searched found.0 within in
        waiting_ends graph ranks is_graph wait searched (ends none) (marks_of reached.0) found.0 reached.0 reached.1 (omega arith) within found.2

-- Where all are known, the order is whole.
pub whole : (graph above : List (List ℕ)) (ranks : List ℕ) (known : ℕ) → IsGraph graph → IsClosing graph above ranks known → known ≡ length graph → IsClosed graph above
whole graph above ranks known is_graph closing all = record {
  rows = closing.rows;
  each = λ place h. (closing.each place (some place h)).beyond;
  only = λ place x t. beyond_reaches graph place x t;
  reached = λ place x r. reaches_beyond graph (rank_of ranks) (ranking graph above ranks known closing) (rank_small graph above ranks known closing) place x (some place (from_within graph place x is_graph r)) r;
  ends = λ place r.
      let lower : rank_of ranks place < rank_of ranks place =
      reaches_lower graph (rank_of ranks) (ranking graph above ranks known closing) place place (some place (from_within graph place place is_graph r)) r in
      omega (arith, lower);
}
  where
    some : (place : ℕ) → place < length graph → 0 < rank_of ranks place
    some place h = all_ranked ranks place (closing.count ∙ all ∙ sym closing.ranked) (omega (arith, h, closing.ranked))
