-- A place becomes known.
use Rattle.std.proofs.Common.{◌≡◌, ℕ, zero, suc, ◌+◌, ◌<◌, ◌≤◌, ◌⊎◌, true, false, cond, List, [], ◌∷◌, length, get_or, set, eqb, ltb, count_by, refl, sym, ◌∙◌, subst, arith, get_or-set_same, get_or-set_other, length-set, inl, inr}
use Rattle.std.specs.List.{All}
use Rattle.std.proofs.lemmas.Bool.{cases_eq, cases_Bool, lt-ltb, ne_eqb}
use Rattle.std.proofs.lemmas.List.Elements.{All-push, All-set, All-head, All-tail, All-nil}
use Rattle.std.proofs.lemmas.List.Sums.{sum_by-set, count_by-le-length}
use Rattle.place_graph.specs.Graphs.{edges_of, is_among, AreWithin, with_place, with_places, beyond}
use Rattle.place_graph.specs.Closing.{IsMarking, gathered, IsKnown, IsClosing, IsFresh, StaysAt, IsWaiting}
use Rattle.place_graph.proofs.Walks.{IsRanking, beyond_from}

abbrev pub rank_of : List ℕ → ℕ → ℕ
rank_of ranks place = get_or ranks place 0

-- places that stand in lists of places within n are within n
pub with_place_within : (n : ℕ) (found : List ℕ) (x : ℕ) → AreWithin n found → x < n → AreWithin n (with_place found x)
with_place_within n found x h less = elim (cases_Bool (is_among x found)) [
  | inl t ↦ rw t h
  | inr f ↦ rw f (All-push (λ p. p < n) found x h less)
]

pub with_places_within : (n : ℕ) (found xs : List ℕ) → AreWithin n found → AreWithin n xs → AreWithin n (with_places found xs)
with_places_within n found [] h all = h
with_places_within n found (x ∷ xs) h all =
    with_places_within n (with_place found x) xs (with_place_within n found x h (All-head (λ p. p < n) x xs all)) (All-tail (λ p. p < n) x xs all)

pub edges_within : (n : ℕ) (graph : List (List ℕ)) (place : ℕ) → All (AreWithin n) graph → AreWithin n (edges_of graph place)
edges_within n [] place h = All-nil (λ p. p < n)
edges_within n (row ∷ graph) zero h = All-head (AreWithin n) row graph h
edges_within n (row ∷ graph) (suc place) h = edges_within n graph place (All-tail (AreWithin n) row graph h)

pub gathered_within : (n : ℕ) (above : List (List ℕ)) (found xs : List ℕ) → All (AreWithin n) above → AreWithin n found → AreWithin n xs → AreWithin n (gathered above found xs)
gathered_within n above found [] rows h all = h
gathered_within n above found (x ∷ xs) rows h all =
    gathered_within n above (with_places (with_place found x) (edges_of above x)) xs rows
    (with_places_within n (with_place found x) (edges_of above x) (with_place_within n found x h (All-head (λ p. p < n) x xs all)) (edges_within n above x rows))
    (All-tail (λ p. p < n) x xs all)

pub ranking : (graph above : List (List ℕ)) (ranks : List ℕ) (known : ℕ) → IsClosing graph above ranks known → IsRanking graph (rank_of ranks)
ranking graph above ranks known closing = record {
  ranked = λ place next some t. (closing.each place some).ranked next t;
  lower = λ place next some t. (closing.each place some).lower next t;
}

pub known_small : (graph above : List (List ℕ)) (ranks : List ℕ) (known : ℕ) → IsClosing graph above ranks known → known ≤ length graph
known_small graph above ranks known closing =
    let counted : count_by (λ rank. ltb 0 rank) ranks ≤ length ranks = count_by-le-length (λ rank. ltb 0 rank) ranks in
    omega (arith, counted, closing.count, closing.ranked)

-- a rank is at most the number of places
pub rank_small : (graph above : List (List ℕ)) (ranks : List ℕ) (known : ℕ) → IsClosing graph above ranks known → (place : ℕ) → rank_of ranks place ≤ length graph
rank_small graph above ranks known closing place = elim (some_or_none (rank_of ranks place)) [
  | inl some ↦
      let small : rank_of ranks place ≤ known = (closing.each place some).small in
      omega (arith, small, known_small graph above ranks known closing)
  | inr none ↦ omega (arith, none)
]
  where
    some_or_none : (n : ℕ) → (0 < n) ⊎ (n ≡ 0)
    some_or_none zero = inr refl
    some_or_none (suc n) = inl (omega arith)

-- what is gathered for a place whose edges lead to known places alone
pub gathered_beyond : (graph above : List (List ℕ)) (ranks : List ℕ) (known place : ℕ) → IsClosing graph above ranks known
    → ((next : ℕ) → is_among next (edges_of graph place) ≡ true → 0 < rank_of ranks next) → gathered above [] (edges_of graph place) ≡ beyond graph place
gathered_beyond graph above ranks known place closing all =
    beyond_from graph above (rank_of ranks) (ranking graph above ranks known closing) place
    (λ x t. (all x t, rank_small graph above ranks known closing x, (closing.each x (all x t)).beyond))

pub settled : (graph above : List (List ℕ)) (ranks : List ℕ) (known place : ℕ) (found : List ℕ) → IsClosing graph above ranks known → place < length graph → rank_of ranks place ≡ 0
    → ((next : ℕ) → is_among next (edges_of graph place) ≡ true → 0 < rank_of ranks next) → found ≡ beyond graph place → AreWithin (length graph) found
    → IsClosing graph (set above place found) (set ranks place (known + 1)) (known + 1)
settled graph above ranks known place found closing here none all is within = record {
  rows = length-set above place found ∙ closing.rows;
  ranked = length-set ranks place (known + 1) ∙ closing.ranked;
  count = count;
  each = λ p some. each p (cases_eq p place) some;
  within = All-set (AreWithin (length graph)) above place found within closing.within;
}
  where
    at_rank : place < length ranks
    at_rank = omega (arith, closing.ranked, here)

    at_above : place < length above
    at_above = omega (arith, closing.rows, here)

    count : count_by (λ rank. ltb 0 rank) (set ranks place (known + 1)) ≡ known + 1
    count =
        let sum = sum_by-set (λ (rank : ℕ). cond (ltb 0 rank) 1 0) ranks place (known + 1) 0 at_rank in
        let old : ◌≡◌ {A = ℕ} (cond (ltb 0 (get_or ranks place 0)) 1 0) 0 = rw none refl in
        let new : ◌≡◌ {A = ℕ} (cond (ltb 0 (known + 1)) 1 0) 1 = rw (lt-ltb 0 (known + 1) (omega arith)) refl in
        omega (arith, sum, old, new, closing.count)

    new_rank : rank_of (set ranks place (known + 1)) place ≡ known + 1
    new_rank = get_or-set_same ranks place (known + 1) 0 at_rank

    old_rank : (p : ℕ) → (p ≡ place → ⊥) → rank_of (set ranks place (known + 1)) p ≡ rank_of ranks p
    old_rank p n = get_or-set_other ranks place p (known + 1) 0 n

    still : (p : ℕ) → 0 < rank_of ranks p → rank_of (set ranks place (known + 1)) p ≡ rank_of ranks p
    still p some = old_rank p (λ e. let more : 0 < rank_of ranks place = subst (λ (q : ℕ). 0 < rank_of ranks q) e some in omega (arith, more, none))

    each : (p : ℕ) → (p ≡ place) ⊎ (p ≡ place → ⊥) → 0 < rank_of (set ranks place (known + 1)) p → IsKnown graph (set above place found) (set ranks place (known + 1)) (known + 1) p
    each p (inl e) some = rw e (record {
      ranked = λ next t. rw (still next (all next t)) (all next t);
      lower = λ next t. let small : rank_of ranks next ≤ known = (closing.each next (all next t)).small in rw (still next (all next t), new_rank) (omega (arith, small));
      small = rw new_rank (omega arith);
      beyond = get_or-set_same above place found [] at_above ∙ is;
    })
    each p (inr n) some =
        let some_old : 0 < rank_of ranks p = rw (old_rank p n) at some in
        let old = closing.each p some_old in
        record {
          ranked = λ next t. rw (still next (old.ranked next t)) (old.ranked next t);
          lower = λ next t. rw (still next (old.ranked next t), old_rank p n) (old.lower next t);
          small = rw (old_rank p n) (omega (arith, old.small));
          beyond = get_or-set_other above place p found [] n ∙ old.beyond;
        }

-- the marks before a round are those of earlier rounds
pub fresh_marking : (n : ℕ) (marks : List ℕ) (round : ℕ) → IsFresh n marks round → IsMarking marks (round + 1) []
fresh_marking n marks round fresh = record {
  marked = λ x h. ne (get_or marks x 0) (fresh.earlier x);
  earlier = λ x. omega (arith, fresh.earlier x);
}
  where
    ne : (m : ℕ) → m ≤ round → eqb m (round + 1) ≡ false
    ne m h = ne_eqb m (round + 1) (λ e. omega (arith, h, e))

-- No place changed, and those before this one wait.
pub record WaitBefore (graph : List (List ℕ)) (old new : List ℕ) (n : ℕ) : Type 0 where
  pub unchanged : new ≡ old
  pub waits : (place : ℕ) → place < n → rank_of new place ≡ 0 → IsWaiting graph new place

pub wait_more : (graph : List (List ℕ)) (first old new : List ℕ) (n : ℕ) → WaitBefore graph first old n → StaysAt graph old new n → WaitBefore graph first new (n + 1)
wait_more graph first old new n before stays = record {
  unchanged = stays.unchanged ∙ before.unchanged;
  waits = λ place less none. rw stays.unchanged (go place (rw stays.unchanged at none) (cases_eq place n) less);
}
  where
    go : (place : ℕ) → rank_of old place ≡ 0 → (place ≡ n) ⊎ (place ≡ n → ⊥) → place < n + 1 → IsWaiting graph old place
    go place none (inl e) less = subst (IsWaiting graph old) (sym e) (stays.waits (subst (λ (p : ℕ). rank_of old p ≡ 0) e none))
    go place none (inr e) less = before.waits place (omega (arith, e, less)) none
