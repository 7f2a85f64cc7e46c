-- A place that is settled keeps ranks falling along edges, and where each place is ranked no path returns.
use Rattle.std.proofs.Common.{◌≡◌, ℕ, ◌+◌, ◌<◌, ◌≤◌, ◌⊎◌, true, List, length, get_or, set, sym, subst, arith, get_or-set_same, get_or-set_other, length-set, inl, inr}
use Rattle.std.proofs.lemmas.Bool.{cases_eq}
use Rattle.place_graph.specs.Graphs.{edges_of, is_among, IsGraph}
use Rattle.place_graph.proofs.Walks.{reaches_lower}
use Rattle.place_graph.proofs.Stuck.{from_within}
use Rattle.task_graph.specs.Rankings.{IsRankedTo, AllRanked, EachIsRanked}
use Rattle.task_graph.specs.Returning.{NoneReturns}

pub settled : (graph : List (List ℕ)) (ranks : List ℕ) (most place : ℕ) → IsRankedTo graph ranks most → place < length ranks → get_or ranks place 0 ≡ 0 → AllRanked ranks (edges_of graph place)
    → IsRankedTo graph (set ranks place (most + 1)) (most + 1)
settled graph ranks most place is within none all = record {
  all = rw length-set is.all;
  small = λ x. small x (cases_eq x place);
  ranked = λ x next some t. ranked x next (cases_eq x place) some t;
  lower = λ x next some t. lower x next (cases_eq x place) some t;
}
  where
    here : get_or (set ranks place (most + 1)) place 0 ≡ most + 1
    here = get_or-set_same ranks place (most + 1) 0 within

    there : (x : ℕ) → (x ≡ place → ⊥) → get_or (set ranks place (most + 1)) x 0 ≡ get_or ranks x 0
    there x n = get_or-set_other ranks place x (most + 1) 0 n

    small : (x : ℕ) → (x ≡ place) ⊎ (x ≡ place → ⊥) → get_or (set ranks place (most + 1)) x 0 ≤ most + 1
    small x (inl e) = rw (e, here) (omega arith)
    small x (inr n) = rw (there x n) (omega (arith, is.small x))

    -- a place that had a rank keeps it
    kept : (x : ℕ) → 0 < get_or ranks x 0 → get_or (set ranks place (most + 1)) x 0 ≡ get_or ranks x 0
    kept x some = there x (λ e. let zero_rank : get_or ranks x 0 ≡ 0 = rw e none in omega (arith, some, zero_rank))

    ranked : (x next : ℕ) → (x ≡ place) ⊎ (x ≡ place → ⊥) → 0 < get_or (set ranks place (most + 1)) x 0 → is_among next (edges_of graph x) ≡ true → 0 < get_or (set ranks place (most + 1)) next 0
    ranked x next (inl e) some t =
        let before : 0 < get_or ranks next 0 = all next (subst (λ (y : ℕ). is_among next (edges_of graph y) ≡ true) e t) in
        rw (kept next before) before
    ranked x next (inr n) some t =
        let mine : 0 < get_or ranks x 0 = rw (← there x n) some in
        let before : 0 < get_or ranks next 0 = is.ranked x next mine t in
        rw (kept next before) before

    lower : (x next : ℕ) → (x ≡ place) ⊎ (x ≡ place → ⊥) → 0 < get_or (set ranks place (most + 1)) x 0 → is_among next (edges_of graph x) ≡ true
        → get_or (set ranks place (most + 1)) next 0 < get_or (set ranks place (most + 1)) x 0
    lower x next (inl e) some t =
        let before : 0 < get_or ranks next 0 = all next (subst (λ (y : ℕ). is_among next (edges_of graph y) ≡ true) e t) in
        let mine : get_or (set ranks place (most + 1)) x 0 ≡ most + 1 = subst (λ (y : ℕ). get_or (set ranks place (most + 1)) y 0 ≡ most + 1) (sym e) here in
        omega (arith, kept next before, mine, is.small next)
    lower x next (inr n) some t =
        let mine : 0 < get_or ranks x 0 = rw (← there x n) some in
        let before : 0 < get_or ranks next 0 = is.ranked x next mine t in
        omega (arith, kept next before, there x n, is.lower x next mine t)

pub none_returns : (graph : List (List ℕ)) (ranks : List ℕ) (most : ℕ) → IsGraph graph → IsRankedTo graph ranks most → EachIsRanked ranks → NoneReturns graph
none_returns graph ranks most is_graph is each place r =
    let some : 0 < get_or ranks place 0 = each place (omega (arith, is.all, from_within graph place place is_graph r)) in
    let less : get_or ranks place 0 < get_or ranks place 0 =
    reaches_lower graph (λ x. get_or ranks x 0) (record { ranked = is.ranked; lower = is.lower }) place place some r in
    omega (arith, less)
