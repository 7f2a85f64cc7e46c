-- Where no path returns, paths end within as many places as there are.
use Rattle.std.proofs.Common.{◌≡◌, ℕ, zero, suc, ◌+◌, ◌<◌, ◌≤◌, ◌⊎◌, Bool, true, false, not, cond, List, [], ◌∷◌, length, get_or, set, replicate, eqb, map, count_by, refl, sym, ◌∙◌, ap, subst, arith, get_or-set_other, length-set, inl, inr}
use Rattle.std.specs.List.{filter, All}
use Rattle.std.proofs.lemmas.List.Elements.{All-cons, All-nil, All-head, All-tail, All-filter}
use Rattle.std.proofs.lemmas.Bool.{cases_eq, cases_Bool, cases_lt, or_cases}
use Rattle.std.proofs.lemmas.List.{get_or_past, get_or-replicate, length-replicate}
use Rattle.std.proofs.lemmas.List.Sums.{sum_by-set, count_by-le-length}
use Rattle.place_graph.specs.Graphs.{edges_of, is_among, Reaches, edge, further, AreWithin, IsGraph}
use Rattle.place_graph.specs.Searches.{is_marked}
use Rattle.place_graph.proofs.Marks.{or_true}
use Rattle.place_graph.proofs.Settled.{edges_within}
use Rattle.place_graph.proofs.Searched.{among_within}
use Rattle.task_model.specs.declared.task_row.TaskRow.{TaskRow}
use Rattle.task_graph.specs.PostOrders.{EndsWithin, AllEndWithin, post_order}
use Rattle.task_graph.specs.Returning.{NoneReturns}
use Rattle.task_graph.specs.TaskGraphs.{edges, anonymous_edges, is_anonymous, inputs_of, IsTaskGraph}
use Rattle.task_graph.specs.Plans.{plan, group, is_named, in_name_order}

-- the marked places lead to a place
abbrev pub Behind : List (List ℕ) → List Bool → ℕ → Type 0
Behind graph marks place = (x : ℕ) → is_marked marks x ≡ true → Reaches graph x place

longer : (graph : List (List ℕ)) (x place next : ℕ) → Reaches graph x place → is_among next (edges_of graph place) ≡ true → Reaches graph x next
longer graph x place next (edge a b t) u = further a b next t (edge b next u)
longer graph x place next (further a b c t r) u = further a b next t (longer graph b c next r u)

fewer_left : (marks : List Bool) (place : ℕ) → place < length marks → is_marked marks place ≡ false → count_by not (set marks place true) + 1 ≡ count_by not marks
fewer_left marks place within unmarked =
    let sum = sum_by-set (λ (b : Bool). cond (not b) 1 0) marks place true false within in
    let old : ◌≡◌ {A = ℕ} (cond (not (get_or marks place false)) 1 0) 1 = rw unmarked refl in
    omega (arith, sum, old)

behind_next : (graph : List (List ℕ)) (marks : List Bool) (place next : ℕ) → place < length marks → Behind graph marks place → is_among next (edges_of graph place) ≡ true
    → Behind graph (set marks place true) next
behind_next graph marks place next within behind t x u = at (cases_eq x place)
  where
    at : (x ≡ place) ⊎ (x ≡ place → ⊥) → Reaches graph x next
    at (inl e) = rw e (edge place next t)
    at (inr n) = longer graph x place next (behind x (sym (get_or-set_other marks place x true false n) ∙ u)) t

not_marked : (graph : List (List ℕ)) (marks : List Bool) (place : ℕ) → NoneReturns graph → Behind graph marks place → is_marked marks place ≡ false
not_marked graph marks place none behind = elim (cases_Bool (is_marked marks place)) [
  | inl t ↦ absurd (none place (behind place t))
  | inr f ↦ f
]

ends_from : (graph : List (List ℕ)) → IsGraph graph → NoneReturns graph → (depth place : ℕ) (marks : List Bool) → length marks ≡ length graph → place < length graph
    → Behind graph marks place → count_by not marks ≤ depth → EndsWithin graph depth place
ends_from graph is none zero place marks all within behind few =
    let left = fewer_left marks place (omega (arith, all, within)) (not_marked graph marks place none behind) in
    absurd (omega (arith, left, few))
ends_from graph is none (suc depth) place marks all within behind few = λ next t.
    let here : place < length marks = omega (arith, all, within) in
    let left = fewer_left marks place here (not_marked graph marks place none behind) in
    ends_from graph is none depth next (set marks place true) (rw length-set all) (among_within (length graph) next (edges_of graph place) (edges_within (length graph) graph place is) t)
    (behind_next graph marks place next here behind t) (omega (arith, left, few))

none_marked : (n x : ℕ) → is_marked (replicate n false) x ≡ false
none_marked n x = elim (cases_lt x n) [
  | inl h ↦ get_or-replicate n x false false h
  | inr h ↦ get_or_past (replicate n false) x false (rw (length-replicate n false) h)
]

pub all_end : (graph : List (List ℕ)) → IsGraph graph → NoneReturns graph → (place : ℕ) → place < length graph → EndsWithin graph (length graph) place
all_end graph is none place within =
    let marks : List Bool = replicate (length graph) false in
    let all : length marks ≡ length graph = length-replicate (length graph) false in
    ends_from graph is none (length graph) place marks all within
    (λ x t. let unmarked : is_marked marks x ≡ false = none_marked (length graph) x in cc) (omega (arith, all, count_by-le-length not marks))

pub these_end : (graph : List (List ℕ)) (places : List ℕ) → IsGraph graph → NoneReturns graph → AreWithin (length graph) places → AllEndWithin graph (length graph) places
these_end graph places is none within x t = all_end graph is none x (among_within (length graph) x places within t)

-- the anonymous inputs among the inputs

anonymous_within : (all : List TaskRow) (n : ℕ) (rows : List TaskRow) → All (AreWithin n) (edges rows) → All (AreWithin n) (map (λ row. filter (is_anonymous all) (inputs_of row)) rows)
anonymous_within all n [] h = All-nil (AreWithin n)
anonymous_within all n (row ∷ rows) h =
    All-cons (AreWithin n) (filter (is_anonymous all) (inputs_of row)) (map (λ r. filter (is_anonymous all) (inputs_of r)) rows)
    (All-filter (is_anonymous all) (λ p. p < n) (inputs_of row) (All-head (AreWithin n) (inputs_of row) (edges rows) h))
    (anonymous_within all n rows (All-tail (AreWithin n) (inputs_of row) (edges rows) h))

pub count_edges : (rows : List TaskRow) → length (edges rows) ≡ length rows
count_edges [] = refl
count_edges (row ∷ rows) = ap suc (count_edges rows)

count_some : (all rows : List TaskRow) → length (map (λ row. filter (is_anonymous all) (inputs_of row)) rows) ≡ length rows
count_some all [] = refl
count_some all (row ∷ rows) = ap suc (count_some all rows)

pub count_anonymous : (rows : List TaskRow) → length (anonymous_edges rows) ≡ length rows
count_anonymous rows = count_some rows rows

pub anonymous_are_graph : (rows : List TaskRow) → IsGraph (edges rows) → IsGraph (anonymous_edges rows)
anonymous_are_graph rows h =
    subst (λ (n : ℕ). All (AreWithin n) (anonymous_edges rows)) (count_edges rows ∙ sym (count_anonymous rows)) (anonymous_within rows (length (edges rows)) rows h)

among_filtered : (p : ℕ → Bool) (x : ℕ) (xs : List ℕ) → is_among x (filter p xs) ≡ true → is_among x xs ≡ true
among_filtered p x [] t = cc
among_filtered p x (y ∷ xs) t = elim (cases_Bool (p y)) [
  | inl e ↦
      let kept : is_among x (y ∷ filter p xs) ≡ true = rw e at t in
      elim (or_cases (eqb y x) (is_among x (filter p xs)) kept) [
        | inl same ↦ rw same refl
        | inr more ↦ rw (among_filtered p x xs more) (or_true (eqb y x))
      ]
  | inr e ↦
      let kept : is_among x (filter p xs) ≡ true = rw e at t in
      rw (among_filtered p x xs kept) (or_true (eqb y x))
]

anonymous_among : (all rows : List TaskRow) (task x : ℕ) → is_among x (edges_of (map (λ row. filter (is_anonymous all) (inputs_of row)) rows) task) ≡ true → is_among x (edges_of (edges rows) task) ≡ true
anonymous_among all [] task x t = cc
anonymous_among all (row ∷ rows) zero x t = among_filtered (is_anonymous all) x (inputs_of row) t
anonymous_among all (row ∷ rows) (suc task) x t = anonymous_among all rows task x t

anonymous_reaches : (rows : List TaskRow) (a b : ℕ) → Reaches (anonymous_edges rows) a b → Reaches (edges rows) a b
anonymous_reaches rows a b (edge p q t) = edge p q (anonymous_among rows rows p q t)
anonymous_reaches rows a b (further p q r t more) = further p q r (anonymous_among rows rows p q t) (anonymous_reaches rows q r more)

pub anonymous_none : (rows : List TaskRow) → NoneReturns (edges rows) → NoneReturns (anonymous_edges rows)
anonymous_none rows none place r = none place (anonymous_reaches rows place place r)

-- what the walks of a plan and of a group ask

pub plan_graph : (rows : List TaskRow) (g : List (List ℕ)) → g ≡ edges rows → IsTaskGraph rows → IsGraph g
plan_graph rows g e is = subst IsGraph (sym e) is.drawn.inputs

pub plan_within : (rows : List TaskRow) (g : List (List ℕ)) (tasks : List ℕ) → g ≡ edges rows → AreWithin (length rows) tasks → AreWithin (length g) tasks
plan_within rows g tasks e h = subst (λ (n : ℕ). AreWithin n tasks) (sym (ap length e ∙ count_edges rows)) h

pub plan_ends : (rows : List TaskRow) (g : List (List ℕ)) (tasks : List ℕ) → g ≡ edges rows → IsTaskGraph rows → AreWithin (length rows) tasks → AllEndWithin g (length g) tasks
plan_ends rows g tasks e is h = these_end g tasks (plan_graph rows g e is) (subst NoneReturns (sym e) is.no_cycle) (plan_within rows g tasks e h)

pub group_graph : (rows : List TaskRow) (g : List (List ℕ)) → g ≡ anonymous_edges rows → IsTaskGraph rows → IsGraph g
group_graph rows g e is = subst IsGraph (sym e) (anonymous_are_graph rows is.drawn.inputs)

pub group_within : (rows : List TaskRow) (g : List (List ℕ)) (task : ℕ) → g ≡ anonymous_edges rows → task < length rows → AreWithin (length g) (task ∷ [])
group_within rows g task e h = All-cons (λ p. p < length g) task [] (omega (arith, ap length e, count_anonymous rows, h)) (All-nil (λ p. p < length g))

pub group_ends : (rows : List TaskRow) (g : List (List ℕ)) (task : ℕ) → g ≡ anonymous_edges rows → IsTaskGraph rows → task < length rows → AllEndWithin g (length g) (task ∷ [])
group_ends rows g task e is h = these_end g (task ∷ []) (group_graph rows g e is) (subst NoneReturns (sym e) (anonymous_none rows is.no_cycle)) (group_within rows g task e h)

pub group_is : (rows : List TaskRow) (task : ℕ) → group rows task ≡ post_order (anonymous_edges rows) (task ∷ [])
unfolding group
group_is rows task = refl

pub plan_is : (rows : List TaskRow) (chosen : List ℕ) → plan rows chosen ≡ filter (is_named rows) (post_order (edges rows) (in_name_order (length rows) chosen))
unfolding plan
plan_is rows chosen = refl
