-- A search marks exactly what is reached.
use Rattle.std.proofs.Common.{◌≡◌, ℕ, suc, ◌+◌, ◌<◌, ◌≤◌, ◌⊎◌, Bool, true, false, not, cond, ◌||◌, List, [], ◌∷◌, ◌++◌, length, get_or, set, replicate, eqb, count_by, refl, sym, ◌∙◌, ap, subst, arith, get_or-set_same, get_or-set_other, inl, inr}
use Rattle.std.proofs.lemmas.Bool.{cases_eq, cases_lt, eq-eqb, ne_eqb, eqb-true, or_cases}
use Rattle.std.proofs.lemmas.List.{get_or_past, get_or-replicate, length-replicate, length_push, get_or_push, get_or_append_left}
use Rattle.std.proofs.lemmas.List.Sums.{sum_by-set}
use Rattle.place_graph.specs.Graphs.{edges_of, is_among, Reaches, edge, further, AreWithin, IsGraph}
use Rattle.place_graph.specs.Searches.{is_marked, MarksAll, IsReached, AreReturning, AreSearched}
use Rattle.place_graph.proofs.Marks.{is_among-append, or_true, or_false}
use Rattle.place_graph.proofs.Settled.{edges_within}

pub marked_within : (marks : List Bool) (x : ℕ) → is_marked marks x ≡ true → x < length marks
marked_within marks x t = elim (cases_lt x (length marks)) [
  | inl h ↦ h
  | inr h ↦ let past : is_marked marks x ≡ false = get_or_past marks x false h in cc
]

pub among_within : (n x : ℕ) (xs : List ℕ) → AreWithin n xs → is_among x xs ≡ true → x < n
among_within n x xs all t = go xs (λ i h. all i 0 h) t
  where
    go : (ys : List ℕ) → ((i : ℕ) → i < length ys → get_or ys i 0 < n) → is_among x ys ≡ true → x < n
    go [] h t = cc
    go (y ∷ ys) h t = elim (or_cases (eqb y x) (is_among x ys) t) [
      | inl e ↦ subst (λ (z : ℕ). z < n) (eqb-true y x e) (h 0 (omega arith))
      | inr e ↦ go ys (λ i k. h (suc i) (omega (arith, k))) e
    ]

pub mark_new : (marks : List Bool) (queue : List ℕ) (place : ℕ) → place < length marks → is_marked marks place ≡ false
    → MarksAll marks queue (place ∷ []) (set marks place true) (queue ++ place ∷ [])
mark_new marks queue place within not_yet = record {
  marks = λ x h. at x (cases_eq x place);
  covers = λ x t. covered x (cases_eq x place) t;
  keeps = λ x t. is_among-append x queue (place ∷ []) ∙ rw t refl;
  from = λ x t. elim (or_cases (is_among x queue) (is_among x (place ∷ [])) (sym (is_among-append x queue (place ∷ [])) ∙ t)) [
    | inl e ↦ inl e
    | inr e ↦
        let same : place ≡ x = eqb-true place x (sym (or_false (eqb place x)) ∙ e) in
        inr (subst (λ (z : ℕ). is_marked (set marks place true) z ≡ true) same (get_or-set_same marks place true false within))
  ];
  work = work;
}
  where
    at : (x : ℕ) → (x ≡ place) ⊎ (x ≡ place → ⊥) → is_marked (set marks place true) x ≡ (is_marked marks x || is_among x (place ∷ []))
    at x (inl e) = rw e (get_or-set_same marks place true false within ∙ sym (rw (eq-eqb place place refl) (or_true (is_marked marks place))))
    at x (inr n) =
        get_or-set_other marks place x true false n ∙ sym (rw (ne_eqb place x (λ e. n (sym e))) (or_false (is_marked marks x)))

    covered : (x : ℕ) → (x ≡ place) ⊎ (x ≡ place → ⊥) → is_marked (set marks place true) x ≡ true → (is_marked marks x ≡ true) ⊎ (is_among x (queue ++ place ∷ []) ≡ true)
    covered x (inl e) t = inr (is_among-append x queue (place ∷ []) ∙ rw (eq-eqb place x (sym e)) (or_true (is_among x queue)))
    covered x (inr n) t = inl (sym (get_or-set_other marks place x true false n) ∙ t)

    work : count_by not (set marks place true) + length (queue ++ place ∷ []) ≡ count_by not marks + length queue
    work =
        let sum = sum_by-set (λ (b : Bool). cond (not b) 1 0) marks place true false within in
        let old : ◌≡◌ {A = ℕ} (cond (not (get_or marks place false)) 1 0) 1 = rw not_yet refl in
        omega (arith, sum, old, length_push queue place)

pub mark_then : (a b c : List Bool) (o p q xs ys : List ℕ) → length b ≡ length a → MarksAll a o xs b p → MarksAll b p ys c q → MarksAll a o (xs ++ ys) c q
mark_then a b c o p q xs ys e one two = record {
  marks = λ x h. two.marks x (omega (arith, e, h)) ∙ rw (one.marks x h, is_among-append x xs ys) (or_assoc (is_marked a x) (is_among x xs) (is_among x ys));
  covers = λ x t. elim (two.covers x t) [
    | inl s ↦ elim (one.covers x s) [ inl u ↦ inl u | inr u ↦ inr (two.keeps x u) ]
    | inr s ↦ inr s
  ];
  keeps = λ x t. two.keeps x (one.keeps x t);
  from = λ x t. elim (two.from x t) [
    | inl s ↦ elim (one.from x s) [ inl u ↦ inl u | inr u ↦ inr (later x u) ]
    | inr s ↦ inr s
  ];
  work = two.work ∙ one.work;
}
  where
    or_assoc : (u v w : Bool) → ((u || v) || w) ≡ (u || (v || w))
    or_assoc true v w = refl
    or_assoc false v w = refl

    later : (x : ℕ) → is_marked b x ≡ true → is_marked c x ≡ true
    later x t = two.marks x (marked_within b x t) ∙ rw t refl

pub mark_none : (a : List Bool) (o : List ℕ) → MarksAll a o [] a o
mark_none a o = record {
  marks = λ x h. sym (or_false (is_marked a x));
  covers = λ x t. inl t;
  keeps = λ x t. t;
  from = λ x t. inl t;
  work = refl;
}

pub reaches_then : (graph : List (List ℕ)) (a b c : ℕ) → Reaches graph a b → is_among c (edges_of graph b) ≡ true → Reaches graph a c
reaches_then graph a b c (edge p q t) u = further p q c t (edge q c u)
reaches_then graph a b c (further p q r t more) u = further p q c t (reaches_then graph q r c more u)

pub reaches_on : (graph : List (List ℕ)) (a b c : ℕ) → Reaches graph a b → Reaches graph b c → Reaches graph a c
reaches_on graph a b c (edge p q t) more = further p q c t more
reaches_on graph a b c (further p q r t rest) more = further p q c t (reaches_on graph q r c rest more)

-- a search: what is marked is reached, and the edges of what is marked and no longer in the queue lead to what is marked
pub record IsSearch (graph : List (List ℕ)) (from : ℕ) (marks : List Bool) (queue : List ℕ) : Type 0 where
  pub all : length marks ≡ length graph
  pub sound : (x : ℕ) → is_marked marks x ≡ true → Reaches graph from x
  pub queued : (x : ℕ) → is_among x queue ≡ true → is_marked marks x ≡ true
  pub start : (x : ℕ) → is_among x (edges_of graph from) ≡ true → is_marked marks x ≡ true
  pub closed : (x y : ℕ) → is_marked marks x ≡ true → (is_among x queue ≡ true) ⊎ (is_among y (edges_of graph x) ≡ true → is_marked marks y ≡ true)

none_marked : (n x : ℕ) → is_marked (replicate n false) x ≡ true → ⊥
none_marked n x t =
    let within = marked_within (replicate n false) x t in
    let no : is_marked (replicate n false) x ≡ false = get_or-replicate n x false false (omega (arith, within, length-replicate n false)) in
    cc

pub search_begins : (graph : List (List ℕ)) (from : ℕ) (marks new : List Bool) (queue : List ℕ) → IsGraph graph → marks ≡ replicate (length graph) false → length new ≡ length marks
    → MarksAll marks [] (edges_of graph from) new queue → IsSearch graph from new queue
search_begins graph from marks new queue is_graph e same step = record {
  all = same ∙ count;
  sound = λ x t. elim (or_cases (is_marked marks x) (is_among x (edges_of graph from)) (sym (step.marks x (within x t)) ∙ t)) [
    | inl s ↦ absurd (none x s)
    | inr s ↦ edge from x s
  ];
  queued = λ x t. elim (step.from x t) [ inl s ↦ cc | inr s ↦ s ];
  start = λ x t. step.marks x (omega (arith, count, among_within (length graph) x (edges_of graph from) (edges_within (length graph) graph from is_graph) t)) ∙ rw t (or_true (is_marked marks x));
  closed = λ x y t. elim (step.covers x t) [ inl s ↦ absurd (none x s) | inr s ↦ inl s ];
}
  where
    count : length marks ≡ length graph
    count = rw e (length-replicate (length graph) false)

    within : (x : ℕ) → is_marked new x ≡ true → x < length marks
    within x t = omega (arith, same, marked_within new x t)

    none : (x : ℕ) → is_marked marks x ≡ true → ⊥
    none x s = none_marked (length graph) x (subst (λ (m : List Bool). is_marked m x ≡ true) e s)

pub search_goes_on : (graph : List (List ℕ)) (from : ℕ) (marks new : List Bool) (queue rest later : List ℕ) (place : ℕ) → IsGraph graph → IsSearch graph from marks queue
    → queue ≡ rest ++ place ∷ [] → length new ≡ length marks → MarksAll marks rest (edges_of graph place) new later → IsSearch graph from new later
search_goes_on graph from marks new queue rest later place is_graph is e same step = record {
  all = same ∙ is.all;
  sound = λ x t. elim (or_cases (is_marked marks x) (is_among x (edges_of graph place)) (sym (step.marks x (omega (arith, same, marked_within new x t))) ∙ t)) [
    | inl s ↦ is.sound x s
    | inr s ↦ reaches_then graph from place x (is.sound place (is.queued place last)) s
  ];
  queued = λ x t. elim (step.from x t) [ inl s ↦ still x (is.queued x (in_queue x s)) | inr s ↦ s ];
  start = λ x t. still x (is.start x t);
  closed = λ x y t. elim (step.covers x t) [
    | inl s ↦ elim (is.closed x y s) [
      | inl u ↦ elim (or_cases (is_among x rest) (is_among x (place ∷ [])) (split x u)) [
        | inl v ↦ inl (step.keeps x v)
        | inr v ↦
            let here : place ≡ x = eqb-true place x (sym (or_false (eqb place x)) ∙ v) in
            inr (λ w. of_place y (subst (λ (z : ℕ). is_among y (edges_of graph z) ≡ true) (sym here) w))
      ]
      | inr u ↦ inr (λ w. still y (u w))
    ]
    | inr s ↦ inl s
  ];
}
  where
    still : (x : ℕ) → is_marked marks x ≡ true → is_marked new x ≡ true
    still x t = step.marks x (marked_within marks x t) ∙ rw t refl

    split : (x : ℕ) → is_among x queue ≡ true → (is_among x rest || is_among x (place ∷ [])) ≡ true
    split x t = sym (is_among-append x rest (place ∷ [])) ∙ subst (λ (xs : List ℕ). is_among x xs ≡ true) e t

    in_queue : (x : ℕ) → is_among x rest ≡ true → is_among x queue ≡ true
    in_queue x t = rw e (is_among-append x rest (place ∷ []) ∙ rw t refl)

    last : is_among place queue ≡ true
    last = rw e (is_among-append place rest (place ∷ []) ∙ rw (eq-eqb place place refl) (or_true (is_among place rest)))

    of_place : (y : ℕ) → is_among y (edges_of graph place) ≡ true → is_marked new y ≡ true
    of_place y t =
        step.marks y (omega (arith, is.all, among_within (length graph) y (edges_of graph place) (edges_within (length graph) graph place is_graph) t))
        ∙ rw t (or_true (is_marked marks y))

reached_all : (graph : List (List ℕ)) (from : ℕ) (marks : List Bool) → IsSearch graph from marks [] → (a x : ℕ)
    → ((y : ℕ) → is_among y (edges_of graph a) ≡ true → is_marked marks y ≡ true) → Reaches graph a x → is_marked marks x ≡ true
reached_all graph from marks is a x all (edge p q t) = all q t
reached_all graph from marks is a x all (further p q r t more) =
    reached_all graph from marks is q r (λ y u. elim (is.closed q y (all q t)) [ inl s ↦ cc | inr s ↦ s u ]) more

pub search_ends : (graph : List (List ℕ)) (from : ℕ) (marks : List Bool) (queue : List ℕ) → queue ≡ [] → IsSearch graph from marks queue → IsReached graph from marks
search_ends graph from marks queue e is =
    let done : IsSearch graph from marks [] = subst (IsSearch graph from marks) e is in
    record {
      all = done.all;
      only = done.sound;
      each = λ x r. reached_all graph from marks done from x done.start r;
    }

pub returning_more : (graph : List (List ℕ)) (n : ℕ) (returning marks : List Bool) (b : Bool) → IsReached graph n marks → b ≡ is_marked marks n → AreReturning graph n returning
    → AreReturning graph (n + 1) (returning ++ b ∷ [])
returning_more graph n returning marks b reached e are = record {
  all = length_push returning b ∙ ap (λ m. m + 1) are.all;
  only = λ x t. only x (cases_eq x n) (cases_lt x n) t;
  each = λ x h r. each x (cases_eq x n) h r;
}
  where
    before : (x : ℕ) → x < n → is_marked (returning ++ b ∷ []) x ≡ is_marked returning x
    before x h = get_or_append_left returning (b ∷ []) false x (omega (arith, are.all, h))

    here : is_marked (returning ++ b ∷ []) n ≡ b
    here = get_or_push returning b false n are.all

    only : (x : ℕ) → (x ≡ n) ⊎ (x ≡ n → ⊥) → (x < n) ⊎ (n ≤ x) → is_marked (returning ++ b ∷ []) x ≡ true → Reaches graph x x
    only x (inl same) s t = rw same (reached.only n (sym e ∙ (sym here ∙ subst (λ (y : ℕ). is_marked (returning ++ b ∷ []) y ≡ true) same t)))
    only x (inr other) (inl less) t = are.only x (sym (before x less) ∙ t)
    only x (inr other) (inr above) t = absurd (omega (arith, other, above, are.all, length_push returning b, marked_within (returning ++ b ∷ []) x t))

    each : (x : ℕ) → (x ≡ n) ⊎ (x ≡ n → ⊥) → x < n + 1 → Reaches graph x x → is_marked (returning ++ b ∷ []) x ≡ true
    each x (inl same) h r = rw same (here ∙ (e ∙ reached.each n (subst (λ (y : ℕ). Reaches graph y y) same r)))
    each x (inr other) h r = before x (omega (arith, other, h)) ∙ are.each x (omega (arith, other, h)) r

pub searched_more : (graph : List (List ℕ)) (n : ℕ) (marks : List Bool) → IsReached graph n marks → AreSearched graph n → AreSearched graph (n + 1)
searched_more graph n marks reached are x h = elim (cases_eq x n) [
  | inl same ↦ (marks, rw same reached)
  | inr other ↦ are x (omega (arith, other, h))
]

pub taken_within : (graph : List (List ℕ)) (from : ℕ) (marks : List Bool) (queue rest : List ℕ) (place : ℕ) → IsSearch graph from marks queue → queue ≡ rest ++ place ∷ [] → place < length graph
taken_within graph from marks queue rest place is e =
    let last : is_among place queue ≡ true = rw e (is_among-append place rest (place ∷ []) ∙ rw (eq-eqb place place refl) (or_true (is_among place rest))) in
    omega (arith, is.all, marked_within marks place (is.queued place last))
