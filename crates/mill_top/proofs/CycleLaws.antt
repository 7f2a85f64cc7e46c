-- The test for a cycle looks far enough: a task that leads back to itself does so in as many steps as there are tasks.
use Rattle.std.proofs.Common.{◌≡◌, ◌≢◌, ℕ, zero, suc, ◌==◌, Bool, true, false, ◌||◌, List, [], ◌∷◌, length, nat_eq, refl, sym, ap, subst, ◌∙◌, arith}
use Rattle.std.specs.List.{AllByRecursion, IsDistinct, list_any}
use Rattle.std.proofs.Math.Bool.{or-false}
use Rattle.mill_top.specs.declared.task_file.TaskFile.{TaskFile}
use Rattle.mill_top.specs.Graphs.{inputs_in, leads}
use Rattle.mill_top.proofs.FindLaws.{all-weaker}
use Rattle.mill_top.proofs.WayLaws.{IsKind, absent, constant, linked, kind, inputs-absent, inputs-constant, inputs-linked, leads-more, way, way-linked, way-fits, unequal}

-- a task leads to the goal in n more steps, and in no fewer
record IsAway (n : ℕ) (graph : List TaskFile) (task goal : ℕ) : Type 0 where
  there : leads (suc n) graph task goal ≡ true
  not_before : leads n graph task goal ≡ false

-- the way from such a task has n tasks behind it, each of which leads to the goal, and none comes twice
record IsStraight (n : ℕ) (graph : List TaskFile) (task goal : ℕ) : Type 0 where
  long : length (way (suc n) graph task) ≡ suc n
  all : AllByRecursion (λ own. leads (suc n) graph own goal ≡ true) (way (suc n) graph task)
  distinct : IsDistinct nat_eq (way (suc n) graph task)

leads-input : (n : ℕ) (graph : List TaskFile) (task input goal : ℕ) → inputs_in graph task ≡ input ∷ []
    → leads (suc n) graph task goal ≡ ((input == goal) || leads n graph input goal)
leads-input n graph task input goal is =
    ap (list_any (λ own. (own == goal) || leads n graph own goal)) is ∙ or-false ((input == goal) || leads n graph input goal)

further : (here later now : Bool) → (here || later) ≡ true → (here || now) ≡ false → later ≡ true
further true later now there before = cc
further false later now there before = there

not_yet : (here now : Bool) → (here || now) ≡ false → now ≡ false
not_yet true now e = cc
not_yet false now e = e

-- so its input is one step nearer
away-input : (n : ℕ) (graph : List TaskFile) (task input goal : ℕ) → inputs_in graph task ≡ input ∷ [] → IsAway (suc n) graph task goal → IsAway n graph input goal
away-input n graph task input goal is away =
    let there : ((input == goal) || leads (suc n) graph input goal) ≡ true = sym (leads-input (suc n) graph task input goal is) ∙ away.there in
    let before : ((input == goal) || leads n graph input goal) ≡ false = sym (leads-input n graph task input goal is) ∙ away.not_before in
    record {
      there = further (input == goal) (leads (suc n) graph input goal) (leads n graph input goal) there before;
      not_before = not_yet (input == goal) (leads n graph input goal) before;
    }

straight-step : (n : ℕ) (graph : List TaskFile) (task goal : ℕ) → IsAway n graph task goal
    → ((input : ℕ) → inputs_in graph task ≡ input ∷ []
    → (length (way n graph input) ≡ n) × AllByRecursion (λ own. leads n graph own goal ≡ true) (way n graph input) × IsDistinct nat_eq (way n graph input))
    → IsKind graph task → IsStraight n graph task goal
unfolding IsDistinct
straight-step n graph task goal away rest (absent has) =
    let none : leads (suc n) graph task goal ≡ false = ap (list_any (λ own. (own == goal) || leads n graph own goal)) (inputs-absent graph task has) in
    let there = away.there in
    cc
straight-step n graph task goal away rest (constant file value has body) =
    let none : leads (suc n) graph task goal ≡ false = ap (list_any (λ own. (own == goal) || leads n graph own goal)) (inputs-constant graph task file value has body) in
    let there = away.there in
    cc
straight-step n graph task goal away rest (linked file input operation value has body) =
    let own = rest input (inputs-linked graph task file input operation value has body) in
    let is = sym (way-linked n graph task file input operation value has body) in
    record {
      long = subst (λ tasks. length tasks ≡ suc n) is (ap suc own.0);
      all = subst (AllByRecursion (λ one. leads (suc n) graph one goal ≡ true)) is
          (away.there, all-weaker (λ one. leads n graph one goal ≡ true) (λ one. leads (suc n) graph one goal ≡ true) (way n graph input) (λ one led. leads-more n (suc n) graph one goal (omega arith) led) own.1);
      distinct = subst (IsDistinct nat_eq) is (
        unequal task (way n graph input) (all-weaker (λ one. leads n graph one goal ≡ true) (λ one. one ≢ task) (way n graph input)
            (λ one led same. let again : leads n graph task goal ≡ true = subst (λ t. leads n graph t goal ≡ true) same led in let before = away.not_before in cc) own.1),
        own.2,
      );
    }

straight : (n : ℕ) (graph : List TaskFile) (task goal : ℕ) → IsAway n graph task goal → IsStraight n graph task goal
unfolding IsDistinct
straight zero graph task goal away = straight-step zero graph task goal away (λ input is. (refl, tt, tt)) (kind graph task)
straight (suc n) graph task goal away =
    straight-step (suc n) graph task goal away
    (λ input is. let own = straight n graph input goal (away-input n graph task input goal is away) in (own.long, own.all, own.distinct))
    (kind graph task)

back-by : (n : ℕ) (graph : List TaskFile) (task : ℕ) (sooner : Bool) → leads n graph task task ≡ sooner → (leads n graph task task ≡ true → leads (length graph) graph task task ≡ true)
    → leads (suc n) graph task task ≡ true → leads (length graph) graph task task ≡ true
back-by n graph task true is earlier there = earlier is
back-by n graph task false is earlier there =
    let own = straight n graph task task (record { there = there; not_before = is }) in
    let long = own.long in
    let short = way-fits (suc n) graph task own.distinct in
    leads-more (suc n) (length graph) graph task task (omega arith) there

-- a way back of any length gives one of as many steps as there are tasks
pub way_back : (n : ℕ) (graph : List TaskFile) (task : ℕ) → leads n graph task task ≡ true → leads (length graph) graph task task ≡ true
way_back zero graph task there = cc
way_back (suc n) graph task there = back-by n graph task (leads n graph task task) refl (way_back n graph task) there
