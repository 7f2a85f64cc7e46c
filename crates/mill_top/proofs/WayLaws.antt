-- Laws of the ways that inputs lead from a task.
use Rattle.std.proofs.Common.{◌≡◌, ◌≢◌, ◌⊎◌, inl, inr, ℕ, ℤ, zero, suc, ◌≤◌, ◌==◌, Bool, true, false, ◌||◌, List, [], ◌∷◌, length, map, flat_map, Option, Some, None, cond, is_some, nat_eq, refl, sym, ap, subst, ◌∙◌, arith}
use Rattle.std.specs.Cmp.{nat_eq_equiv}
use Rattle.std.specs.List.{AllByRecursion, IsDistinct, list_all, list_any}
use Rattle.std.specs.Option.{option_map_or}
use Rattle.std.proofs.lemmas.Bool.{eqb-true, eq-eqb, ne_eqb, or_left, or_right}
use Rattle.std.proofs.lemmas.List.{append-nil, length-map}
use Rattle.std.proofs.Math.Bool.{and-true}
use Rattle.std.proofs.lemmas.Map.Made.{length-le_from_is_member}
use Rattle.mill_top.specs.declared.operation.Operation.{Operation}
use Rattle.mill_top.specs.declared.task_file.Body.{Body}
use Rattle.mill_top.specs.declared.task_file.Body.TheVariants.{Constant, Linked}
use Rattle.mill_top.specs.declared.task_file.TaskFile.{TaskFile}
use Rattle.mill_top.specs.Graphs.{file_with, inputs_of, inputs_in, leads}
use Rattle.mill_top.proofs.FindLaws.{all-weaker, any-easier}
use Rattle.mill_top.proofs.GraphLaws.{IsSound}

-- what is known of a task: there is none, it is a constant, or it has an input
pub data IsKind (graph : List TaskFile) (task : ℕ) : Type 0 where
  absent : file_with graph task ≡ None → IsKind graph task
  constant : (file : TaskFile) (value : ℤ) → file_with graph task ≡ Some file → file.body ≡ Constant value → IsKind graph task
  linked : (file : TaskFile) (input : ℕ) (operation : Operation) (value : ℤ) → file_with graph task ≡ Some file → file.body ≡ Linked input operation value → IsKind graph task

kind-body : (graph : List TaskFile) (task : ℕ) (file : TaskFile) (body : Body) → file_with graph task ≡ Some file → file.body ≡ body → IsKind graph task
kind-body graph task file (Constant value) has is = constant file value has is
kind-body graph task file (Linked input operation value) has is = linked file input operation value has is

kind-found : (graph : List TaskFile) (task : ℕ) (found : Option TaskFile) → file_with graph task ≡ found → IsKind graph task
kind-found graph task None has = absent has
kind-found graph task (Some file) has = kind-body graph task file file.body has refl

pub kind : (graph : List TaskFile) (task : ℕ) → IsKind graph task
kind graph task = kind-found graph task (file_with graph task) refl

pub inputs-absent : (graph : List TaskFile) (task : ℕ) → file_with graph task ≡ None → inputs_in graph task ≡ []
inputs-absent graph task has = rw has refl

inputs-file : (graph : List TaskFile) (task : ℕ) (file : TaskFile) → file_with graph task ≡ Some file → inputs_in graph task ≡ inputs_of file.body
inputs-file graph task file has = rw has refl

pub inputs-constant : (graph : List TaskFile) (task : ℕ) (file : TaskFile) (value : ℤ) → file_with graph task ≡ Some file → file.body ≡ Constant value → inputs_in graph task ≡ []
inputs-constant graph task file value has body = inputs-file graph task file has ∙ ap inputs_of body

pub inputs-linked : (graph : List TaskFile) (task : ℕ) (file : TaskFile) (input : ℕ) (operation : Operation) (value : ℤ) → file_with graph task ≡ Some file
    → file.body ≡ Linked input operation value → inputs_in graph task ≡ input ∷ []
inputs-linked graph task file input operation value has body = inputs-file graph task file has ∙ ap inputs_of body

further-easier : (here fewer more : Bool) → (fewer ≡ true → more ≡ true) → (here || fewer) ≡ true → (here || more) ≡ true
further-easier true fewer more later e = refl
further-easier false fewer more later e = later e

-- more steps lead wherever fewer do
pub leads-more : (n m : ℕ) (graph : List TaskFile) (task goal : ℕ) → n ≤ m → leads n graph task goal ≡ true → leads m graph task goal ≡ true
leads-more zero m graph task goal less is = cc
leads-more (suc n) zero graph task goal less is = absurd (omega arith)
leads-more (suc n) (suc m) graph task goal less is =
    any-easier (λ input. (input == goal) || leads n graph input goal) (λ input. (input == goal) || leads m graph input goal) (inputs_in graph task)
    (λ input. further-easier (input == goal) (leads n graph input goal) (leads m graph input goal) (leads-more n m graph input goal (omega arith))) is

-- a way from an input is one from the task
leads-from : (n : ℕ) (graph : List TaskFile) (task input goal : ℕ) → inputs_in graph task ≡ input ∷ [] → (goal ≡ input) ⊎ (leads n graph input goal ≡ true)
    → leads (suc n) graph task goal ≡ true
leads-from n graph task input goal is way =
    ap (list_any (λ own. (own == goal) || leads n graph own goal)) is ∙ or_left ((input == goal) || leads n graph input goal) false (here way) where
      here : (goal ≡ input) ⊎ (leads n graph input goal ≡ true) → ((input == goal) || leads n graph input goal) ≡ true
      here (inl same) = or_left (input == goal) (leads n graph input goal) (eq-eqb input goal (sym same))
      here (inr further) = or_right (input == goal) (leads n graph input goal) further

-- the tasks on the way from a task on, itself first, n at most
abbrev pub way : ℕ → List TaskFile → ℕ → List ℕ
way zero graph task = []
way (suc n) graph task = option_map_or (λ file. task ∷ flat_map (way n graph) (inputs_of file.body)) (file_with graph task) []

pub way-absent : (n : ℕ) (graph : List TaskFile) (task : ℕ) → file_with graph task ≡ None → way (suc n) graph task ≡ []
way-absent n graph task has = rw has refl

way-file : (n : ℕ) (graph : List TaskFile) (task : ℕ) (file : TaskFile) → file_with graph task ≡ Some file
    → way (suc n) graph task ≡ task ∷ flat_map (way n graph) (inputs_of file.body)
way-file n graph task file has = rw has refl

pub way-constant : (n : ℕ) (graph : List TaskFile) (task : ℕ) (file : TaskFile) (value : ℤ) → file_with graph task ≡ Some file → file.body ≡ Constant value
    → way (suc n) graph task ≡ task ∷ []
way-constant n graph task file value has body = way-file n graph task file has ∙ ap (λ (b : Body). task ∷ flat_map (way n graph) (inputs_of b)) body

pub way-linked : (n : ℕ) (graph : List TaskFile) (task : ℕ) (file : TaskFile) (input : ℕ) (operation : Operation) (value : ℤ) → file_with graph task ≡ Some file
    → file.body ≡ Linked input operation value → way (suc n) graph task ≡ task ∷ way n graph input
way-linked n graph task file input operation value has body =
    way-file n graph task file has
    ∙ ap (λ (b : Body). task ∷ flat_map (way n graph) (inputs_of b)) body
    ∙ ap (λ (tasks : List ℕ). task ∷ tasks) (append-nil (way n graph input))

-- the task itself, or one to which it leads
abbrev IsOn : ℕ → List TaskFile → ℕ → ℕ → Type 0
IsOn n graph task goal = (goal ≡ task) ⊎ (leads n graph task goal ≡ true)

on-way-from : (n : ℕ) (graph : List TaskFile) (task input : ℕ) → inputs_in graph task ≡ input ∷ [] → AllByRecursion (IsOn n graph input) (way (suc n) graph input)
    → AllByRecursion (IsOn (suc n) graph task) (way (suc n) graph input)
on-way-from n graph task input is all =
    all-weaker (IsOn n graph input) (IsOn (suc n) graph task) (way (suc n) graph input) (λ goal on. inr (leads-from n graph task input goal is on)) all

on-way-step : (n : ℕ) (graph : List TaskFile) (task : ℕ)
    → ((input : ℕ) → inputs_in graph task ≡ input ∷ [] → AllByRecursion (IsOn n graph task) (way n graph input)) → IsKind graph task
    → AllByRecursion (IsOn n graph task) (way (suc n) graph task)
on-way-step n graph task further (absent has) = subst (AllByRecursion (IsOn n graph task)) (sym (way-absent n graph task has)) tt
on-way-step n graph task further (constant file value has body) =
    subst (AllByRecursion (IsOn n graph task)) (sym (way-constant n graph task file value has body)) (inl refl, tt)
on-way-step n graph task further (linked file input operation value has body) =
    subst (AllByRecursion (IsOn n graph task)) (sym (way-linked n graph task file input operation value has body))
    (inl refl, further input (inputs-linked graph task file input operation value has body))

-- each task on the way is led to
pub on-way : (n : ℕ) (graph : List TaskFile) (task : ℕ) → AllByRecursion (IsOn n graph task) (way (suc n) graph task)
on-way zero graph task = on-way-step zero graph task (λ input is. tt) (kind graph task)
on-way (suc n) graph task = on-way-step (suc n) graph task (λ input is. on-way-from n graph task input is (on-way n graph input)) (kind graph task)

-- a task isn't on the way from its input
pub fresh : (n : ℕ) (graph : List TaskFile) (task : ℕ) (file : TaskFile) (input : ℕ) → IsSound graph → n ≤ length graph → file_with graph task ≡ Some file
    → inputs_in graph task ≡ input ∷ [] → AllByRecursion (λ goal. goal ≢ task) (way n graph input)
fresh zero graph task file input sound short has is = tt
fresh (suc n) graph task file input sound short has is =
    all-weaker (IsOn n graph input) (λ goal. goal ≢ task) (way (suc n) graph input)
    (λ goal on same.
    let led : leads (suc n) graph task goal ≡ true = leads-from n graph task input goal is on in
    let back : leads (length graph) graph task task ≡ true = leads-more (suc n) (length graph) graph task task short (subst (λ g. leads (suc n) graph task g ≡ true) same led) in
    let open_end = sound.acyclic task file has in
    cc)
    (on-way n graph input)

pub unequal : (task : ℕ) (tasks : List ℕ) → AllByRecursion (λ goal. goal ≢ task) tasks → AllByRecursion (λ goal. nat_eq task goal ≡ false) tasks
unequal task tasks all = all-weaker (λ goal. goal ≢ task) (λ goal. nat_eq task goal ≡ false) tasks (λ goal differs. ne_eqb task goal (λ same. differs (sym same))) all

distinct-step : (n : ℕ) (graph : List TaskFile) (task : ℕ) → IsSound graph → n ≤ length graph → ((input : ℕ) → IsDistinct nat_eq (way n graph input)) → IsKind graph task
    → IsDistinct nat_eq (way (suc n) graph task)
unfolding IsDistinct
distinct-step n graph task sound short further (absent has) = subst (IsDistinct nat_eq) (sym (way-absent n graph task has)) tt
distinct-step n graph task sound short further (constant file value has body) =
    subst (IsDistinct nat_eq) (sym (way-constant n graph task file value has body)) (tt, tt)
distinct-step n graph task sound short further (linked file input operation value has body) =
    let is = inputs-linked graph task file input operation value has body in
    subst (IsDistinct nat_eq) (sym (way-linked n graph task file input operation value has body))
    (unequal task (way n graph input) (fresh n graph task file input sound short has is), further input)

-- no task is on the way twice
distinct : (n : ℕ) (graph : List TaskFile) (task : ℕ) → IsSound graph → n ≤ suc (length graph) → IsDistinct nat_eq (way n graph task)
unfolding IsDistinct
distinct zero graph task sound short = tt
distinct (suc n) graph task sound short =
    distinct-step n graph task sound (omega arith) (λ input. distinct n graph input sound (omega arith)) (kind graph task)

abbrev IsMember : List TaskFile → ℕ → Type 0
IsMember graph task = list_any (nat_eq task) (map (λ file. file.task) graph) ≡ true

member-by : (file : TaskFile) (graph : List TaskFile) (task : ℕ) (rest : Option TaskFile) (same : Bool) → (file.task == task) ≡ same → (is_some rest ≡ true → IsMember graph task)
    → is_some (cond same (Some file) rest) ≡ true → IsMember (file ∷ graph) task
member-by file graph task rest true is later e = or_left (nat_eq task file.task) (list_any (nat_eq task) (map (λ own. own.task) graph)) (eq-eqb task file.task (sym (eqb-true file.task task is)))
member-by file graph task rest false is later e = or_right (nat_eq task file.task) (list_any (nat_eq task) (map (λ own. own.task) graph)) (later e)

member : (graph : List TaskFile) (task : ℕ) → is_some (file_with graph task) ≡ true → IsMember graph task
member [] task e = cc
member (file ∷ graph) task e = member-by file graph task (file_with graph task) (file.task == task) refl (member graph task) e

way-member-step : (n : ℕ) (graph : List TaskFile) (task : ℕ) → ((input : ℕ) → AllByRecursion (IsMember graph) (way n graph input)) → IsKind graph task
    → AllByRecursion (IsMember graph) (way (suc n) graph task)
way-member-step n graph task further (absent has) = subst (AllByRecursion (IsMember graph)) (sym (way-absent n graph task has)) tt
way-member-step n graph task further (constant file value has body) =
    subst (AllByRecursion (IsMember graph)) (sym (way-constant n graph task file value has body)) (member graph task (ap is_some has), tt)
way-member-step n graph task further (linked file input operation value has body) =
    subst (AllByRecursion (IsMember graph)) (sym (way-linked n graph task file input operation value has body)) (member graph task (ap is_some has), further input)

way-member : (n : ℕ) (graph : List TaskFile) (task : ℕ) → AllByRecursion (IsMember graph) (way n graph task)
way-member zero graph task = tt
way-member (suc n) graph task = way-member-step n graph task (way-member n graph) (kind graph task)

among-by : (graph : List TaskFile) (task goal : ℕ) (same rest : Bool) → nat_eq goal task ≡ same → IsMember graph task → (rest ≡ true → IsMember graph goal)
    → (same || rest) ≡ true → IsMember graph goal
among-by graph task goal true rest is one later e = subst (IsMember graph) (sym (eqb-true goal task is)) one
among-by graph task goal false rest is one later e = later e

among : (graph : List TaskFile) (tasks : List ℕ) → AllByRecursion (IsMember graph) tasks → (goal : ℕ) → list_any (nat_eq goal) tasks ≡ true → IsMember graph goal
among graph [] all goal e = cc
among graph (task ∷ tasks) all goal e = among-by graph task goal (nat_eq goal task) (list_any (nat_eq goal) tasks) refl all.0 (among graph tasks all.1 goal) e

-- a way on which no task comes twice is no longer than the graph has tasks
pub way-fits : (n : ℕ) (graph : List TaskFile) (task : ℕ) → IsDistinct nat_eq (way n graph task) → length (way n graph task) ≤ length graph
way-fits n graph task once =
    subst (λ k. length (way n graph task) ≤ k) (length-map graph (λ file. file.task))
    (length-le_from_is_member nat_eq_equiv (way n graph task) (map (λ file. file.task) graph) once (among graph (way n graph task) (way-member n graph task)))

-- whether the way from a task ends within n tasks
abbrev pub ends : ℕ → List TaskFile → ℕ → Bool
ends zero graph task = false
ends (suc n) graph task = list_all (ends n graph) (inputs_in graph task)

pub ends-linked : (n : ℕ) (graph : List TaskFile) (task input : ℕ) → inputs_in graph task ≡ input ∷ [] → ends (suc n) graph task ≡ ends n graph input
ends-linked n graph task input is = ap (list_all (ends n graph)) is ∙ and-true (ends n graph input)

way-long-step : (n : ℕ) (graph : List TaskFile) (task : ℕ) (file : TaskFile) → IsSound graph → file_with graph task ≡ Some file
    → ((input : ℕ) (own : TaskFile) → inputs_in graph task ≡ input ∷ [] → file_with graph input ≡ Some own → length (way n graph input) ≡ n)
    → (inputs_in graph task ≡ [] → n ≡ 0) → IsKind graph task → length (way (suc n) graph task) ≡ suc n
way-long-step n graph task file sound known further first (absent has) = cc
way-long-step n graph task file sound known further first (constant own value has body) =
    ap length (way-constant n graph task own value has body) ∙ ap suc (sym (first (inputs-constant graph task own value has body)))
way-long-step n graph task file sound known further first (linked own input operation value has body) =
    let at = sound.linked task own input operation value has body in
    ap length (way-linked n graph task own input operation value has body)
    ∙ ap suc (further input at.0 (inputs-linked graph task own input operation value has body) at.1)

-- a way that hasn't ended within n tasks has more
way-long : (n : ℕ) (graph : List TaskFile) (task : ℕ) (file : TaskFile) → IsSound graph → file_with graph task ≡ Some file → ends n graph task ≡ false
    → length (way (suc n) graph task) ≡ suc n
way-long zero graph task file sound known on = way-long-step zero graph task file sound known (λ input own is has. refl) (λ is. refl) (kind graph task)
way-long (suc n) graph task file sound known on =
    way-long-step (suc n) graph task file sound known
    (λ input own is has. way-long n graph input own sound has (sym (ends-linked n graph task input is) ∙ on))
    (λ is. let ended : ends (suc n) graph task ≡ true = ap (list_all (ends n graph)) is in cc)
    (kind graph task)

ended-by : (graph : List TaskFile) (task : ℕ) (file : TaskFile) (ended : Bool) → IsSound graph → file_with graph task ≡ Some file → ends (length graph) graph task ≡ ended
    → ended ≡ true
ended-by graph task file true sound known is = refl
ended-by graph task file false sound known is =
    let long = way-long (length graph) graph task file sound known is in
    let short = way-fits (suc (length graph)) graph task (distinct (suc (length graph)) graph task sound (omega arith)) in
    absurd (omega arith)

-- each way ends within as many tasks as there are
pub ended : (graph : List TaskFile) (task : ℕ) (file : TaskFile) → IsSound graph → file_with graph task ≡ Some file → ends (length graph) graph task ≡ true
ended graph task file sound known = ended-by graph task file (ends (length graph) graph task) sound known refl
