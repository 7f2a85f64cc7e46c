-- Tasks that are chosen, one by one.
use Rattle.std.proofs.Common.{◌≡◌, ℕ, suc, ◌+◌, ◌<◌, List, [], ◌∷◌, ◌++◌, length, drop, get_or, sym, ap, ◌∙◌, arith}
use Rattle.std.proofs.lemmas.List.{append_assoc}
use Rattle.std.proofs.Math.Seq.{drop-cons}
use Rattle.task_model.specs.declared.task_row.TaskRow.{TaskRow}
use Rattle.task_resolve.specs.Chosen.{first_selecting, chosen_by, chosen_from}
use Rattle.task_resolve.specs.declared.choose.Chosen.{Chosen}
use Rattle.task_resolve.specs.declared.request.Selector.{Selector}

pub one_more : (selectors : List Selector) (tasks : List TaskRow) (place : ℕ) (task : TaskRow) (found new all : List Chosen) → place < length tasks → task ≡ get_or tasks place task
    → new ≡ found ++ chosen_by place task (first_selecting selectors task) → found ++ chosen_from selectors place (drop place tasks) ≡ all → new ++ chosen_from selectors (place + 1) (drop (place + 1) tasks) ≡ all
one_more selectors tasks place task found new all within is made before =
    let next : suc place ≡ place + 1 = omega arith in
    let here : drop place tasks ≡ task ∷ drop (place + 1) tasks =
    drop-cons tasks place task within ∙ ap (λ (t : TaskRow). t ∷ drop (suc place) tasks) (sym is) ∙ ap (λ (n : ℕ). task ∷ drop n tasks) next in
    let rest = chosen_from selectors (place + 1) (drop (place + 1) tasks) in
    ap (λ (xs : List Chosen). xs ++ rest) made ∙ append_assoc found (chosen_by place task (first_selecting selectors task)) rest
    ∙ ap (λ (ts : List TaskRow). found ++ chosen_from selectors place ts) (sym here) ∙ before
