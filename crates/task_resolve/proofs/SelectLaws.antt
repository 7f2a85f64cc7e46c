-- Tasks that are selected, one by one.
use Rattle.std.proofs.Common.{◌≡◌, ℕ, suc, ◌+◌, ◌<◌, List, [], ◌∷◌, ◌++◌, length, drop, get_or, sym, ap, ◌∙◌, arith}
use Rattle.std.proofs.lemmas.List.{append_assoc}
use Rattle.std.proofs.Math.Seq.{drop-cons}
use Rattle.task_model.specs.declared.task_row.TaskId.{TaskId}
use Rattle.task_model.specs.declared.task_row.TaskRow.{TaskRow}
use Rattle.task_resolve.specs.Selected.{if_selected, selected_from}
use Rattle.task_resolve.specs.declared.request.Selector.{Selector}

pub one_more : (selector : Selector) (tasks : List TaskRow) (place : ℕ) (task : TaskRow) (found new all : List TaskId) → place < length tasks → task ≡ get_or tasks place task → new ≡ found ++ if_selected selector place task
    → found ++ selected_from selector place (drop place tasks) ≡ all → new ++ selected_from selector (place + 1) (drop (place + 1) tasks) ≡ all
one_more selector tasks place task found new all within is made before =
    let next : suc place ≡ place + 1 = omega arith in
    let here : drop place tasks ≡ task ∷ drop (place + 1) tasks =
    drop-cons tasks place task within ∙ ap (λ (t : TaskRow). t ∷ drop (suc place) tasks) (sym is) ∙ ap (λ (n : ℕ). task ∷ drop n tasks) next in
    let rest = selected_from selector (place + 1) (drop (place + 1) tasks) in
    ap (λ (xs : List TaskId). xs ++ rest) made ∙ append_assoc found (if_selected selector place task) rest
    ∙ ap (λ (ts : List TaskRow). found ++ selected_from selector place ts) (sym here) ∙ before
