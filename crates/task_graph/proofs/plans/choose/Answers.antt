use Rattle.std.proofs.Common.{◌≡◌, ℕ, List, [], length, ◌∙◌, ap, arith}
use Rattle.place_graph.specs.Graphs.{with_places}
use Rattle.task_graph.specs.Plans.{in_name_order}
use Rattle.task_graph.proofs.Choosing.{marked_are_chosen}
use Rattle.task_graph.proofs.plans.choose.Goals as goal

pub returns : goal.returns
returns c =
    let chosen = c.args.chosen.now in
    let marks : List ℕ = c.mark_all.new.marks in
    let all : length marks ≡ length c.args.marks.now = omega arith in
    let found : c.mark_all.new.found ≡ with_places [] chosen = c.in_ok-mark_all.ensures.found ∙ ap (λ (xs : List ℕ). with_places xs chosen) c.new-found.ensures in
    c.in_ok-ordered.ensures ∙ marked_are_chosen marks c.mark_all.new.found chosen c.in_ok-mark_all.ensures.marking found ∙ ap (λ (k : ℕ). in_name_order k chosen) all
