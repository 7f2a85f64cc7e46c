use Rattle.std.proofs.Common.{rules, ◌≡◌, ℕ, length, ◌∙◌, sym, ap, subst}
use Rattle.place_graph.specs.Graphs.{AreWithin}
use Rattle.task_graph.specs.Plans.{in_name_order}
use Rattle.task_graph.proofs.Choosing.{chosen_within}
use Rattle.task_graph.proofs.plans.in_name_order.Goals as goal

pub returns-clause-ordered : goal.returns-clause-ordered
returns-clause-ordered c =
    let all : length c.deref_mut.result.now ≡ c.args.count = search rules in
    c.in_ok-ordered.ensures ∙ ap (λ (k : ℕ). in_name_order k c.args.chosen.now) all

pub returns-clause-within : goal.returns-clause-within
returns-clause-within c = subst (AreWithin c.args.count) (sym (returns-clause-ordered c)) (chosen_within c.args.count c.args.chosen.now)
