use Rattle.std.proofs.Common.{All, map, IsPermutation, sym, subst, ap, ◌∙◌}
use Rattle.std.proofs.lemmas.List.Sorted.{All-permutation, IsPermutation-map, IsPermutation-trans}
use Rattle.class_model.specs.Shape.{Shaped, IsMethod}
use Rattle.task_annotations.specs.Sites.{Site}
use Rattle.task_annotations.specs.Reading.{sites_read}
use Rattle.program_graph.specs.Tasks.{Task, IsAccepted}
use Rattle.program_graph.specs.Reading.{tasks_read}
use Rattle.program_graph.proofs.graph.tasks_in_order.Goals as goal

pub tasks_of-requires : goal.tasks_of-requires
tasks_of-requires c =
    let P : Site → Type 0 = λ s. Shaped s.class × IsMethod s.class.pool s.method in
    subst (λ ss. All P (sites_read ss)) (sym c.deref.ensures.value)
    (All-permutation P (sites_read c.args.sites.items) (sites_read c.sort_sites.new.sites.items) c.in_ok-sort_sites.ensures.same c.requires.shaped)

pub returns-clause-tasks : goal.returns-clause-tasks
returns-clause-tasks c =
    let found = tasks_read c.in_ok-tasks.tasks.items in
    let sorted = tasks_read c.sort_tasks.new.tasks.items in
    let moved = IsPermutation-map (λ (t : Task). t.site) found sorted c.sort_tasks.ensures.same in
    record {
      within = c.requires.within;
      same = IsPermutation-trans (sites_read c.args.sites.items) (sites_read c.sort_sites.new.sites.items) (map (λ (t : Task). t.site) sorted) c.in_ok-sort_sites.ensures.same
          (subst (λ ss. IsPermutation ss (map (λ (t : Task). t.site) sorted)) (c.in_ok-tasks.ensures.sites ∙ ap sites_read c.deref.ensures.value) moved);
      accepted = All-permutation IsAccepted found sorted c.sort_tasks.ensures.same c.in_ok-tasks.ensures.accepted;
      sorted = c.in_ok-sort_tasks.ensures.sorted;
    }
