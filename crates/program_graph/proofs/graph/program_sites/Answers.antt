use Rattle.std.proofs.Common.{All, sym, subst}
use Rattle.class_model.specs.Shape.{Shaped, IsMethod}
use Rattle.task_annotations.specs.Sites.{Site}
use Rattle.program_graph.proofs.Members.{sites-well}
use Rattle.program_graph.proofs.graph.program_sites.Goals as goal

pub returns-clause-shaped : goal.returns-clause-shaped
returns-clause-shaped c =
    subst (All (λ (s : Site). Shaped s.class × IsMethod s.class.pool s.method)) (sym c.in_ok-sites_of.ensures)
    (sites-well c.classes-classes.result.now (subst (All Shaped) (sym c.classes-classes.ensures.value) c.classes-classes.ensures.program.shaped))
