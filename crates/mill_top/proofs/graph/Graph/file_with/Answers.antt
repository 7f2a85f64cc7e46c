use Rattle.std.proofs.Common.{None, get_or, sym, ap, ◌∙◌}
use Rattle.mill_top.specs.Graphs.{file_with}
use Rattle.mill_top.proofs.TableLaws.{file_with-below, file_with-table}
use Rattle.mill_top.proofs.graph.Graph.file_with.Goals as goal

pub returns-then-task-lt97 : goal.returns-then-task-lt97
returns-then-task-lt97 c =
    sym (file_with-below 97 c.self.inside.table.items c.args.task c.if-task-lt97.true c.self.invariant.in_place)
    ∙ ap (λ tasks. file_with tasks c.args.task) (sym c.self.invariant.all ∙ c.self.view_is)

pub returns-else-task-lt97 : goal.returns-else-task-lt97
returns-else-task-lt97 c =
    c.file_at.ensures
    ∙ ap (λ table. get_or table c.from.result None) c.as_slice-table.ensures.value
    ∙ sym (file_with-table c.args.self.now c.self.inside.table.items c.args.task c.from.result c.if-task-lt97.false c.from.ensures c.self.invariant.in_place (sym c.self.view_is ∙ c.self.invariant.all))
