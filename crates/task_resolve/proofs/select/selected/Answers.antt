use Rattle.task_resolve.specs.Selected.{selected}
use Rattle.task_resolve.proofs.SelectLaws.{one_more}
use Rattle.task_resolve.proofs.select.selected.Goals as goal

pub loop-place-preserved : goal.loop-place-preserved
loop-place-preserved c =
    one_more c.args.selector.now c.args.tasks.now c.loop-place.place c.index-tasks-place.result c.loop-place.found.items c.add_if_selected.new.found.items (selected c.args.selector.now c.args.tasks.now)
    c.loop-place-test.true c.index-tasks-place.is c.in_ok-add_if_selected.ensures c.loop-place.invariant
