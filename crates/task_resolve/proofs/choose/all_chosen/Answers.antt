use Rattle.task_resolve.specs.Chosen.{chosen}
use Rattle.task_resolve.proofs.ChosenLaws.{one_more}
use Rattle.task_resolve.proofs.choose.all_chosen.Goals as goal

pub loop-place-preserved : goal.loop-place-preserved
loop-place-preserved c =
    one_more c.args.selectors.now c.args.tasks.now c.loop-place.place c.index-tasks-place.result c.loop-place.found.items c.add_if_chosen.new.found.items (chosen c.args.selectors.now c.args.tasks.now)
    c.loop-place-test.true c.index-tasks-place.is c.in_ok-add_if_chosen.ensures c.loop-place.invariant
