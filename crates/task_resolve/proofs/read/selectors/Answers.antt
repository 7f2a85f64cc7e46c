use Rattle.task_resolve.specs.Requests.{is_group}
use Rattle.task_resolve.proofs.ListLaws.{each_read}
use Rattle.task_resolve.proofs.read.selectors.Goals as goal

pub selector-requires : goal.selector-requires
selector-requires c =
    each_read is_group (λ group. group.now) c.args.groups.now c.loop-group.group-index c.group-item.result c.loop-group-test.true c.group-item.is c.requires
