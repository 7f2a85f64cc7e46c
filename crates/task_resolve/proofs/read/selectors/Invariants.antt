use Rattle.std.proofs.Common.{◌≡◌, map, take}
use Rattle.task_resolve.specs.Requests.{selector}
use Rattle.task_resolve.proofs.read.selectors.Given as goal

abbrev pub invariant-loop-group : goal.invariant-loop-group
invariant-loop-group l = l.made.items ≡ map selector (map (λ group. group.now) (take l.group-index l.groups))
