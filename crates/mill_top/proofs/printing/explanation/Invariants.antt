use Rattle.std.proofs.Common.{◌≡◌, ◌++◌, flat_map}
use Rattle.mill_top.specs.Replies.{explained, in_name_order}
use Rattle.mill_top.proofs.printing.explanation.Given as goal

abbrev pub invariant-loop-task : goal.invariant-loop-task
invariant-loop-task l =
    l.text.items ++ flat_map (λ take. explained take.0 take.1) l.task-iterator ≡ flat_map (λ take. explained take.0 take.1) (in_name_order l.takes)
