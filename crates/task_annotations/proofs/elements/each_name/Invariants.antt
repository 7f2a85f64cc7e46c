use Rattle.std.proofs.Common.{◌≡◌, [], map, unwrap_or, take}
use Rattle.task_annotations.specs.Declarations.{name_value}
use Rattle.task_annotations.specs.Reading.{all_now}
use Rattle.task_annotations.proofs.elements.each_name.Given as goal

abbrev pub invariant-loop-value : goal.invariant-loop-value
invariant-loop-value l = all_now l.names.items ≡ map (λ v. unwrap_or (name_value l.pool v) []) (take l.value-index l.values)
