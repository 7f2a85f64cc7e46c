use Rattle.std.proofs.Common.{◌≡◌, ◌++◌, drop}
use Rattle.task_annotations.specs.Sites.{sites_of_from}
use Rattle.task_annotations.specs.Reading.{sites_read}
use Rattle.task_annotations.proofs.sites.sites_of.Given as goal

abbrev pub invariant-loop-at : goal.invariant-loop-at
invariant-loop-at l = sites_of_from 0 l.classes ≡ sites_read l.sites.items ++ sites_of_from l.at (drop l.at l.classes)
