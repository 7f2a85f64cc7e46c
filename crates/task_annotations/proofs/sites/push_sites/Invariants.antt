use Rattle.std.proofs.Common.{◌≡◌, ◌++◌, drop}
use Rattle.task_annotations.specs.Sites.{sites_from}
use Rattle.task_annotations.specs.Reading.{sites_read}
use Rattle.task_annotations.proofs.sites.push_sites.Given as goal

abbrev pub invariant-loop-place : goal.invariant-loop-place
invariant-loop-place l =
    sites_read l.fn.sites.items ++ sites_from l.class l.at 0 l.methods
    ≡ sites_read l.sites.items ++ sites_from l.class l.at l.place (drop l.place l.methods)
