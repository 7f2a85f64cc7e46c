use Rattle.std.proofs.Common.{◌≡◌, drop}
use Rattle.std.specs.List.{list_any}
use Rattle.task_annotations.specs.Sites.{has_many_inputs}
use Rattle.task_annotations.specs.Reading.{sites_read}
use Rattle.task_annotations.proofs.sites.some_has_many.Given as goal

abbrev pub invariant-loop-site : goal.invariant-loop-site
invariant-loop-site l = list_any has_many_inputs (sites_read l.sites) ≡ list_any has_many_inputs (sites_read (drop l.site-index l.sites))
