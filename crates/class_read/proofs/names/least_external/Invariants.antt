use Rattle.std.proofs.Common.{◌≡◌, None, drop}
use Rattle.std.specs.Option.{option_copied}
use Rattle.class_index.specs.Least.{least_from}
use Rattle.class_read.specs.Twice.{external_names}
use Rattle.class_read.proofs.names.least_external.Given as goal

abbrev pub invariant-loop-class : goal.invariant-loop-class
invariant-loop-class l =
    least_from (option_copied l.least) (external_names (drop l.class-index l.classes)) ≡ least_from None (external_names l.classes)
