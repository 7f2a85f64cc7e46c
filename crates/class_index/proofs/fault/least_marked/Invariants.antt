use Rattle.std.proofs.Common.{◌≡◌, None, drop}
use Rattle.std.specs.Option.{option_copied}
use Rattle.class_index.specs.Least.{least_from}
use Rattle.class_index.specs.Supers.{marked_names}
use Rattle.class_index.proofs.fault.least_marked.Given as goal

abbrev pub invariant-loop-at : goal.invariant-loop-at
invariant-loop-at l = least_from (option_copied l.least) (marked_names (drop l.at l.all) (drop l.at l.marks)) ≡ least_from None (marked_names l.all l.marks)
