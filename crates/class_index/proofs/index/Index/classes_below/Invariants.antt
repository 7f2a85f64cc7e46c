use Rattle.std.proofs.Common.{◌≡◌}
use Rattle.class_index.specs.Below.{first_below}
use Rattle.class_index.proofs.index.Index.classes_below.Given as goal

abbrev pub invariant-loop-at : goal.invariant-loop-at
invariant-loop-at l = l.found ≡ first_below l.self l.high l.at
