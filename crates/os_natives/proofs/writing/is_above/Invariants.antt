use Rattle.std.proofs.Common.{◌≡◌}
use Rattle.std.specs.List.{list_any}
use Rattle.os_natives.proofs.Ways.{front_to}
use Rattle.os_natives.proofs.writing.is_above.Given as goal

abbrev pub invariant-loop-at : goal.invariant-loop-at
invariant-loop-at l = l.found ≡ list_any (λ f. front_to l.at l.path f.0) l.dest
