use Rattle.std.proofs.Common.{◌≡◌, None, replicate}
use Rattle.class_verify.proofs.places.no_places.Given as goal

abbrev pub invariant-loop : goal.invariant-loop
invariant-loop l = l.table.items ≡ replicate l.counter None
