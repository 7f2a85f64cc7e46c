use Rattle.std.proofs.Common.{◌≡◌, take, map}
use Rattle.class_code.specs.Wants.{wants, wants_of}
use Rattle.class_code.proofs.wants.wants_of_all.Given as goal

abbrev pub invariant-loop-entry : goal.invariant-loop-entry
invariant-loop-entry l = map wants l.all.items ≡ map (wants_of l.pool) (take l.entry-index l.entries)
