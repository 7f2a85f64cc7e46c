use Rattle.std.proofs.Common.{◌≡◌, length}
use Rattle.std.specs.Prelude.{filter, slice_get}
use Rattle.native_model.specs.Lists.{is_there}
use Rattle.list_natives.proofs.telling.next_there.Given as goal

abbrev pub invariant-each : goal.invariant-each
invariant-each l = slice_get (filter is_there l.elements) l.place ≡ slice_get (filter is_there l.rest) l.left

abbrev pub decreases-each : goal.decreases-each
decreases-each l = length l.rest
