use Rattle.std.proofs.Common.{◌≡◌, length}
use Rattle.std.specs.List.{list_all}
use Rattle.list_natives.specs.Told.{is_told}
use Rattle.list_natives.proofs.telling.are_told.Given as goal

abbrev pub invariant-each : goal.invariant-each
invariant-each g l = list_all (is_told l.world.world) l.slots ≡ list_all (is_told l.world.world) l.rest

abbrev pub decreases-each : goal.decreases-each
decreases-each g l = length l.rest
