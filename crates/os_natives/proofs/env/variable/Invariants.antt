use Rattle.std.proofs.Common.{◌≡◌, length}
use Rattle.native_model.specs.Outside.{variable}
use Rattle.os_natives.proofs.env.variable.Given as goal

abbrev pub invariant-each : goal.invariant-each
invariant-each l = variable l.variables l.name ≡ variable l.rest l.name

abbrev pub decreases-each : goal.decreases-each
decreases-each l = length l.rest
