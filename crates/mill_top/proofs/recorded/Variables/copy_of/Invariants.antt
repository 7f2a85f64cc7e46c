use Rattle.std.proofs.Common.{◌≡◌, take}
use Rattle.mill_top.proofs.recorded.Variables.copy_of.Given as goal

abbrev pub invariant-loop-variable : goal.invariant-loop-variable
invariant-loop-variable l = l.items.items ≡ take l.variable-index l.variables
