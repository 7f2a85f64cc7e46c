use Rattle.std.proofs.Common.{◌≡◌, ◌≤◌, drop}
use Rattle.native_text.specs.Parsing.{digits_behind}
use Rattle.native_text.proofs.parsing.number_within.Given as goal

abbrev pub invariant-loop-unit : goal.invariant-loop-unit
invariant-loop-unit l = record {
  told : digits_behind l.most 0 l.units ≡ digits_behind l.most l.number (drop l.unit-index l.units);
  within : l.number ≤ l.most;
}
