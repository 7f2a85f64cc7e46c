use Rattle.std.proofs.Common.{◌≡◌, ◌≤◌, ◌++◌, length}
use Rattle.line_text.specs.Lines.{line_of_units}
use Rattle.line_text.proofs.lines.push_all_units.Given as goal

abbrev pub invariant-each : goal.invariant-each
invariant-each l = record {
  put : l.text.items ++ line_of_units l.rest ≡ l.fn.text.items ++ line_of_units l.units;
  longer : length l.fn.text.items ≤ length l.text.items;
}

abbrev pub decreases-each : goal.decreases-each
decreases-each l = length l.rest
