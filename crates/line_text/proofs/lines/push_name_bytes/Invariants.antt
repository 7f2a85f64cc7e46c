use Rattle.std.proofs.Common.{◌≡◌, ◌≤◌, ◌++◌, length}
use Rattle.class_model.specs.ModifiedUtf8.{IsModifiedUtf8}
use Rattle.line_text.specs.Lines.{line_of_name}
use Rattle.line_text.proofs.lines.push_name_bytes.Given as goal

abbrev pub invariant-each : goal.invariant-each
invariant-each l = record {
  put : l.text.items ++ line_of_name l.rest ≡ l.fn.text.items ++ line_of_name l.name;
  longer : length l.fn.text.items ≤ length l.text.items;
  text : IsModifiedUtf8 l.rest;
}

abbrev pub decreases-each : goal.decreases-each
decreases-each l = length l.rest
