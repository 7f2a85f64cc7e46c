use Rattle.std.proofs.Common.{◌≡◌, ◌++◌, length}
use Rattle.class_model.specs.ModifiedUtf8.{IsModifiedUtf8}
use Rattle.native_text.specs.Spelling.{spelled}
use Rattle.native_text.proofs.names.spelled_text.Given as goal

abbrev pub invariant-each : goal.invariant-each
invariant-each l = record {
  told : spelled l.dots l.name ≡ l.units.items ++ spelled l.dots l.rest;
  text : IsModifiedUtf8 l.rest;
}

abbrev pub decreases-each : goal.decreases-each
decreases-each l = length l.rest
