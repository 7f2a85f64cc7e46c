use Rattle.std.proofs.Common.{ap, ◌∙◌}
use Rattle.std.specs.Char.Utf16.{utf16_chars}
use Rattle.line_text.proofs.Spelled.{goes_on, all_put, no_items, longer_too}
use Rattle.line_text.proofs.lines.push_all_units.Goals as goal

pub each-preserved : goal.each-preserved
each-preserved c = record {
  put = goes_on _ _ _ _ _ _ c.each.invariant.put (ap utf16_chars c.in-Some.ensures.cases.0 ∙ c.take_unit-spelled.ensures.spelled) c.in_ok-push_spelled.ensures.ok;
  longer = longer_too _ _ _ _ c.each.invariant.longer c.in_ok-push_spelled.ensures.ok;
}

pub returns-clause-ok : goal.returns-clause-ok
returns-clause-ok c = all_put _ _ _ c.each.invariant.put (no_items _ c.in_default.ensures.cases)
