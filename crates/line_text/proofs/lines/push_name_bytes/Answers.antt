use Rattle.std.proofs.Common.{sym, ap, ◌∙◌, arith}
use Rattle.std.specs.Char.Utf16.{utf16_chars}
use Rattle.class_model.proofs.TextLemmas.{text_behind, shorter_behind}
use Rattle.line_text.proofs.Spelled.{goes_on, all_put, units_of_name-behind, no_units, longer_too}
use Rattle.line_text.proofs.lines.push_name_bytes.Goals as goal

pub take_unit_of_name-spelled-requires : goal.take_unit_of_name-spelled-requires
take_unit_of_name-spelled-requires c = text_behind _ _ _ (sym c.in-Some.ensures.value) c.each.invariant.text

pub each-smaller : goal.each-smaller
each-smaller c = let fewer = shorter_behind _ _ _ (sym c.in-Some.ensures.value) in omega (arith, fewer, c.take_unit_of_name-spelled.ensures.shorter)

pub each-preserved : goal.each-preserved
each-preserved c =
    let behind = units_of_name-behind _ _ _ (sym c.in-Some.ensures.value) c.each.invariant.text in
    record {
      put = goes_on _ _ _ _ _ _ c.each.invariant.put (ap utf16_chars behind ∙ c.take_unit_of_name-spelled.ensures.spelled) c.in_ok-push_spelled.ensures.ok;
      longer = longer_too _ _ _ _ c.each.invariant.longer c.in_ok-push_spelled.ensures.ok;
      text = c.take_unit_of_name-spelled.ensures.text;
    }

pub returns-clause-ok : goal.returns-clause-ok
returns-clause-ok c = all_put _ _ _ c.each.invariant.put (no_units _ (sym c.in_default.ensures.value) c.each.invariant.text)
