use Rattle.std.proofs.Common.{sym, arith}
use Rattle.class_model.proofs.TextLemmas.{text_behind, shorter_behind}
use Rattle.native_text.proofs.Spelled.{unit_told, all_told}
use Rattle.native_text.proofs.names.spelled_text.Goals as goal

pub each-smaller : goal.each-smaller
each-smaller c = let fewer = shorter_behind _ _ _ (sym c.in-Some.ensures.value) in omega (arith, fewer)

pub each-preserved : goal.each-preserved
each-preserved c = record {
  told = unit_told _ _ _ _ _ _ _ c.each.invariant.told (sym c.in-Some.ensures.value) c.each.invariant.text c.in_ok-push_spelled.ensures;
  text = text_behind _ _ _ (sym c.in-Some.ensures.value) c.each.invariant.text;
}

pub returns : goal.returns
returns c = all_told _ _ _ _ c.each.invariant.told (sym c.in_default.ensures.value) c.each.invariant.text
