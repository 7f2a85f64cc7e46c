use Rattle.std.proofs.Common.{Some, List, ap, sym, ◌∙◌, subst, map}
use Rattle.serde_json.specs.View.{items_view}
use Rattle.serde_json.specs.declared.value.Value.{Value as Json}
use Rattle.value_text.specs.Short.{as_short, shorts_of}
use Rattle.value_text.specs.Decoded.{values_of, AreNone}
use Rattle.value_text.proofs.Decoding.{next_item, no_item, depth_next}
use Rattle.value_text.proofs.decode.+decode.Goals as goal

pub decode_all-returns-in-None : goal.decode_all-returns-in-None
decode_all-returns-in-None t c =
    let found = rw c.in-None.is at c.in_ok-value.ensures in
    let l = c.loop-item in
    subst (λ (js : List Json). AreNone c.args.levels (values_of (items_view js))) c.deref-item-items.ensures.value
    (no_item c.args.levels _ l.item-index c.item-item.result c.loop-item-test.true c.item-item.is found)

pub decode_all-loop-item-preserved : goal.decode_all-loop-item-preserved
decode_all-loop-item-preserved t c =
    let found = rw c.in-Some.is at c.in_ok-value.ensures in
    let l = c.loop-item in
    let pushed = c.in_ok-push-in-Some.ensures.items in
    record {
      found =
          next_item _ l.item-index c.item-item.result l.values.items c.in-Some.value c.loop-item-test.true c.item-item.is l.invariant.found found.0
          ∙ ap (λ vs. Some (shorts_of (map as_short vs))) (sym pushed);
      shallow = rw pushed (depth_next l.values.items c.in-Some.value c.args.levels l.invariant.shallow found.1);
    }
