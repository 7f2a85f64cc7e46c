use Rattle.std.proofs.Common.{◌≡◌, ◌≤◌, Some, take, map}
use Rattle.serde_json.specs.View.{items_view}
use Rattle.value_text.specs.Short.{as_short, shorts_of, depth_of_all}
use Rattle.value_text.specs.Decoded.{values_of}
use Rattle.value_text.proofs.decode.+decode.Given as goal

abbrev pub invariant-decode_all-loop-item : goal.invariant-decode_all-loop-item
invariant-decode_all-loop-item l = record {
  found : values_of (items_view (take l.item-index l.item-items)) ≡ Some (shorts_of (map as_short l.values.items));
  shallow : depth_of_all (shorts_of (map as_short l.values.items)) ≤ l.levels;
}
