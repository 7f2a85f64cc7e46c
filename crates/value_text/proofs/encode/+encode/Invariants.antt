use Rattle.std.proofs.Common.{◌≡◌, ℕ, ◌<◌, take, map, get_or}
use Rattle.tree_value.specs.declared.value.Value.{Value}
use Rattle.serde_json.specs.View.{view}
use Rattle.value_text.specs.Short.{as_short, IsShort}
use Rattle.value_text.specs.Texts.{json_of}
use Rattle.value_text.proofs.encode.+encode.Given as goal

abbrev pub invariant-encode_all-loop-value : goal.invariant-encode_all-loop-value
invariant-encode_all-loop-value l = record {
  items : map view l.items.items ≡ map (λ v. json_of l.form (as_short v)) (take l.value-index l.values);
  values : (k : ℕ) (d : Value) → k < l.value-index → IsShort (as_short (get_or l.values k d));
}
