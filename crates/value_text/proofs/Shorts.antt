-- Lists of values, seen as what the layers above see them as.
use Rattle.std.proofs.Common.{◌≡◌, ℕ, suc, ◌<◌, List, [], ◌∷◌, length, map, get_or, refl, ap, arith}
use Rattle.tree_value.specs.declared.value.Value.{Value}
use Rattle.serde_json.specs.Data.{item}
use Rattle.serde_json.specs.View as json
use Rattle.value_text.specs.Short.{as_short, shorts_of, IsShort, AreShort}
use Rattle.value_text.specs.Texts.{json_of, items_of}
use Rattle.value_text.specs.declared.form.Form.{Form}

pub items_of-shorts_of : (form : Form) (vs : List Value) → items_of form (shorts_of (map as_short vs)) ≡ json.items_of (map (λ v. json_of form (as_short v)) vs)
items_of-shorts_of form [] = refl
items_of-shorts_of form (v ∷ vs) = ap (item (json_of form (as_short v))) (items_of-shorts_of form vs)

pub AreShort-shorts_of : (vs : List Value) → ((k : ℕ) (d : Value) → k < length vs → IsShort (as_short (get_or vs k d))) → AreShort (shorts_of (map as_short vs))
AreShort-shorts_of [] h = tt
AreShort-shorts_of (v ∷ vs) h = (h 0 v (omega arith), AreShort-shorts_of vs (λ k d within. h (suc k) d (omega arith)))
