-- The values of a list of JSON values, one after another.
use Rattle.std.proofs.Common.{◌≡◌, ℕ, zero, suc, ◌+◌, ◌<◌, ◌≤◌, List, [], ◌∷◌, ◌++◌, length, take, map, get_or, Option, Some, None, option_map, option_and_then, refl, sym, ap, ◌∙◌, arith, subst}
use Rattle.tree_value.specs.declared.value.Value.{Value}
use Rattle.serde_json.specs.Data.{Data}
use Rattle.serde_json.specs.View.{view, items_of, items_view}
use Rattle.serde_json.specs.declared.value.Value.{Value as Json}
use Rattle.std.proofs.lemmas.List.{take_more, map-append, length-map}
use Rattle.std.proofs.Math.ListN.{get_or-map}
use Rattle.value_text.specs.Short.{Short, Shorts, no_values, value, as_short, shorts_of, AreShort, depth, depth_of_all}
use Rattle.value_text.specs.Decoded.{value_of, values_of, IsNone, AreNone}

abbrev pushed : Shorts → Short → Shorts
pushed no_values v = value v no_values
pushed (value w vs) v = value w (pushed vs v)

shorts_of-push : (vs : List Value) (v : Value) → shorts_of (map as_short (vs ++ v ∷ [])) ≡ pushed (shorts_of (map as_short vs)) (as_short v)
shorts_of-push [] v = refl
shorts_of-push (w ∷ vs) v = ap (value (as_short w)) (shorts_of-push vs v)

first : (o : Option Short) → option_and_then (λ v. Some (value v no_values)) o ≡ option_map (pushed no_values) o
first None = refl
first (Some v) = refl

later : (o p : Option Short) (q : Option Shorts)
    → option_and_then (λ w. option_map (value w) (option_and_then (λ vs. option_map (pushed vs) p) q)) o ≡ option_and_then (λ vs. option_map (pushed vs) p) (option_and_then (λ w. option_map (value w) q) o)
later None p q = refl
later (Some w) p None = refl
later (Some w) None (Some vs) = refl
later (Some w) (Some v) (Some vs) = refl

values_of-push : (ds : List Data) (d : Data) → values_of (items_of (ds ++ d ∷ [])) ≡ option_and_then (λ vs. option_map (pushed vs) (value_of d)) (values_of (items_of ds))
values_of-push [] d = first (value_of d)
values_of-push (e ∷ ds) d =
    ap (λ q. option_and_then (λ w. option_map (value w) q) (value_of e)) (values_of-push ds d) ∙ later (value_of e) (value_of d) (values_of (items_of ds))

found_next : (ds : List Data) (d : Data) (vs : List Value) (v : Value) → values_of (items_of ds) ≡ Some (shorts_of (map as_short vs)) → value_of d ≡ Some (as_short v)
    → values_of (items_of (ds ++ d ∷ [])) ≡ Some (shorts_of (map as_short (vs ++ v ∷ [])))
found_next ds d vs v before here =
    values_of-push ds d ∙ ap (λ q. option_and_then (λ ws. option_map (pushed ws) (value_of d)) q) before ∙ ap (λ o. option_map (pushed (shorts_of (map as_short vs))) o) here
    ∙ ap Some (sym (shorts_of-push vs v))

depth_of_all-pushed : (vs : Shorts) (v : Short) (n : ℕ) → depth_of_all vs ≤ n → depth v ≤ n → depth_of_all (pushed vs v) ≤ n
depth_of_all-pushed no_values v n h k = omega arith
depth_of_all-pushed (value w vs) v n h k = let rest = depth_of_all-pushed vs v n (omega arith) k in omega (arith, rest)

abbrev Split : Option Short → Option Shorts → Shorts → Type 0
Split o p vs = (v : Short) × (ws : Shorts) × (o ≡ Some v) × (p ≡ Some ws) × (value v ws ≡ vs)

split : (o : Option Short) (p : Option Shorts) (vs : Shorts) → option_and_then (λ v. option_map (value v) p) o ≡ Some vs → Split o p vs
split None p vs e = absurd (cc)
split (Some v) None vs e = absurd (cc)
split (Some v) (Some ws) vs e = (v, ws, refl, refl, (cc))

abbrev IsWithin : ℕ → Shorts → Type 0
IsWithin n vs = AreShort vs × (depth_of_all vs ≤ n)

-- where one item has no value, the list has none
none_among : (n : ℕ) (ds : List Data) (k : ℕ) (d : Data) → k < length ds → IsNone n (value_of (get_or ds k d)) → AreNone n (values_of (items_of ds))
none_among n [] k d within none vs e valid shallow = omega arith
none_among n (first ∷ ds) zero d within none vs e valid shallow =
    let s = split (value_of first) (values_of (items_of ds)) vs e in
    let all : IsWithin n (value s.0 s.1) = subst (IsWithin n) (sym s.4) (valid, shallow) in
    none s.0 s.2 all.0.0 (omega (arith, all.1))
none_among n (first ∷ ds) (suc k) d within none vs e valid shallow =
    let s = split (value_of first) (values_of (items_of ds)) vs e in
    let all : IsWithin n (value s.0 s.1) = subst (IsWithin n) (sym s.4) (valid, shallow) in
    none_among n ds k d (omega arith) none s.1 s.3 all.0.1 (omega (arith, all.1))

-- ---- the same, in the words of a loop over the items

pub next_item : (js : List Json) (i : ℕ) (j : Json) (vs : List Value) (v : Value) → i < length js → j ≡ get_or js i j → values_of (items_view (take i js)) ≡ Some (shorts_of (map as_short vs))
    → value_of (view j) ≡ Some (as_short v) → values_of (items_view (take (i + 1) js)) ≡ Some (shorts_of (map as_short (vs ++ v ∷ [])))
next_item js i j vs v within is before here =
    let taken : take (i + 1) js ≡ take i js ++ j ∷ [] = take_more js i j within ∙ ap (λ x. take i js ++ x ∷ []) (sym is) in
    ap (λ xs. values_of (items_of (map view xs))) taken
    ∙ ap (λ xs. values_of (items_of xs)) (map-append view (take i js) (j ∷ []))
    ∙ found_next (map view (take i js)) (view j) vs v before here

pub no_item : (n : ℕ) (js : List Json) (k : ℕ) (j : Json) → k < length js → j ≡ get_or js k j → IsNone n (value_of (view j)) → AreNone n (values_of (items_view js))
no_item n js k j within is none =
    none_among n (map view js) k (view j) (simp length-map within) (subst (λ (d : Data). IsNone n (value_of d)) (ap view is ∙ sym (get_or-map view js k j)) none)

pub depth_next : (vs : List Value) (v : Value) (n : ℕ) → depth_of_all (shorts_of (map as_short vs)) ≤ n → depth (as_short v) ≤ n → depth_of_all (shorts_of (map as_short (vs ++ v ∷ []))) ≤ n
depth_next vs v n before here = rw (shorts_of-push vs v) (depth_of_all-pushed (shorts_of (map as_short vs)) (as_short v) n before here)
