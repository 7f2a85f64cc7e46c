-- A value is told by its short form.
use Rattle.std.proofs.Common.{◌≡◌, List, [], ◌∷◌, map, refl, sym, ap, ap₂, ◌∙◌, subst}
use Rattle.tree_value.specs.declared.value.Value.{Value}
use Rattle.tree_value.specs.declared.value.Value.TheVariants as kept
use Rattle.tree_value.specs.declared.value.Value.TheOpen.{Value-F}
use Rattle.tree_value.specs.declared.value.Value.TheFolds.{ind-Value, fold-roll-Value, map-Value}
use Rattle.tree_value.specs.declared.value.Value.TheViews.{roll-Value, rolls-List, rolls-Null, rolls-Bool, rolls-Int, rolls-Long, rolls-Text, rolls-Ref}
use Rattle.value_text.specs.Short.{Short, Shorts, null, boolean, int, long, text, list, reference, no_values, value, as_short, as_short_step, shorts_of}

abbrev mutual
  kept_as : Short → Value
  kept_as null = kept.Null
  kept_as (boolean b) = kept.Bool b
  kept_as (int n) = kept.Int n
  kept_as (long n) = kept.Long n
  kept_as (text s) = kept.Text s
  kept_as (list vs) = kept.List (kept_as_all vs)
  kept_as (reference owner path digest) = kept.Ref (record { owner = owner; path = path; digest = digest })

  kept_as_all : Shorts → List Value
  kept_as_all no_values = []
  kept_as_all (value v vs) = kept_as v ∷ kept_as_all vs

abbrev IsKept : Value → Type 0
IsKept v = kept_as (as_short v) ≡ v

abbrev Checked : Type 0
Checked = (v : Value) × IsKept v

kept_as_all-shorts_of : (vs : List Checked) → kept_as_all (shorts_of (map as_short (map (λ e. e.0) vs))) ≡ map (λ e. e.0) vs
kept_as_all-shorts_of [] = refl
kept_as_all-shorts_of (v ∷ vs) = ap₂ (λ (w : Value) (ws : List Value). w ∷ ws) v.1 (kept_as_all-shorts_of vs)

-- a value whose parts are told
abbrev whole : Value-F Checked → Value-F Value
whole = map-Value Checked Value (λ e. e.0)

told : (x : Value-F Value) → kept_as (as_short_step (map-Value Value Short as_short x)) ≡ roll-Value x → IsKept (roll-Value x)
told x h = ap kept_as (fold-roll-Value Short as_short_step x) ∙ h

one : (y : Value-F Checked) → IsKept (roll-Value (whole y))
one Value-F.Null = told Value-F.Null (sym rolls-Null)
one (Value-F.Bool b) = told (Value-F.Bool b) (sym (rolls-Bool b))
one (Value-F.Int n) = told (Value-F.Int n) (sym (rolls-Int n))
one (Value-F.Long n) = told (Value-F.Long n) (sym (rolls-Long n))
one (Value-F.Text s) = told (Value-F.Text s) (sym (rolls-Text s))
one (Value-F.List vs) = told (Value-F.List (map (λ e. e.0) vs)) (ap kept.List (kept_as_all-shorts_of vs) ∙ sym (rolls-List (map (λ e. e.0) vs)))
one (Value-F.Ref r) = told (Value-F.Ref r) (sym (rolls-Ref r))

kept_as-as_short : (v : Value) → IsKept v
kept_as-as_short = ind-Value IsKept (λ x y is. subst (λ (z : Value-F Value). IsKept (roll-Value z)) is (one y))

pub as_short-injective : (v w : Value) → as_short v ≡ as_short w → v ≡ w
as_short-injective v w same = sym (kept_as-as_short v) ∙ ap kept_as same ∙ kept_as-as_short w
