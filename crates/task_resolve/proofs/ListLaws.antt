-- What all of a list's elements have.
use Rattle.std.proofs.Common.{◌≡◌, ℕ, ◌<◌, Bool, true, List, length, map, sym, refl, ap, ◌∙◌, get_or}
use Rattle.std.specs.List.{list_all}
use Rattle.std.proofs.lemmas.List.Folds.{list_all-map}
use Rattle.std.proofs.lemmas.List.Recursion.{and_at}

-- the element at a place, as a view shows it, passes a test that all pass
pub each : {X Y : Type 0} (p : X → Bool) (h : Y → X) (ys : List Y) (k : ℕ) (d : Y) → k < length ys → list_all p (map h ys) ≡ true → p (h (get_or ys k d)) ≡ true
each p h ys k d within all =
    and_at (list_all (λ z. p (h z))) (λ z. p (h z)) refl (λ _ _. refl) ys k d within (sym (list_all-map p h ys) ∙ all)

-- the same of an element that was read
pub each_read : {X Y : Type 0} (p : X → Bool) (h : Y → X) (ys : List Y) (k : ℕ) (y : Y) → k < length ys → y ≡ get_or ys k y → list_all p (map h ys) ≡ true → p (h y) ≡ true
each_read p h ys k y within is all = ap (λ (z : _). p (h z)) is ∙ each p h ys k y within all
