-- The units of a text are read one after another.
use Rattle.std.proofs.Common.{◌≡◌, ℕ, zero, suc, List, [], ◌∷◌, ◌++◌, Option, Some, None, option_map, option_and_then, refl, sym, ◌∙◌, ap, append_assoc, append-nil}
use Rattle.class_model.specs.Units.{unit_at, units_at}
use Rattle.class_model.proofs.TextLemmas.{units_step}
use Rattle.task_annotations.specs.Reading.{ended}

abbrev pub put : List ℕ → Option (List ℕ) → Option (List ℕ)
put units found = option_map (λ us. units ++ us) found

pub no_unit : (units : List ℕ) (most : ℕ) (rest : List ℕ) → unit_at rest ≡ None → ended units rest ≡ put units (units_at most rest)
unfolding units_at
no_unit units zero [] e = ap Some (sym (append-nil units))
no_unit units (suc most) [] e = ap Some (sym (append-nil units))
no_unit units zero (b ∷ rest) e = refl
no_unit units (suc most) (b ∷ rest) e = rw e refl

pub no_round : (units : List ℕ) (rest : List ℕ) → ended units rest ≡ put units (units_at zero rest)
unfolding units_at
no_round units [] = ap Some (sym (append-nil units))
no_round units (b ∷ rest) = refl

joined : (units : List ℕ) (u : ℕ) (found : Option (List ℕ)) → put units (option_map (λ us. u ∷ us) found) ≡ put (units ++ u ∷ []) found
joined units u None = refl
joined units u (Some us) = ap Some (sym (append_assoc units (u ∷ []) us))

pub read_on : (units : List ℕ) (most u : ℕ) (rest more : List ℕ) → unit_at rest ≡ Some (u, more)
    → put units (units_at (suc most) rest) ≡ put (units ++ u ∷ []) (units_at most more)
read_on units most u rest more e = ap (put units) (units_step most rest u more e) ∙ joined units u (units_at most more)
