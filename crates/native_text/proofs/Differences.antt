-- Comparing texts unit by unit.
use Rattle.std.proofs.Common.{nat_eq, add-one, ◌≡◌, ◌≢◌, ℕ, ◌+◌, ◌-◌, ◌<◌, ◌≤◌, true, false, List, [], ◌∷◌, length, drop, get_or, refl, ap, ◌∙◌, arith, length-drop}
use Rattle.std.specs.Prelude.{pos, ◌-ℤ◌, neg_ℤ}
use Rattle.std.proofs.lemmas.Bool.Decides.{nat_tests}
use Rattle.std.proofs.Math.Seq.{drop-cons}
use Rattle.native_model.specs.Texts.{compared_texts}

same_first : (u : ℕ) (units others : List ℕ) → compared_texts (u ∷ units) (u ∷ others) ≡ compared_texts units others
unfolding compared_texts
same_first u units others = let is : nat_eq u u ≡ true = grind (arith, nat_tests) in rw is refl

other_first : (u o : ℕ) (units others : List ℕ) → u ≢ o → compared_texts (u ∷ units) (o ∷ others) ≡ pos u -ℤ pos o
unfolding compared_texts
other_first u o units others apart = let is : nat_eq u o ≡ false = grind (arith, nat_tests) in rw is refl

none_first : (others : List ℕ) → compared_texts [] others ≡ neg_ℤ (pos (length others))
unfolding compared_texts
none_first others = refl

no_other : (units : List ℕ) → 0 < length units → compared_texts units [] ≡ pos (length units)
unfolding compared_texts
no_other [] some = absurd (omega arith)
no_other (u ∷ units) some = refl

none_behind : (l : List ℕ) (i : ℕ) → length l ≤ i → drop i l ≡ []
none_behind l i over = nothing (drop i l) (omega (arith, length-drop i l))
  where
    nothing : (k : List ℕ) → length k ≡ 0 → k ≡ []
    nothing [] e = refl
    nothing (u ∷ k) e = absurd (omega arith)

module _ (units others : List ℕ) (i : ℕ) where
  cons : (l : List ℕ) → i < length l → drop i l ≡ get_or l i 0 ∷ drop (i + 1) l
  cons l within = rw add-one (drop-cons l i 0 within)

  pub same_here : i < length units → i < length others → get_or units i 0 ≡ get_or others i 0 → compared_texts (drop i units) (drop i others) ≡ compared_texts (drop (i + 1) units) (drop (i + 1) others)
  same_here within other same =
      rw (cons units within, cons others other, same) (same_first (get_or others i 0) (drop (i + 1) units) (drop (i + 1) others))

  pub apart_here : i < length units → i < length others → get_or units i 0 ≢ get_or others i 0 → compared_texts (drop i units) (drop i others) ≡ pos (get_or units i 0) -ℤ pos (get_or others i 0)
  apart_here within other apart =
      rw (cons units within, cons others other) (other_first (get_or units i 0) (get_or others i 0) (drop (i + 1) units) (drop (i + 1) others) apart)

  pub longer_here : i < length units → length others ≡ i → compared_texts (drop i units) (drop i others) ≡ pos (length units - length others)
  longer_here within ended =
      let left : length (drop i units) ≡ length units - length others = omega (arith, length-drop i units) in
      rw (none_behind others i (omega arith)) (no_other (drop i units) (omega (arith, length-drop i units)) ∙ ap pos left)

  pub ended_here : length units ≡ i → compared_texts (drop i units) (drop i others) ≡ neg_ℤ (pos (length others - length units))
  ended_here ended =
      let left : length (drop i others) ≡ length others - length units = omega (arith, length-drop i others) in
      rw (none_behind units i (omega arith)) (none_first (drop i others) ∙ ap (λ n. neg_ℤ (pos n)) left)

pub ruleset differences = (same_here, apart_here, longer_here, ended_here)
