-- A unit is read back from its spelling, and what is read is spelled so.
use Rattle.std.proofs.Common.{◌≡◌, ℕ, ◌+◌, ◌-◌, ◌*◌, ◌/◌, ◌%◌, ◌^◌, ◌<◌, ◌≤◌, ◌⊎◌, List, [], ◌∷◌, ◌++◌, Some, refl, ◌∙◌, ap, inl, inr, arith}
use Rattle.std.proofs.lemmas.Bool.Decides.{nat_tests}
use Rattle.std.proofs.lemmas.Bool.{cases_lt}
use Rattle.class_model.specs.ModifiedUtf8.{unit, IsUnitAt}
use Rattle.class_model.specs.Units.{unit_at, two, three}

pub one : (u : ℕ) → 0 < u → u < 128 → unit u ≡ u ∷ []
unfolding unit
one u p q = grind (arith, nat_tests)

low : (u : ℕ) → (u ≡ 0) ⊎ (128 ≤ u) → u < 2048 → unit u ≡ (192 + u / 64) ∷ (128 + u % 64) ∷ []
unfolding unit
low u p q = grind (arith, nat_tests)

high : (u : ℕ) → 2048 ≤ u → unit u ≡ (224 + u / 4096) ∷ (128 + u / 64 % 64) ∷ (128 + u % 64) ∷ []
unfolding unit
high u p = grind (arith, nat_tests)

one_at : (u : ℕ) (rest : List ℕ) → 0 < u → u < 128 → unit_at (u ∷ rest) ≡ Some (u, rest)
unfolding unit_at
one_at u rest p q = grind (arith, nat_tests)

two_at : (h b : ℕ) (rest : List ℕ) → h < 32 → b < 64 → (64 * h + b ≡ 0) ⊎ (128 ≤ 64 * h + b)
    → unit_at ((192 + h) ∷ (128 + b) ∷ rest) ≡ Some (64 * h + b, rest)
unfolding unit_at two
two_at h b rest p q r = grind (arith, nat_tests)

three_at : (h m b : ℕ) (rest : List ℕ) → h < 16 → m < 64 → b < 64 → 2048 ≤ 4096 * h + 64 * m + b
    → unit_at ((224 + h) ∷ (128 + m) ∷ (128 + b) ∷ rest) ≡ Some (4096 * h + 64 * m + b, rest)
unfolding unit_at three
three_at h m b rest p q r s = grind (arith, nat_tests)

-- a unit is read from its spelling, whatever follows
pub unit_at-unit : (u : ℕ) (rest : List ℕ) → u < 2 ^ 16 → unit_at (unit u ++ rest) ≡ Some (u, rest)
unit_at-unit u rest p =
    elim (cases_lt u 128) [
      | inl small ↦ elim (cases_lt 0 u) [ inl q ↦ rw one (one_at u rest q small) | inr q ↦ from_two (inl (omega arith)) (omega arith) ]
      | inr large ↦ elim (cases_lt u 2048) [ inl q ↦ from_two (inr large) q | inr q ↦ from_three q ]
    ]
  where
    from_two : (u ≡ 0) ⊎ (128 ≤ u) → u < 2048 → unit_at (unit u ++ rest) ≡ Some (u, rest)
    from_two q r =
        let e : 64 * (u / 64) + u % 64 ≡ u = omega arith in
        rw (low u q r) (two_at (u / 64) (u % 64) rest (omega arith) (omega arith) (rw e q) ∙ ap (λ n. Some (n, rest)) e)

    from_three : 2048 ≤ u → unit_at (unit u ++ rest) ≡ Some (u, rest)
    from_three q =
        let e : 4096 * (u / 4096) + 64 * (u / 64 % 64) + u % 64 ≡ u = omega arith in
        rw (high u q) (three_at (u / 4096) (u / 64 % 64) (u % 64) rest (omega arith) (omega arith) (omega arith) (omega arith) ∙ ap (λ n. Some (n, rest)) e)

unit_two : (h b : ℕ) → h < 32 → b < 64 → (64 * h + b ≡ 0) ⊎ (128 ≤ 64 * h + b)
    → unit (64 * h + b) ≡ (192 + h) ∷ (128 + b) ∷ []
unit_two h b p q r =
    let d : (64 * h + b) / 64 ≡ h = omega arith in
    let m : (64 * h + b) % 64 ≡ b = omega arith in
    low (64 * h + b) r (omega arith) ∙ rw (d, m) refl

unit_three : (h m b : ℕ) → h < 16 → m < 64 → b < 64 → 2048 ≤ 4096 * h + 64 * m + b
    → unit (4096 * h + 64 * m + b) ≡ (224 + h) ∷ (128 + m) ∷ (128 + b) ∷ []
unit_three h m b p q r s =
    let e : (4096 * h + 64 * m + b) / 4096 ≡ h = omega arith in
    let f : (4096 * h + 64 * m + b) / 64 % 64 ≡ m = omega arith in
    let g : (4096 * h + 64 * m + b) % 64 ≡ b = omega arith in
    high (4096 * h + 64 * m + b) s ∙ rw (e, f, g) refl

two_tells : (h b : ℕ) (bytes : List ℕ) (u : ℕ) (rest : List ℕ) → two h (b ∷ bytes) ≡ Some (u, rest)
    → (128 ≤ b) × (b < 192) × (64 * h + (b - 128) ≡ u) × ((u ≡ 0) ⊎ (128 ≤ u)) × (bytes ≡ rest)
unfolding two
two_tells h b bytes u rest e = grind (arith, nat_tests)

two_spelled : (h : ℕ) (bytes : List ℕ) (u : ℕ) (rest : List ℕ) → h < 32 → two h bytes ≡ Some (u, rest) → IsUnitAt ((192 + h) ∷ bytes) u rest
unfolding two
two_spelled h [] u rest p e = cc
two_spelled h (b ∷ bytes) u rest p e =
    let t = two_tells h b bytes u rest e in
    let s : 128 + (b - 128) ≡ b = omega arith in
    let low : b - 128 < 64 = omega arith in
    let spelled = unit_two h (b - 128) p low (rw t.2 t.3) in
    record { fits = omega arith; spelled = rw (← t.2, spelled, s, t.4) refl }

three_tells : (h b c : ℕ) (bytes : List ℕ) (u : ℕ) (rest : List ℕ) → three h (b ∷ c ∷ bytes) ≡ Some (u, rest)
    → (128 ≤ b) × (b < 192) × (128 ≤ c) × (c < 192) × (4096 * h + 64 * (b - 128) + (c - 128) ≡ u) × (2048 ≤ u) × (bytes ≡ rest)
unfolding three
three_tells h b c bytes u rest e = grind (arith, nat_tests)

three_spelled : (h : ℕ) (bytes : List ℕ) (u : ℕ) (rest : List ℕ) → h < 16 → three h bytes ≡ Some (u, rest) → IsUnitAt ((224 + h) ∷ bytes) u rest
unfolding three
three_spelled h [] u rest p e = cc
three_spelled h (b ∷ []) u rest p e = cc
three_spelled h (b ∷ c ∷ bytes) u rest p e =
    let t = three_tells h b c bytes u rest e in
    let s : 128 + (b - 128) ≡ b = omega arith in
    let r : 128 + (c - 128) ≡ c = omega arith in
    let spelled = unit_three h (b - 128) (c - 128) p (omega arith) (omega arith) (rw t.4 t.5) in
    record { fits = omega arith; spelled = rw (← t.4, spelled, s, r, t.6) refl }

one_tells : (b : ℕ) (bytes : List ℕ) (u : ℕ) (rest : List ℕ) → unit_at (b ∷ bytes) ≡ Some (u, rest) → b < 128 → (0 < b) × (b ≡ u) × (bytes ≡ rest)
unfolding unit_at
one_tells b bytes u rest e p = grind (arith, nat_tests)

more_tells : (b : ℕ) (bytes : List ℕ) (u : ℕ) (rest : List ℕ) → unit_at (b ∷ bytes) ≡ Some (u, rest) → 128 ≤ b
    → ((192 ≤ b) × (b < 224) × (two (b - 192) bytes ≡ Some (u, rest))) ⊎ ((224 ≤ b) × (b < 240) × (three (b - 224) bytes ≡ Some (u, rest)))
unfolding unit_at
more_tells b bytes u rest e p = grind (arith, nat_tests)

pub unit_at-spelled : (bytes : List ℕ) (u : ℕ) (rest : List ℕ) → unit_at bytes ≡ Some (u, rest) → IsUnitAt bytes u rest
unfolding unit_at
unit_at-spelled [] u rest e = cc
unit_at-spelled (b ∷ bytes) u rest e = elim (cases_lt b 128) [ inl small ↦ short small | inr large ↦ long large ]
  where
    short : b < 128 → IsUnitAt (b ∷ bytes) u rest
    short p =
        let t = one_tells b bytes u rest e p in
        let at_u : u < 128 = omega arith in
        let some : 0 < u = omega arith in
        record { fits = omega arith; spelled = rw (one u some at_u, t.1, t.2) refl }

    long : 128 ≤ b → IsUnitAt (b ∷ bytes) u rest
    long p = elim (more_tells b bytes u rest e p) [
      | inl t ↦ (let s : 192 + (b - 192) ≡ b = omega arith in rw s at (two_spelled (b - 192) bytes u rest (omega arith) t.2))
      | inr t ↦ (let s : 224 + (b - 224) ≡ b = omega arith in rw s at (three_spelled (b - 224) bytes u rest (omega arith) t.2))
    ]
