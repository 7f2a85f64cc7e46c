-- Numbers in digits, one by one.
use Rattle.std.proofs.Common.{◌≡◌, ◌≢◌, inl, inr, nat_eq, drop, get_or, add-one, ℕ, zero, suc, ◌+◌, ◌*◌, ◌-◌, ◌<◌, ◌≤◌, Bool, true, false, List, [], ◌∷◌, length, refl, ap, ◌∙◌, arith}
use Rattle.std.specs.Prelude.{IfSome, ◌≤ℤ◌, ◌⊎◌, nat_le, ◌&&◌, fold, Option, Some, None, option_and_then, option_map, if◌then◌else◌, ℤ, pos, negsuc, neg_ℤ}
use Rattle.std.specs.List.{list_all}
use Rattle.std.proofs.lemmas.Bool.Decides.{nat_tests}
use Rattle.std.proofs.lemmas.Int.{ints}
use Rattle.std.proofs.Math.Seq.{drop-cons, drop-length}
use Rattle.native_model.specs.Texts.{is_digit, with_digit, number_of, signed_number_of, if_within}
use Rattle.native_text.specs.Parsing.{if_at_most, digits_behind}

taken : (most n u : ℕ) (units : List ℕ) → 48 ≤ u → u ≤ 57 → digits_behind most n (u ∷ units) ≡ digits_behind most (10 * n + (u - 48)) units
unfolding digits_behind
taken most n u units from to = let digit : is_digit u ≡ true = grind (arith, nat_tests) in rw digit refl

refused : (most n u : ℕ) (units : List ℕ) → (u < 48) ⊎ (57 < u) → digits_behind most n (u ∷ units) ≡ None
unfolding digits_behind
refused most n u units other = let none : is_digit u ≡ false = grind (arith, nat_tests) in rw none refl

module _ (most n i : ℕ) (units : List ℕ) where
  cons : i < length units → drop i units ≡ get_or units i 0 ∷ drop (i + 1) units
  cons within = rw add-one (drop-cons units i 0 within)

  -- a digit more
  pub digit_taken : i < length units → 48 ≤ get_or units i 0 → get_or units i 0 ≤ 57 → digits_behind most n (drop i units) ≡ digits_behind most (10 * n + (get_or units i 0 - 48)) (drop (i + 1) units)
  digit_taken within from to = ap (digits_behind most n) (cons within) ∙ taken most n (get_or units i 0) (drop (i + 1) units) from to

  -- a unit that is no digit
  pub below_digits : i < length units → get_or units i 0 < 48 → digits_behind most n (drop i units) ≡ None
  below_digits within other = ap (digits_behind most n) (cons within) ∙ refused most n (get_or units i 0) (drop (i + 1) units) (inl other)

  pub above_digits : i < length units → 57 < get_or units i 0 → digits_behind most n (drop i units) ≡ None
  above_digits within other = ap (digits_behind most n) (cons within) ∙ refused most n (get_or units i 0) (drop (i + 1) units) (inr other)

-- A number above the greatest stays above it.
pub too_great : (most n : ℕ) (units : List ℕ) → most < n → digits_behind most n units ≡ None
unfolding digits_behind
too_great most n [] over = grind (arith, nat_tests)
too_great most n (u ∷ units) over = by_test (is_digit u) (too_great most (with_digit n u) units (omega arith))
  where
    by_test : (b : Bool) → digits_behind most (with_digit n u) units ≡ None → (if b then digits_behind most (with_digit n u) units else None) ≡ None
    by_test true more = more
    by_test false more = refl

digits_told : (most n : ℕ) (units : List ℕ) → option_and_then (if_at_most most) (if list_all is_digit units then Some (fold with_digit n units) else None) ≡ digits_behind most n units
unfolding digits_behind
digits_told most n [] = refl
digits_told most n (u ∷ units) = by_test (is_digit u) (digits_told most (with_digit n u) units)
  where
    by_test : (b : Bool) → option_and_then (if_at_most most) (if list_all is_digit units then Some (fold with_digit (with_digit n u) units) else None) ≡ digits_behind most (with_digit n u) units → option_and_then (if_at_most most) (if b && list_all is_digit units then Some (fold with_digit (with_digit n u) units) else None) ≡ (if b then digits_behind most (with_digit n u) units else None)
    by_test true more = more
    by_test false more = refl

pub number_told : (most : ℕ) (units : List ℕ) → 0 < length units → option_and_then (if_at_most most) (number_of units) ≡ digits_behind most 0 units
number_told most [] some = absurd (omega arith)
number_told most (u ∷ units) some = digits_told most 0 (u ∷ units)

pub digits_ended : (most n : ℕ) (units : List ℕ) → n ≤ most → digits_behind most n (drop (length units) units) ≡ Some n
unfolding digits_behind
digits_ended most n units within = ap (digits_behind most n) (drop-length units) ∙ (let is : nat_le n most ≡ true = grind (arith, nat_tests) in rw is refl)

pub no_digits : (most : ℕ) (units : List ℕ) → length units ≡ 0 → option_and_then (if_at_most most) (number_of units) ≡ None
no_digits most [] none = refl
no_digits most (u ∷ units) none = absurd (omega arith)

pub ruleset digits = (digit_taken, below_digits, above_digits, too_great, number_told, digits_ended, no_digits)

-- signs

module _ (most : ℕ) where
  negative : (x : Option ℕ) → option_and_then (if_within (negsuc most) (pos most)) (option_map (λ n. neg_ℤ (pos n)) x) ≡ option_map (λ n. neg_ℤ (pos n)) (option_and_then (if_at_most (most + 1)) x)
  negative None = refl
  negative (Some zero) = grind (arith, ints, nat_tests)
  negative (Some (suc n)) = grind (arith, ints, nat_tests)

  positive : (x : Option ℕ) → option_and_then (if_within (negsuc most) (pos most)) (option_map pos x) ≡ option_map pos (option_and_then (if_at_most most) x)
  positive None = refl
  positive (Some n) = grind (arith, ints, nat_tests)

  -- a number behind a minus, behind a plus, and without a sign
  pub minus_told : (u : ℕ) (behind units : List ℕ) → units ≡ u ∷ behind → u ≡ 45 → option_and_then (if_within (negsuc most) (pos most)) (signed_number_of units) ≡ option_map (λ n. neg_ℤ (pos n)) (option_and_then (if_at_most (most + 1)) (number_of behind))
  unfolding signed_number_of
  minus_told u behind units cons is = rw (cons, is) (negative (number_of behind))

  pub plus_told : (u : ℕ) (behind units : List ℕ) → units ≡ u ∷ behind → u ≡ 43 → option_and_then (if_within (negsuc most) (pos most)) (signed_number_of units) ≡ option_map pos (option_and_then (if_at_most most) (number_of behind))
  unfolding signed_number_of
  plus_told u behind units cons is = rw (cons, is) (positive (number_of behind))

  pub plain_told : (u : ℕ) (behind units : List ℕ) → units ≡ u ∷ behind → u ≢ 45 → u ≢ 43 → option_and_then (if_within (negsuc most) (pos most)) (signed_number_of units) ≡ option_map pos (option_and_then (if_at_most most) (number_of units))
  unfolding signed_number_of
  plain_told u behind units cons no_minus no_plus =
      let minus : nat_eq u 45 ≡ false = grind (arith, nat_tests) in
      let plus : nat_eq u 43 ≡ false = grind (arith, nat_tests) in
      rw (cons, minus, plus) (positive (number_of (u ∷ behind)))

  pub none_told : (units : List ℕ) → length units ≡ 0 → option_and_then (if_within (negsuc most) (pos most)) (signed_number_of units) ≡ None
  unfolding signed_number_of
  none_told [] none = refl
  none_told (u ∷ units) none = absurd (omega arith)

-- A number that is told is within the bounds.
pub told_least : (least most : ℤ) (x found : Option ℤ) → found ≡ option_and_then (if_within least most) x → IfSome found (λ n. least ≤ℤ n)
told_least least most x None is = tt
told_least least most None (Some n) is = cc
told_least least most (Some m) (Some n) is = grind (arith, ints, nat_tests)

pub told_greatest : (least most : ℤ) (x found : Option ℤ) → found ≡ option_and_then (if_within least most) x → IfSome found (λ n. n ≤ℤ most)
told_greatest least most x None is = tt
told_greatest least most None (Some n) is = cc
told_greatest least most (Some m) (Some n) is = grind (arith, ints, nat_tests)

pub ruleset signs = (minus_told, plus_told, plain_told, none_told)
