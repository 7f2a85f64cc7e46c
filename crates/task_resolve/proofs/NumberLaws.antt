-- What std's parse gives of decimal digits.
use Rattle.std.proofs.Common.{◌≡◌, ℕ, ◌^◌, ◌<◌, true, false, Bool, ◌&&◌, List, [], ◌∷◌, length, Option, Some, None, Result, Ok, Err, IsTrue, ap, sym, refl, ◌∙◌, arith, rules, nat_lt, cond, inl, inr}
use Rattle.std.specs.Char.{is_ascii_digit}
use Rattle.std.specs.List.{list_all}
use Rattle.std.specs.Result.{result_ok, OkIff}
use Rattle.std.specs.Str.Parse.{digits_value, ParsesUnsigned}
use Rattle.std.proofs.lemmas.Str.Parse.{IsNumeralModel, numerals_by_value, parse_digits}
use Rattle.std.proofs.lemmas.Grind.{common_steps}
use Rattle.std.proofs.lemmas.Bool.{cases_lt}
use Rattle.task_resolve.specs.Numbers.{is_decimal, written}

abbrev AreDigits : List ℕ → Type 0
AreDigits ds = list_all is_ascii_digit ds ≡ true

own : IsNumeralModel AreDigits (digits_value 10)
own = numerals_by_value AreDigits (search rules)

digits : (bs : List ℕ) → IsTrue (is_decimal bs) → AreDigits bs
digits [] h = refl
digits (b ∷ bs) h = grind (arith, common_steps)

some_digit : (bs : List ℕ) → IsTrue (is_decimal bs) → 0 < length bs
some_digit [] h = absurd (cc)
some_digit (b ∷ bs) h = omega arith

judged : {E : Type 0} (v len : ℕ) (r : Result ℕ E) → 0 < len → OkIff r ((0 < len) × (v < 2 ^ 32)) v → result_ok r ≡ cond (nat_lt v (2 ^ 32)) (Some v) None
judged v len (Ok x) some h = grind (arith, common_steps)
judged v len (Err e) some h = elim (cases_lt v (2 ^ 32)) [
  | inl less ↦ absurd (h (some, less))
  | inr more ↦ grind (arith, common_steps)
]

pub parsed : {E : Type 0} (bs : List ℕ) (r : Result ℕ E) → IsTrue (is_decimal bs) → ParsesUnsigned 32 10 bs r → result_ok r ≡ written bs
parsed bs r h parses = judged (digits_value 10 bs) (length bs) r (some_digit bs h) (parse_digits own 32 bs r parses (digits bs h))
