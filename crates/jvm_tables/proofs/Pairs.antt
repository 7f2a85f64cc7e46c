-- The pairs of a switch, one after another.
use Rattle.std.proofs.Common.{◌≡◌, ℕ, suc, zero, ◌+◌, ◌-◌, ◌*◌, ◌<◌, ◌≤◌, List, Bool, true, false, ◌&&◌, refl, sym, ◌∙◌, ap, arith, int_lt}
use Rattle.jvm_tables.specs.Switches.{word, keys_rise, lookup_pairs}

first_rises : (bytes : List ℕ) (at n : ℕ) → 2 ≤ n → keys_rise (lookup_pairs n at bytes) ≡ (int_lt (word bytes at) (word bytes (at + 8)) && keys_rise (lookup_pairs (n - 1) (at + 8) bytes))
first_rises bytes at zero h = absurd (omega arith)
first_rises bytes at (suc zero) h = absurd (omega arith)
first_rises bytes at (suc (suc m)) h =
    let one_less : suc m ≡ suc (suc m) - 1 = omega arith in
    ap (λ k. int_lt (word bytes at) (word bytes (at + 8)) && keys_rise (lookup_pairs k (at + 8) bytes)) one_less

pub last_rises : (bytes : List ℕ) (at n : ℕ) → n < 2 → keys_rise (lookup_pairs n at bytes) ≡ true
last_rises bytes at zero h = refl
last_rises bytes at (suc zero) h = refl
last_rises bytes at (suc (suc m)) h = absurd (omega arith)

-- where the key of a pair is below the next one, the others decide
pub rise_on : (bytes : List ℕ) (at count k : ℕ) (all : Bool) → 1 ≤ k → k < count → int_lt (word bytes (at + 8 * (k - 1))) (word bytes (at + 8 * (k - 1) + 8)) ≡ true → keys_rise (lookup_pairs (count - (k - 1)) (at + 8 * (k - 1)) bytes) ≡ all → keys_rise (lookup_pairs (count - (k + 1 - 1)) (at + 8 * (k + 1 - 1)) bytes) ≡ all
rise_on bytes at count k all low high below was =
    let here : ℕ = at + 8 * (k - 1) in
    let step : keys_rise (lookup_pairs (count - (k - 1)) here bytes) ≡ (int_lt (word bytes here) (word bytes (here + 8)) && keys_rise (lookup_pairs (count - (k - 1) - 1) (here + 8) bytes)) = first_rises bytes here (count - (k - 1)) (omega arith) in
    let rest : keys_rise (lookup_pairs (count - (k - 1)) here bytes) ≡ keys_rise (lookup_pairs (count - (k - 1) - 1) (here + 8) bytes) = step ∙ ap (λ b. b && keys_rise (lookup_pairs (count - (k - 1) - 1) (here + 8) bytes)) below in
    let fewer : count - (k + 1 - 1) ≡ count - (k - 1) - 1 = omega arith in
    let next : at + 8 * (k + 1 - 1) ≡ here + 8 = omega arith in
    ap (λ n. keys_rise (lookup_pairs n (at + 8 * (k + 1 - 1)) bytes)) fewer
    ∙ ap (λ n. keys_rise (lookup_pairs (count - (k - 1) - 1) n bytes)) next
    ∙ sym rest ∙ was

-- where it is not, they do not rise
pub fall : (bytes : List ℕ) (at count k : ℕ) (all : Bool) → 1 ≤ k → k < count → int_lt (word bytes (at + 8 * (k - 1))) (word bytes (at + 8 * (k - 1) + 8)) ≡ false → keys_rise (lookup_pairs (count - (k - 1)) (at + 8 * (k - 1)) bytes) ≡ all → all ≡ false
fall bytes at count k all low high above was =
    let here : ℕ = at + 8 * (k - 1) in
    let step : keys_rise (lookup_pairs (count - (k - 1)) here bytes) ≡ (int_lt (word bytes here) (word bytes (here + 8)) && keys_rise (lookup_pairs (count - (k - 1) - 1) (here + 8) bytes)) = first_rises bytes here (count - (k - 1)) (omega arith) in
    sym was ∙ step ∙ ap (λ b. b && keys_rise (lookup_pairs (count - (k - 1) - 1) (here + 8) bytes)) above
