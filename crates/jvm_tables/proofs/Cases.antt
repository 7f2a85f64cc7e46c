-- The offset that a switch has for a key.
use Rattle.std.proofs.Common.{◌≡◌, ◌≢◌, ℕ, suc, zero, ◌+◌, ◌-◌, ◌*◌, ◌<◌, List, true, false, not, ◌&&◌, cond, refl, sym, ◌∙◌, ap, arith, ℤ, pos, ◌+ℤ◌, ◌-ℤ◌, ◌<ℤ◌, ◌≤ℤ◌, int_lt, int_eq, unsigned_abs, length, map, Some, option_map, slice_get}
use Rattle.std.proofs.lemmas.Int.{ints, by_lt_z}
use Rattle.std.proofs.lemmas.Option.{slice_get-map}
use Rattle.std.proofs.lemmas.Bool.Decides.{Decides-int_eq}
use Rattle.jvm_tables.specs.Switches.{word, padding, chosen, target, table_pairs, lookup_pairs, table_switch_pairs, lookup_switch_pairs}

pub equal : (x y : ℤ) → x ≡ y → int_eq x y ≡ true
equal x y e = (Decides-int_eq x y).1 e

pub differ : (x y : ℤ) → x ≢ y → int_eq x y ≡ false
differ x y n = elim (int_eq x y) as (λ v. int_eq x y ≡ v → v ≡ false) [ true ↦ λ e. absurd (n ((Decides-int_eq x y).0 e)) | false ↦ λ e. refl ] refl

table_hit : (default : ℤ) (bytes : List ℕ) (i n at : ℕ) (low : ℤ) → i < n → chosen default (low +ℤ pos i) (table_pairs n low at bytes) ≡ word bytes (at + 4 * i)
table_hit default bytes i zero at low h = absurd (omega arith)
table_hit default bytes zero (suc n) at low h =
    let here : low ≡ low +ℤ pos zero = omega (arith, ints) in
    let place : at ≡ at + 4 * 0 = omega arith in
    rw (equal low (low +ℤ pos zero) here) (ap (word bytes) place)
table_hit default bytes (suc i) (suc n) at low h =
    let later : low ≢ low +ℤ pos (suc i) = λ e. omega (arith, ints) in
    let key : low +ℤ pos (suc i) ≡ (low +ℤ pos 1) +ℤ pos i = omega (arith, ints) in
    let place : at + 4 + 4 * i ≡ at + 4 * suc i = omega arith in
    rw (differ low (low +ℤ pos (suc i)) later)
    (ap (λ k. chosen default k (table_pairs n (low +ℤ pos 1) (at + 4) bytes)) key
    ∙ table_hit default bytes i n (at + 4) (low +ℤ pos 1) (omega arith) ∙ ap (word bytes) place)

table_below : (default key : ℤ) (bytes : List ℕ) (n at : ℕ) (low : ℤ) → key <ℤ low → chosen default key (table_pairs n low at bytes) ≡ default
table_below default key bytes zero at low h = refl
table_below default key bytes (suc n) at low h =
    let other : low ≢ key = λ e. omega (arith, ints) in
    rw (differ low key other) (table_below default key bytes n (at + 4) (low +ℤ pos 1) (omega (arith, ints)))

table_above : (default key : ℤ) (bytes : List ℕ) (n at : ℕ) (low : ℤ) → (low +ℤ pos n) ≤ℤ key → chosen default key (table_pairs n low at bytes) ≡ default
table_above default key bytes zero at low h = refl
table_above default key bytes (suc n) at low h =
    let other : low ≢ key = λ e. omega (arith, ints) in
    rw (differ low key other) (table_above default key bytes n (at + 4) (low +ℤ pos 1) (omega (arith, ints)))

-- a tableswitch has the offset at a key's place between the bounds, and the default elsewhere
pub table_chosen : (default key : ℤ) (bytes : List ℕ) (at : ℕ) (low high : ℤ) → int_lt high low ≡ false → chosen default key (table_pairs (unsigned_abs (high -ℤ low) + 1) low at bytes) ≡ cond (not (int_lt key low) && not (int_lt high key)) (word bytes (at + 4 * unsigned_abs (key -ℤ low))) default
table_chosen default key bytes at low high h =
    by_lt_z key low
    (λ below. let test : int_lt key low ≡ true = grind (arith, ints) in rw test (table_below default key bytes (unsigned_abs (high -ℤ low) + 1) at low below))
    (λ from_low.
    let test : int_lt key low ≡ false = grind (arith, ints) in
    rw test
    (by_lt_z high key
    (λ above. let over : int_lt high key ≡ true = grind (arith, ints) in let past : (low +ℤ pos (unsigned_abs (high -ℤ low) + 1)) ≤ℤ key = omega (arith, ints) in rw over (table_above default key bytes (unsigned_abs (high -ℤ low) + 1) at low past))
    (λ to_high.
    let over : int_lt high key ≡ false = grind (arith, ints) in
    let same : key ≡ low +ℤ pos (unsigned_abs (key -ℤ low)) = omega (arith, ints) in
    rw over
    (ap (λ k. chosen default k (table_pairs (unsigned_abs (high -ℤ low) + 1) low at bytes)) same
    ∙ table_hit default bytes (unsigned_abs (key -ℤ low)) (unsigned_abs (high -ℤ low) + 1) at low (omega (arith, ints))))))

-- the pair at k decides, else those after it
lookup_first : (default key : ℤ) (bytes : List ℕ) (at n : ℕ) → 0 < n → chosen default key (lookup_pairs n at bytes) ≡ cond (int_eq (word bytes at) key) (word bytes (at + 4)) (chosen default key (lookup_pairs (n - 1) (at + 8) bytes))
lookup_first default key bytes at zero h = absurd (omega arith)
lookup_first default key bytes at (suc n) h =
    let rest : n ≡ suc n - 1 = omega arith in
    ap (λ m. cond (int_eq (word bytes at) key) (word bytes (at + 4)) (chosen default key (lookup_pairs m (at + 8) bytes))) rest

pub lookup_found : (default key : ℤ) (bytes : List ℕ) (at count k : ℕ) (all : ℤ) → k < count → int_eq (word bytes (at + 8 * k)) key ≡ true → chosen default key (lookup_pairs (count - k) (at + 8 * k) bytes) ≡ all → word bytes (at + 8 * k + 4) ≡ all
lookup_found default key bytes at count k all h e was =
    let first : chosen default key (lookup_pairs (count - k) (at + 8 * k) bytes) ≡ cond (int_eq (word bytes (at + 8 * k)) key) (word bytes (at + 8 * k + 4)) (chosen default key (lookup_pairs (count - k - 1) (at + 8 * k + 8) bytes)) = lookup_first default key bytes (at + 8 * k) (count - k) (omega arith) in
    sym (rw e at first) ∙ was

pub lookup_on : (default key : ℤ) (bytes : List ℕ) (at count k : ℕ) (all : ℤ) → k < count → int_eq (word bytes (at + 8 * k)) key ≡ false → chosen default key (lookup_pairs (count - k) (at + 8 * k) bytes) ≡ all → chosen default key (lookup_pairs (count - (k + 1)) (at + 8 * (k + 1)) bytes) ≡ all
lookup_on default key bytes at count k all h e was =
    let first : chosen default key (lookup_pairs (count - k) (at + 8 * k) bytes) ≡ cond (int_eq (word bytes (at + 8 * k)) key) (word bytes (at + 8 * k + 4)) (chosen default key (lookup_pairs (count - k - 1) (at + 8 * k + 8) bytes)) = lookup_first default key bytes (at + 8 * k) (count - k) (omega arith) in
    let fewer : count - (k + 1) ≡ count - k - 1 = omega arith in
    let next : at + 8 * (k + 1) ≡ at + 8 * k + 8 = omega arith in
    ap (λ n. chosen default key (lookup_pairs n (at + 8 * (k + 1)) bytes)) fewer
    ∙ ap (λ n. chosen default key (lookup_pairs (count - k - 1) n bytes)) next
    ∙ sym (rw e at first) ∙ was

-- the default, outside the bounds
pub table_default : (default key answer : ℤ) (bytes : List ℕ) (at : ℕ) (low high : ℤ) → answer ≡ default → int_lt high low ≡ false → (not (int_lt key low) && not (int_lt high key)) ≡ false → answer ≡ chosen default key (table_pairs (unsigned_abs (high -ℤ low) + 1) low at bytes)
table_default default key answer bytes at low high e bounds outside =
    e ∙ sym (table_chosen default key bytes at low high bounds ∙ ap (λ b. cond b (word bytes (at + 4 * unsigned_abs (key -ℤ low))) default) outside)

table_length : (n at : ℕ) (low : ℤ) (bytes : List ℕ) → length (table_pairs n low at bytes) ≡ n
table_length zero at low bytes = refl
table_length (suc n) at low bytes = ap suc (table_length n (at + 4) (low +ℤ pos 1) bytes)

-- the pair of a tableswitch at a place
table_get : (n at k : ℕ) (low : ℤ) (bytes : List ℕ) → k < n → slice_get (table_pairs n low at bytes) k ≡ Some (low +ℤ pos k, word bytes (at + 4 * k))
table_get zero at k low bytes h = absurd (omega arith)
table_get (suc n) at zero low bytes h =
    let key : low ≡ low +ℤ pos 0 = omega (arith, ints) in
    let place : at ≡ at + 4 * 0 = omega arith in
    ap (λ z. Some (z, word bytes at)) key ∙ ap (λ m. Some (low +ℤ pos 0, word bytes m)) place
table_get (suc n) at (suc k) low bytes h =
    let key : (low +ℤ pos 1) +ℤ pos k ≡ low +ℤ pos (suc k) = omega (arith, ints) in
    let place : at + 4 + 4 * k ≡ at + 4 * suc k = omega arith in
    table_get n (at + 4) k (low +ℤ pos 1) bytes (omega arith)
    ∙ ap (λ z. Some (z, word bytes (at + 4 + 4 * k))) key ∙ ap (λ m. Some (low +ℤ pos (suc k), word bytes m)) place

lookup_length : (n at : ℕ) (bytes : List ℕ) → length (lookup_pairs n at bytes) ≡ n
lookup_length zero at bytes = refl
lookup_length (suc n) at bytes = ap suc (lookup_length n (at + 8) bytes)

-- the pair of a lookupswitch at a place
lookup_get : (n at k : ℕ) (bytes : List ℕ) → k < n → slice_get (lookup_pairs n at bytes) k ≡ Some (word bytes (at + 8 * k), word bytes (at + 8 * k + 4))
lookup_get zero at k bytes h = absurd (omega arith)
lookup_get (suc n) at zero bytes h =
    let place : at ≡ at + 8 * 0 = omega arith in
    ap (λ m. Some (word bytes m, word bytes (m + 4))) place
lookup_get (suc n) at (suc k) bytes h =
    let place : at + 8 + 8 * k ≡ at + 8 * suc k = omega arith in
    lookup_get n (at + 8) k bytes (omega arith) ∙ ap (λ m. Some (word bytes m, word bytes (m + 4))) place

pub table_count : (pc : ℕ) (bytes : List ℕ) → length (table_switch_pairs pc bytes) ≡ unsigned_abs (word bytes (padding pc + 8) -ℤ word bytes (padding pc + 4)) + 1
unfolding table_switch_pairs
table_count pc bytes = table_length _ _ _ bytes

pub lookup_count : (pc : ℕ) (bytes : List ℕ) → length (lookup_switch_pairs pc bytes) ≡ unsigned_abs (word bytes (padding pc + 4))
unfolding lookup_switch_pairs
lookup_count pc bytes = lookup_length _ _ bytes

pub table_pair : (pc k : ℕ) (bytes : List ℕ) → k < length (table_switch_pairs pc bytes) → slice_get (table_switch_pairs pc bytes) k ≡ Some (word bytes (padding pc + 4) +ℤ pos k, word bytes (padding pc + 12 + 4 * k))
unfolding table_switch_pairs
table_pair pc k bytes h = table_get _ _ k _ bytes (omega (arith, table_count pc bytes))

pub lookup_pair : (pc k : ℕ) (bytes : List ℕ) → k < length (lookup_switch_pairs pc bytes) → slice_get (lookup_switch_pairs pc bytes) k ≡ Some (word bytes (padding pc + 8 + 8 * k), word bytes (padding pc + 8 + 8 * k + 4))
unfolding lookup_switch_pairs
lookup_pair pc k bytes h = lookup_get _ _ k bytes (omega (arith, lookup_count pc bytes))

-- the cases of a switch are its pairs
pub case_at : (pc k : ℕ) (pairs : List (ℤ × ℤ)) (pair : ℤ × ℤ) → slice_get pairs k ≡ Some pair → slice_get (map (λ (p : ℤ × ℤ). let found : ℤ × ℕ = (p.0, target pc p.1) in found) pairs) k ≡ Some (pair.0, target pc pair.1)
case_at pc k pairs pair h =
    slice_get-map (λ (p : ℤ × ℤ). let found : ℤ × ℕ = (p.0, target pc p.1) in found) pairs k ∙ ap (option_map (λ (p : ℤ × ℤ). let found : ℤ × ℕ = (p.0, target pc p.1) in found)) h
