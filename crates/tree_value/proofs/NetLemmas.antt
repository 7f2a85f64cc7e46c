-- What carries its length before it is read in one way alone.
use Rattle.std.proofs.Common.{◌≡◌, ℕ, ◌+◌, ◌%◌, ◌<◌, ◌^◌, List, [], ◌∷◌, ◌++◌, length, drop, refl, sym, ◌∙◌, ap, arith, slice_index_or}
use Rattle.std.specs.List.{AllByRecursion}
use Rattle.std.specs.Fmt.{decimal}
use Rattle.std.proofs.lemmas.Fmt.{decimal_by_steps, decimal_injective}
use Rattle.std.proofs.lemmas.List.{append_assoc}
use Rattle.std.proofs.Math.Nat.{mod-lt}
use Rattle.tree_value.specs.Nets.{net}

same_head : (x y : ℕ) (xs ys : List ℕ) → x ∷ xs ≡ y ∷ ys → x ≡ y
same_head x y xs ys e = ap (λ l. slice_index_or l 0 0) e

same_tail : (x y : ℕ) (xs ys : List ℕ) → x ∷ xs ≡ y ∷ ys → xs ≡ ys
same_tail x y xs ys e = ap (drop 1) e

-- two texts that are cut at their first c
same_until : (c : ℕ) (a b p q : List ℕ) → AllByRecursion (λ x. x < c) a → AllByRecursion (λ x. x < c) b → a ++ c ∷ p ≡ b ++ c ∷ q → (a ≡ b) × (p ≡ q)
same_until c [] [] p q _ _ e = (refl, same_tail c c p q e)
same_until c [] (y ∷ b) p q _ less e = let same = same_head c y p (b ++ c ∷ q) e in let below = less.0 in absurd (omega (arith, same, below))
same_until c (x ∷ a) [] p q less _ e = let same = same_head x c (a ++ c ∷ p) q e in let below = less.0 in absurd (omega (arith, same, below))
same_until c (x ∷ a) (y ∷ b) p q first second e =
    let rest = same_until c a b p q first.1 second.1 (same_tail x y (a ++ c ∷ p) (b ++ c ∷ q) e) in
    let head = same_head x y (a ++ c ∷ p) (b ++ c ∷ q) e in
    (λ i. head i ∷ rest.0 i, rest.1)

-- two texts of one length that begin two equal texts
same_begin : (a b p q : List ℕ) → length a ≡ length b → a ++ p ≡ b ++ q → (a ≡ b) × (p ≡ q)
same_begin [] [] p q same e = (refl, e)
same_begin [] (y ∷ b) p q same e = absurd (omega (arith, same))
same_begin (x ∷ a) [] p q same e = absurd (omega (arith, same))
same_begin (x ∷ a) (y ∷ b) p q same e =
    let rest = same_begin a b p q (omega (arith, same)) (same_tail x y (a ++ p) (b ++ q) e) in
    let head = same_head x y (a ++ p) (b ++ q) e in
    (λ i. head i ∷ rest.0 i, rest.1)

one_more_digit : (ds : List ℕ) (d : ℕ) → AllByRecursion (λ x. x < 58) ds → d < 58 → AllByRecursion (λ x. x < 58) (ds ++ d ∷ [])
one_more_digit [] d _ below = (below, tt)
one_more_digit (x ∷ ds) d all below = (all.0, one_more_digit ds d all.1 below)

digits_before_colon : (n : ℕ) → n < 2 ^ 64 → AllByRecursion (λ x. x < 58) (decimal n)
digits_before_colon = decimal_by_steps (λ _ ds. AllByRecursion (λ x. x < 58) ds)
    (λ n below. (omega (arith, below), tt))
    (λ n ds _ all. one_more_digit ds (48 + n % 10) all (let digit = mod-lt n {m = 10} (omega arith) in omega (arith, digit)))

pub net-parts : (x r : List ℕ) → net x ++ r ≡ decimal (length x) ++ 58 ∷ (x ++ 44 ∷ r)
unfolding net
net-parts x r = append_assoc (decimal (length x) ++ 58 ∷ x) (44 ∷ []) r ∙ append_assoc (decimal (length x)) (58 ∷ x) (44 ∷ r)

-- the text and what follows it are both read back
pub same_net : (x y r s : List ℕ) → length x < 2 ^ 64 → length y < 2 ^ 64 → net x ++ r ≡ net y ++ s → (x ≡ y) × (r ≡ s)
same_net x y r s fits_x fits_y e =
    let parts = same_until 58 (decimal (length x)) (decimal (length y)) (x ++ 44 ∷ r) (y ++ 44 ∷ s) (digits_before_colon _ fits_x) (digits_before_colon _ fits_y) (sym (net-parts x r) ∙ e ∙ net-parts y s) in
    let texts = same_begin x y (44 ∷ r) (44 ∷ s) (decimal_injective _ _ fits_x fits_y parts.0) parts.1 in
    (texts.0, same_tail 44 44 r s texts.1)
