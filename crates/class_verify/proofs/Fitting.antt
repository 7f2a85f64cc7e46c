-- Fitting, kind by kind.
use Rattle.std.proofs.Common.{◌≡◌, ℕ, suc, ◌+◌, ◌<◌, ◌≤◌, Bool, List, [], ◌∷◌, ◌++◌, length, drop, get_or, reverse, true, false, ◌&&◌, refl, sym, ap, ◌∙◌, ◌⊎◌, inl, inr, arith}
use Rattle.std.proofs.lemmas.List.{drop_more, drop_all, reverse-append, length-reverse}
use Rattle.std.proofs.lemmas.Bool.{cases_eq}
use Rattle.class_verify.specs.declared.kinds.Kind.{Kind}
use Rattle.class_verify.specs.Kinds.{fits, all_fit}

pub and_false : (b : Bool) → (b && false) ≡ false
and_false true = refl
and_false false = refl

pub and_true : (b : Bool) → (b && true) ≡ b
and_true true = refl
and_true false = refl

pub and_comm : (a b : Bool) → (a && b) ≡ (b && a)
and_comm true true = refl
and_comm true false = refl
and_comm false true = refl
and_comm false false = refl

pub and_assoc : (a b c : Bool) → ((a && b) && c) ≡ (a && (b && c))
and_assoc true b c = refl
and_assoc false b c = refl

pub fit_step : (a b : List Kind) (i : ℕ) (k w : Kind) → i < length a → i < length b → k ≡ get_or a i k → w ≡ get_or b i w
    → all_fit (drop i a) (drop i b) ≡ (fits k w && all_fit (drop (i + 1) a) (drop (i + 1) b))
fit_step a b i k w h h' e e' =
    ap (λ x. all_fit x (drop i b)) (drop_more a i k h) ∙ ap (λ y. all_fit (get_or a i k ∷ drop (i + 1) a) y) (drop_more b i w h')
    ∙ ap (λ x. fits x (get_or b i w) && all_fit (drop (i + 1) a) (drop (i + 1) b)) (sym e)
    ∙ ap (λ y. fits k y && all_fit (drop (i + 1) a) (drop (i + 1) b)) (sym e')

pub fit_end : (a b : List Kind) (i : ℕ) → length a ≤ i → length b ≤ i → all_fit (drop i a) (drop i b) ≡ true
fit_end a b i h h' = ap (λ x. all_fit x (drop i b)) (drop_all i a h) ∙ ap (λ y. all_fit [] y) (drop_all i b h')

pub fit_lengths : (a b : List Kind) → (length a ≡ length b → ⊥) → all_fit a b ≡ false
fit_lengths [] [] n = absurd (n refl)
fit_lengths [] (w ∷ b) n = refl
fit_lengths (k ∷ a) [] n = refl
fit_lengths (k ∷ a) (w ∷ b) n = ap (λ c. fits k w && c) (fit_lengths a b (λ e. n (ap (λ m. suc m) e))) ∙ and_false (fits k w)

pub fit-append : (a b x y : List Kind) → length a ≡ length b → all_fit (a ++ x) (b ++ y) ≡ (all_fit a b && all_fit x y)
fit-append [] [] x y e = refl
fit-append [] (w ∷ b) x y e = absurd (omega arith)
fit-append (k ∷ a) [] x y e = absurd (omega arith)
fit-append (k ∷ a) (w ∷ b) x y e = ap (λ c. fits k w && c) (fit-append a b x y (omega arith)) ∙ sym (and_assoc (fits k w) (all_fit a b) (all_fit x y))

reverse-cons : (k : Kind) (a : List Kind) → reverse (k ∷ a) ≡ reverse a ++ k ∷ []
reverse-cons k a = reverse-append (k ∷ []) a

-- Stacks of one height fit from the top on as from the bottom on.
fit_turned : (a b : List Kind) → length a ≡ length b → all_fit (reverse a) (reverse b) ≡ all_fit a b
fit_turned [] [] e = refl
fit_turned [] (w ∷ b) e = absurd (omega arith)
fit_turned (k ∷ a) [] e = absurd (omega arith)
fit_turned (k ∷ a) (w ∷ b) e =
    let same : length a ≡ length b = omega arith in
    ap (λ x. all_fit x (reverse (w ∷ b))) (reverse-cons k a) ∙ ap (λ y. all_fit (reverse a ++ k ∷ []) y) (reverse-cons w b)
    ∙ fit-append (reverse a) (reverse b) (k ∷ []) (w ∷ []) (length-reverse a ∙ same ∙ sym (length-reverse b))
    ∙ ap (λ c. c && (fits k w && true)) (fit_turned a b same)
    ∙ and_comm (all_fit a b) (fits k w && true)
    ∙ ap (λ c. c && all_fit a b) (and_true (fits k w))

-- The same of any stacks.
pub turned : (a b : List Kind) → all_fit (reverse a) (reverse b) ≡ all_fit a b
turned a b = by_lengths (cases_eq (length a) (length b))
  where
    by_lengths : (length a ≡ length b) ⊎ (length a ≡ length b → ⊥) → all_fit (reverse a) (reverse b) ≡ all_fit a b
    by_lengths (inl e) = fit_turned a b e
    by_lengths (inr n) =
        fit_lengths (reverse a) (reverse b) (λ e. n (sym (length-reverse a) ∙ e ∙ length-reverse b)) ∙ sym (fit_lengths a b n)
