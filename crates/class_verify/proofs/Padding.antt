-- Locals of which only the first are kept.
use Rattle.std.proofs.Common.{◌≡◌, ℕ, zero, suc, ◌+◌, ◌-◌, ◌<◌, ◌≤◌, min, max, Bool, true, false, ◌&&◌, cond, List, [], ◌∷◌, ◌++◌, length, take, drop, set, Some, None, refl, sym, ap, ◌∙◌, arith, append_assoc, length-append}
use Rattle.std.specs.Prelude.{replicate, slice_get}
use Rattle.std.specs.List.{list_all}
use Rattle.std.proofs.Math.ListN.{length-set}
use Rattle.std.proofs.lemmas.Bool.{lt-ltb}
use Rattle.std.proofs.lemmas.List.{length-replicate, length-take-le, length-drop, take-append-drop, set-append_left, replicate-append-replicate}
use Rattle.class_verify.specs.declared.kinds.Kind.{Kind}
use Rattle.class_verify.specs.declared.kinds.Kind.TheVariants as kinds
use Rattle.class_verify.specs.Kinds.{is_kind, is_top, fits, all_fit}
use Rattle.class_verify.specs.Locals.{is_some_kind, without_long_before, with_kind, with_long}
use Rattle.class_verify.specs.Padding.{padded, kind_written, long_written}
use Rattle.class_verify.proofs.Fitting.{fit-append}

abbrev tops : ℕ → List Kind
tops n = replicate n kinds.Top

pub length_padded : (most : ℕ) (slots : List Kind) → length (padded most slots) ≡ max (length slots) most
length_padded most slots =
    omega (arith, length-append slots (tops (most - length slots)), length-replicate (most - length slots) kinds.Top)

-- Top fits only Top, and everything fits Top
top_fits : (w : Kind) → fits kinds.Top w ≡ is_top w
top_fits kinds.Top = refl
top_fits kinds.Int = refl
top_fits kinds.Long = refl
top_fits kinds.Reference = refl

tops_fit : (ws : List Kind) → all_fit (tops (length ws)) ws ≡ list_all is_top ws
tops_fit [] = refl
tops_fit (w ∷ ws) = ap (λ b. b && all_fit (tops (length ws)) ws) (top_fits w) ∙ ap (λ b. is_top w && b) (tops_fit ws)

fit_tops : (ks : List Kind) → all_fit ks (tops (length ks)) ≡ true
fit_tops [] = refl
fit_tops (k ∷ ks) = fit_tops ks

all_tops : (ws : List Kind) (n : ℕ) → list_all is_top (ws ++ tops n) ≡ list_all is_top ws
all_tops [] zero = refl
all_tops [] (suc n) = all_tops [] n
all_tops (w ∷ ws) n = ap (λ b. is_top w && b) (all_tops ws n)

-- Behind the common part one of both has only Top.
rest_fits : (a b : List Kind) (p q : ℕ) → length (a ++ tops p) ≡ length (b ++ tops q) → min (length a) (length b) ≡ 0
    → all_fit (a ++ tops p) (b ++ tops q) ≡ list_all is_top b
rest_fits [] b p q e z =
    let n : p ≡ length (b ++ tops q) = sym (length-replicate p kinds.Top) ∙ e in
    ap (λ m. all_fit (tops m) (b ++ tops q)) n ∙ tops_fit (b ++ tops q) ∙ all_tops b q
rest_fits (k ∷ a) [] p q e z =
    let n : q ≡ length ((k ∷ a) ++ tops p) = sym (length-replicate q kinds.Top) ∙ sym e in
    ap (λ m. all_fit ((k ∷ a) ++ tops p) (tops m)) n ∙ fit_tops ((k ∷ a) ++ tops p)
rest_fits (k ∷ a) (w ∷ b) p q e z = absurd (omega arith)

split : (c p : ℕ) (a : List Kind) → a ++ tops p ≡ take c a ++ (drop c a ++ tops p)
split c p a = ap (λ x. x ++ tops p) (sym (take-append-drop c a)) ∙ append_assoc (take c a) (drop c a) (tops p)

-- what is common fits, and of the others the rest is Top
abbrev pub common_fit : List Kind → List Kind → Bool
common_fit slots others =
    let common : ℕ = min (length slots) (length others) in
    all_fit (take common slots) (take common others) && list_all is_top (drop common others)

pub padded_fit : (a b : List Kind) (m n : ℕ) → length (padded m a) ≡ length (padded n b)
    → all_fit (padded m a) (padded n b)
    ≡ common_fit a b
padded_fit a b m n e =
    let c : ℕ = min (length a) (length b) in
    let p : ℕ = m - length a in
    let q : ℕ = n - length b in
    let ta : length (take c a) ≡ c = length-take-le c a (omega arith) in
    let tb : length (take c b) ≡ c = length-take-le c b (omega arith) in
    let da : length (drop c a) ≡ length a - c = length-drop c a in
    let db : length (drop c b) ≡ length b - c = length-drop c b in
    let ea : length (a ++ tops p) ≡ length a + length (tops p) = length-append a (tops p) in
    let eb : length (b ++ tops q) ≡ length b + length (tops q) = length-append b (tops q) in
    let fa : length (drop c a ++ tops p) ≡ length (drop c a) + length (tops p) = length-append (drop c a) (tops p) in
    let fb : length (drop c b ++ tops q) ≡ length (drop c b) + length (tops q) = length-append (drop c b) (tops q) in
    ap (λ x. all_fit x (padded n b)) (split c p a) ∙ ap (λ y. all_fit (take c a ++ (drop c a ++ tops p)) y) (split c q b)
    ∙ fit-append (take c a) (take c b) (drop c a ++ tops p) (drop c b ++ tops q) (ta ∙ sym tb)
    ∙ ap (λ r. all_fit (take c a) (take c b) && r) (rest_fits (drop c a) (drop c b) p q (omega arith) (omega arith))

-- A read finds in the kept part what it finds in the whole, if it isn't Top that it looks for.
none_in_tops : (wanted : Kind) → is_kind wanted kinds.Top ≡ false → (n i : ℕ) → is_some_kind wanted (slice_get (tops n) i) ≡ false
none_in_tops wanted f zero i = refl
none_in_tops wanted f (suc n) zero = f
none_in_tops wanted f (suc n) (suc i) = none_in_tops wanted f n i

got_before : (wanted : Kind) → is_kind wanted kinds.Top ≡ false → (n i : ℕ) (slots : List Kind)
    → is_some_kind wanted (slice_get (slots ++ tops n) i) ≡ is_some_kind wanted (slice_get slots i)
got_before wanted f n i [] = none_in_tops wanted f n i
got_before wanted f n zero (k ∷ slots) = refl
got_before wanted f n (suc i) (k ∷ slots) = got_before wanted f n i slots

get_padded : (wanted : Kind) (most at : ℕ) (slots : List Kind) → is_kind wanted kinds.Top ≡ false
    → is_some_kind wanted (slice_get (padded most slots) at) ≡ is_some_kind wanted (slice_get slots at)
get_padded wanted most at slots f = got_before wanted f (most - length slots) at slots

pub is_int_padded : (most at : ℕ) (slots : List Kind) → is_some_kind kinds.Int (slice_get (padded most slots) at) ≡ is_some_kind kinds.Int (slice_get slots at)
is_int_padded most at slots = get_padded kinds.Int most at slots refl

pub is_long_padded : (most at : ℕ) (slots : List Kind) → is_some_kind kinds.Long (slice_get (padded most slots) at) ≡ is_some_kind kinds.Long (slice_get slots at)
is_long_padded most at slots = get_padded kinds.Long most at slots refl

pub is_reference_padded : (most at : ℕ) (slots : List Kind) → is_some_kind kinds.Reference (slice_get (padded most slots) at) ≡ is_some_kind kinds.Reference (slice_get slots at)
is_reference_padded most at slots = get_padded kinds.Reference most at slots refl

-- Writing out some of the Top behind them changes nothing.
pub padded_more : (most count : ℕ) (slots : List Kind) → count ≤ max (length slots) most → padded most (padded count slots) ≡ padded most slots
padded_more most count slots h =
    let p : ℕ = count - length slots in
    let len : length (padded count slots) ≡ max (length slots) count = length_padded count slots in
    let sum : p + (most - length (padded count slots)) ≡ most - length slots = omega arith in
    append_assoc slots (tops p) (tops (most - length (padded count slots)))
    ∙ ap (λ x. slots ++ x) (replicate-append-replicate p (most - length (padded count slots)) kinds.Top ∙ ap tops sum)

pub set_padded : (most at : ℕ) (slots : List Kind) (k : Kind) → at < length slots → set (padded most slots) at k ≡ padded most (set slots at k)
set_padded most at slots k h =
    set-append_left slots (tops (most - length slots)) at k h
    ∙ ap (λ n. set slots at k ++ tops (most - n)) (sym (length-set slots at k))

pub without_padded : (most at : ℕ) (slots : List Kind) → at < length slots → without_long_before at (padded most slots) ≡ padded most (without_long_before at slots)
without_padded most zero slots h = refl
without_padded most (suc at) slots h =
    ap (λ b. cond b (set (padded most slots) at kinds.Top) (padded most slots)) (is_long_padded most at slots)
    ∙ by_test (is_some_kind kinds.Long (slice_get slots at))
  where
    by_test : (b : Bool) → cond b (set (padded most slots) at kinds.Top) (padded most slots) ≡ padded most (cond b (set slots at kinds.Top) slots)
    by_test true = set_padded most at slots kinds.Top (omega arith)
    by_test false = refl

pub length-without : (at : ℕ) (slots : List Kind) → length (without_long_before at slots) ≡ length slots
length-without zero slots = refl
length-without (suc at) slots = by_test (is_some_kind kinds.Long (slice_get slots at))
  where
    by_test : (b : Bool) → length (cond b (set slots at kinds.Top) slots) ≡ length slots
    by_test true = length-set slots at kinds.Top
    by_test false = refl

pub within_padded : (count at : ℕ) (slots : List Kind) → at < count → at < length (padded count slots)
within_padded count at slots h = omega (arith, length_padded count slots)

pub within_written_out : (count at : ℕ) (slots : List Kind) → at < count → at < length (without_long_before at (padded count slots))
within_written_out count at slots h = omega (arith, length-without at (padded count slots), length_padded count slots)

pub within_long : (at : ℕ) (slots : List Kind) (k : Kind) → at + 1 < length (set (without_long_before at (padded (at + 2) slots)) at k)
within_long at slots k =
    let out : List Kind = without_long_before at (padded (at + 2) slots) in
    omega (arith, length-set out at k, length-without at (padded (at + 2) slots), length_padded (at + 2) slots)

-- the kept part behind a store, in which so many slots are written out first
abbrev pub written_out : ℕ → ℕ → List Kind → List Kind
written_out at count slots = without_long_before at (padded count slots)

pub written_out_is : (most at count : ℕ) (slots : List Kind) → at < count → count ≤ max (length slots) most
    → without_long_before at (padded most slots) ≡ padded most (written_out at count slots)
written_out_is most at count slots h le =
    ap (without_long_before at) (sym (padded_more most count slots le))
    ∙ without_padded most at (padded count slots) (omega (arith, length_padded count slots))

pub kind_stored : (most at : ℕ) (slots : List Kind) (k : Kind) → at < length (padded most slots)
    → with_kind k at (padded most slots) ≡ Some (padded most (kind_written k at slots))
unfolding kind_written
kind_stored most at slots k there =
    let h : at < max (length slots) most = omega (arith, length_padded most slots) in
    let within : at < length (written_out at (at + 1) slots) = omega (arith, length-without at (padded (at + 1) slots), length_padded (at + 1) slots) in
    ap (λ b. cond b (Some (set (without_long_before at (padded most slots)) at k)) None) (lt-ltb at (length (padded most slots)) there)
    ∙ ap (λ x. Some (set x at k)) (written_out_is most at (at + 1) slots (omega arith) (omega arith))
    ∙ ap Some (set_padded most at (written_out at (at + 1) slots) k within)

pub long_stored : (most at : ℕ) (slots : List Kind) → at + 1 < length (padded most slots)
    → with_long at (padded most slots) ≡ Some (padded most (long_written at slots))
unfolding long_written
long_stored most at slots there =
    let h : at + 1 < max (length slots) most = omega (arith, length_padded most slots) in
    let out : List Kind = written_out at (at + 2) slots in
    let within : at + 1 < length out = omega (arith, length-without at (padded (at + 2) slots), length_padded (at + 2) slots) in
    let kept : at + 1 < length (set out at kinds.Long) = omega (arith, length-set out at kinds.Long) in
    ap (λ b. cond b (Some (set (set (without_long_before at (padded most slots)) at kinds.Long) (at + 1) kinds.Top)) None) (lt-ltb (at + 1) (length (padded most slots)) there)
    ∙ ap (λ x. Some (set (set x at kinds.Long) (at + 1) kinds.Top)) (written_out_is most at (at + 2) slots (omega arith) (omega arith))
    ∙ ap (λ x. Some (set x (at + 1) kinds.Top)) (set_padded most at out kinds.Long (omega arith))
    ∙ ap Some (set_padded most (at + 1) (set out at kinds.Long) kinds.Top kept)
