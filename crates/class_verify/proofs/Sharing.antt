-- Lists of kinds in two parts.
use Rattle.std.proofs.Common.{◌≡◌, ℕ, zero, suc, ◌-◌, ◌<◌, ◌≤◌, min, Bool, true, ◌&&◌, List, [], ◌∷◌, ◌++◌, length, take, drop, set, refl, sym, ap, ◌∙◌, arith, append_assoc}
use Rattle.std.specs.Prelude.{slice_get}
use Rattle.std.specs.List.{list_all}
use Rattle.std.proofs.lemmas.List.{length-take, length-take-le, take-append-drop, take-take, take-append-le, take_all, take_rest, set-append_right, append-nil}
use Rattle.std.proofs.lemmas.List.Folds.{list_all-append}
use Rattle.class_verify.specs.declared.kinds.Kind.{Kind}
use Rattle.class_verify.specs.Kinds.{is_top, fits, all_fit}
use Rattle.class_verify.specs.Padding.{padded}
use Rattle.class_verify.specs.SharedKinds.{kept_fit}
use Rattle.class_verify.proofs.Fitting.{and_assoc}
use Rattle.class_verify.proofs.Padding.{padded_fit}

-- as it is compared: the common part, and what is behind it
by_common : (a b : List Kind) (c : ℕ) → c ≡ min (length a) (length b) → (all_fit (take c a) (take c b) && list_all is_top (drop c b)) ≡ kept_fit a b
by_common [] b zero e = refl
by_common [] b (suc c) e = absurd (omega arith)
by_common (k ∷ a) [] zero e = refl
by_common (k ∷ a) [] (suc c) e = absurd (omega arith)
by_common (k ∷ a) (w ∷ b) zero e = absurd (omega arith)
by_common (k ∷ a) (w ∷ b) (suc c) e =
    and_assoc (fits k w) (all_fit (take c a) (take c b)) (list_all is_top (drop c b)) ∙ ap (λ r. fits k w && r) (by_common a b c (omega arith))

pub both_are : (a b c d e : Bool) → a ≡ c → b ≡ d → (c && d) ≡ e → (a && b) ≡ e
both_are a b c d e p q r = ap (λ x. x && b) p ∙ ap (λ x. c && x) q ∙ r

-- those from a place on, as a slice has them
abbrev rest : ℕ → List Kind → List Kind
rest n xs = take (length xs - n) (drop n xs)

pub common_fit : (a b : List Kind) (c : ℕ) → c ≡ min (length a) (length b) → (all_fit (take c a) (take c b) && list_all is_top (rest c b)) ≡ kept_fit a b
common_fit a b c e = ap (λ x. all_fit (take c a) (take c b) && list_all is_top x) (take_rest b c) ∙ by_common a b c e

-- padded to one length
pub padded_fits : (a b : List Kind) (m n : ℕ) → length (padded m a) ≡ length (padded n b) → all_fit (padded m a) (padded n b) ≡ kept_fit a b
padded_fits a b m n e = padded_fit a b m n e ∙ by_common a b (min (length a) (length b)) refl

none_wanted : (a : List Kind) → kept_fit a [] ≡ true
none_wanted [] = refl
none_wanted (k ∷ a) = refl

same_length : (x z a b : List Kind) → length x ≡ length z → kept_fit (x ++ a) (z ++ b) ≡ (kept_fit x z && kept_fit a b)
same_length [] [] a b e = refl
same_length [] (w ∷ z) a b e = absurd (omega arith)
same_length (k ∷ x) [] a b e = absurd (omega arith)
same_length (k ∷ x) (w ∷ z) a b e =
    ap (λ r. fits k w && r) (same_length x z a b (omega arith)) ∙ sym (and_assoc (fits k w) (kept_fit x z) (kept_fit a b))

behind : (a x y : List Kind) (c : ℕ) → c ≡ min (length a) (length x) → kept_fit a (x ++ y) ≡ (kept_fit (take c a) x && kept_fit (drop c a) y)
behind [] x y zero e = list_all-append is_top x y
behind [] x y (suc c) e = absurd (omega arith)
behind (k ∷ a) [] y zero e = refl
behind (k ∷ a) [] y (suc c) e = absurd (omega arith)
behind (k ∷ a) (w ∷ x) y zero e = absurd (omega arith)
behind (k ∷ a) (w ∷ x) y (suc c) e =
    ap (λ r. fits k w && r) (behind a x y c (omega arith)) ∙ sym (and_assoc (fits k w) (kept_fit (take c a) x) (kept_fit (drop c a) y))

before : (x y w : List Kind) (c : ℕ) → c ≡ min (length x) (length w) → kept_fit (x ++ y) w ≡ (kept_fit x (take c w) && kept_fit y (drop c w))
before [] y w zero e = refl
before [] y w (suc c) e = absurd (omega arith)
before (k ∷ x) y [] zero e = sym (none_wanted y)
before (k ∷ x) y [] (suc c) e = absurd (omega arith)
before (k ∷ x) y (v ∷ w) zero e = absurd (omega arith)
before (k ∷ x) y (v ∷ w) (suc c) e =
    ap (λ r. fits k v && r) (before x y w c (omega arith)) ∙ sym (and_assoc (fits k v) (kept_fit x (take c w)) (kept_fit y (drop c w)))

pub fit_both : (a x y : List Kind) (c : ℕ) → c ≡ min (length a) (length x) → (kept_fit (take c a) x && kept_fit (rest c a) y) ≡ kept_fit a (x ++ y)
fit_both a x y c e = ap (λ r. kept_fit (take c a) x && kept_fit r y) (take_rest a c) ∙ sym (behind a x y c e)

pub both_fit : (x y w : List Kind) (c : ℕ) → c ≡ min (length x) (length w) → (kept_fit x (take c w) && kept_fit y (rest c w)) ≡ kept_fit (x ++ y) w
both_fit x y w c e = ap (λ r. kept_fit x (take c w) && kept_fit y r) (take_rest w c) ∙ sym (before x y w c e)

pub fewer_fit : (a own b of_b : List Kind) → length a ≤ length b
    → (kept_fit a (take (length a) b) && kept_fit own (rest (length a) b ++ of_b)) ≡ kept_fit (a ++ own) (b ++ of_b)
fewer_fit a own b of_b le =
    let n : ℕ = length a in
    let same : length a ≡ length (take n b) = sym (length-take-le n b le) in
    let parts : b ++ of_b ≡ take n b ++ (drop n b ++ of_b) = ap (λ x. x ++ of_b) (sym (take-append-drop n b)) ∙ append_assoc (take n b) (drop n b) of_b in
    ap (λ r. kept_fit a (take n b) && kept_fit own (r ++ of_b)) (take_rest b n)
    ∙ sym (ap (kept_fit (a ++ own)) parts ∙ same_length a (take n b) own (drop n b ++ of_b) same)

pub more_fit : (a own b of_b : List Kind) → length b ≤ length a
    → (kept_fit (take (length b) a) b && kept_fit (rest (length b) a ++ own) of_b) ≡ kept_fit (a ++ own) (b ++ of_b)
more_fit a own b of_b le =
    let n : ℕ = length b in
    let same : length (take n a) ≡ length b = length-take-le n a le in
    let parts : a ++ own ≡ take n a ++ (drop n a ++ own) = ap (λ x. x ++ own) (sym (take-append-drop n a)) ∙ append_assoc (take n a) (drop n a) own in
    ap (λ r. kept_fit (take n a) b && kept_fit (r ++ own) of_b) (take_rest a n)
    ∙ sym (ap (λ x. kept_fit x (b ++ of_b)) parts ∙ same_length (take n a) b (drop n a ++ own) of_b same)

-- Those that were shared become own from a place on.
own_from : (items own : List Kind) (first place : ℕ) → place < length (take first items)
    → take place items ++ (drop place (take first items) ++ own) ≡ take first items ++ own
own_from items own first place h =
    let le : place ≤ first = omega (arith, length-take first items) in
    ap (λ x. x ++ (drop place (take first items) ++ own)) (sym (take-take place first items le))
    ∙ sym (append_assoc (take place (take first items)) (drop place (take first items)) own)
    ∙ ap (λ x. x ++ own) (take-append-drop place (take first items))

pub set_own : (items own : List Kind) (first place : ℕ) (kind : Kind) → place < length (take first items)
    → take place items ++ set (rest place (take first items) ++ own) 0 kind ≡ set (take first items ++ own) place kind
set_own items own first place kind h =
    let slice : take place items ++ set (rest place (take first items) ++ own) 0 kind ≡ take place items ++ set (drop place (take first items) ++ own) 0 kind =
    ap (λ r. take place items ++ set (r ++ own) 0 kind) (take_rest (take first items) place) in
    let le : place ≤ length items = omega (arith, length-take first items) in
    let n : length (take place items) ≡ place = length-take-le place items le in
    let z : place - place ≡ 0 = omega arith in
    slice ∙ ap (λ i. take place items ++ set (drop place (take first items) ++ own) i kind) (sym z)
    ∙ sym (set-append_right (take place items) (drop place (take first items) ++ own) place place kind n (omega arith))
    ∙ ap (λ x. set x place kind) (own_from items own first place h)

pub set_behind : (a own : List Kind) (place : ℕ) (kind : Kind) → length a ≤ place → a ++ set own (place - length a) kind ≡ set (a ++ own) place kind
set_behind a own place kind h = sym (set-append_right a own (length a) place kind refl h)

pub cut_shared : (items own : List Kind) (first most : ℕ) → most ≤ length (take first items) → take most items ++ [] ≡ take most (take first items ++ own)
cut_shared items own first most h =
    append-nil (take most items) ∙ sym (take-take most first items (omega (arith, length-take first items)))
    ∙ sym (take-append-le most (take first items) own h)

pub cut_own : (a own : List Kind) (most : ℕ) → length a ≤ most → a ++ take (most - length a) own ≡ take most (a ++ own)
cut_own [] own most h = ap (λ n. take n own) (omega arith)
cut_own (k ∷ a) own zero h = absurd (omega arith)
cut_own (k ∷ a) own (suc most) h = ap (λ x. k ∷ x) (ap (λ n. a ++ take n own) (omega arith) ∙ cut_own a own most (omega arith))

pub get_first : (a b : List Kind) (i : ℕ) → i < length a → slice_get (a ++ b) i ≡ slice_get a i
get_first [] b i h = absurd (omega arith)
get_first (k ∷ a) b zero h = refl
get_first (k ∷ a) b (suc i) h = get_first a b i (omega arith)

pub get_behind : (a b : List Kind) (i : ℕ) → length a ≤ i → slice_get (a ++ b) i ≡ slice_get b (i - length a)
get_behind [] b i h = ap (slice_get b) (omega arith)
get_behind (k ∷ a) b zero h = absurd (omega arith)
get_behind (k ∷ a) b (suc i) h = get_behind a b i (omega arith) ∙ ap (slice_get b) (omega arith)

pub shared_all : (all : List Kind) → take (length all) all ++ [] ≡ all
shared_all all = append-nil (take (length all) all) ∙ take_all (length all) all (omega arith)
