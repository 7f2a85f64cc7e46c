-- Where constants stand, and what is left behind a pool.
use Rattle.std.proofs.Common.{◌≡◌, ℕ, ◌-◌, ◌+◌, ◌≤◌, ◌<◌, ◌^◌, Bool, true, false, List, ◌∷◌, ◌++◌, length, take, drop, get_or, flat_map, Some, None, Ok, refl, sym, ap, subst, ◌∙◌, append_assoc, arith, add-one, drop-cons, eq-eqb}
use Rattle.std.specs.Int.{w16, to_be_bytes}
use Rattle.std.proofs.Math.ListN.{drop_of_length-le}
use Rattle.std.proofs.lemmas.Bool.{ne_eqb}
use Rattle.std.proofs.lemmas.List.{length-append, drop_at, take-append-drop}
use Rattle.class_model.specs.declared.constant_pool.Constant.{Constant}
use Rattle.class_model.specs.declared.constant_pool.Constant.TheVariants.{Ref}
use Rattle.class_model.specs.declared.constant_pool.Pool.{Pool}
use Rattle.class_model.specs.Constants.{IsPool, constant_at as number, is_some_that, is_class_constant, is_for_field, is_for_method, has_targets}
use Rattle.class_model.specs.Spelling.{constant, pool}
use Rattle.class_text.specs.Reading.{Reading, place, number_at, IsBytes}
use Rattle.class_text.specs.Pool.{constants_at, wrong_at, pool_at}
use Rattle.class_text.proofs.Numbers.{IsBytes-drop, ok_is, wide16, number_takes}
use Rattle.class_text.proofs.Pools.{constants_taken, pool_taken, pool_again}

pub member_of_field : (p : Pool) (tag class name_type : ℕ) (r : Bool) → tag ≡ 9 → true ≡ is_some_that is_class_constant (number p class)
    → r ≡ is_some_that (is_for_field p) (number p name_type) → r ≡ has_targets p (Ref tag class name_type)
unfolding has_targets
member_of_field p tag class name_type r e is f = rw (← is, eq-eqb tag 9 e) f

pub member_of_method : (p : Pool) (tag class name_type : ℕ) (r : Bool) → (tag ≡ 9 → ⊥) → true ≡ is_some_that is_class_constant (number p class)
    → r ≡ is_some_that (is_for_method p) (number p name_type) → r ≡ has_targets p (Ref tag class name_type)
unfolding has_targets
member_of_method p tag class name_type r e is f = rw (← is, ne_eqb tag 9 e) f

-- the constant at an index, and those behind it
pub item : (cs : List Constant) (i : ℕ) (c : Constant) → i < length cs → c ≡ get_or cs i c → drop i cs ≡ c ∷ drop (i + 1) cs
item cs i c within is = drop-cons cs i c within ∙ rw (← is, add-one) refl

pub wrong_there : (p : Pool) (at i : ℕ) (cs : List Constant) (c : Constant) → i < length cs → c ≡ get_or cs i c → false ≡ has_targets p c → Some at ≡ wrong_at p at (drop i cs)
unfolding wrong_at
wrong_there p at i cs c within is wrong = rw (item cs i c within is, ← wrong) refl

pub right_there : (p : Pool) (at i : ℕ) (cs : List Constant) (c : Constant) (long : ℕ) → i < length cs → c ≡ get_or cs i c → true ≡ has_targets p c → long ≡ length (constant c)
    → wrong_at p at (drop i cs) ≡ wrong_at p (at + long) (drop (i + 1) cs)
unfolding wrong_at
right_there p at i cs c long within is right size = rw (item cs i c within is, ← right, size) refl

pub length_there : (i : ℕ) (cs : List Constant) (c : Constant) → i < length cs → c ≡ get_or cs i c
    → length (flat_map constant (drop i cs)) ≡ length (constant c) + length (flat_map constant (drop (i + 1) cs))
length_there i cs c within is = ap (λ (l : List Constant). length (flat_map constant l)) (item cs i c within is) ∙ length-append (constant c) (flat_map constant (drop (i + 1) cs))

pub none_there : (p : Pool) (at i : ℕ) (cs : List Constant) → length cs ≤ i → None ≡ wrong_at p at (drop i cs)
unfolding wrong_at
none_there p at i cs past = rw (drop_of_length-le cs past) refl

-- The constants that were read end within the file.
pub room : (end : ℕ) (bytes : List ℕ) (count : ℕ) (rest : List ℕ) (cs : List Constant) (after : List ℕ) → IsBytes bytes → number_at w16 bytes ≡ Some (count, rest)
    → constants_at end false (count - 1) rest ≡ Ok (cs, after) → length bytes ≤ end → end < 2 ^ 32 → place end rest + length (flat_map constant cs) < 2 ^ 32
room end bytes count rest cs after are at is within small =
    let t = number_takes w16 (2 ^ 16) wide16 bytes count rest are at in
    let taken = constants_taken end (count - 1) false rest cs after t.0.rest_fits (λ no. absurd (let h : false ≡ true = no in cc)) is in
    let first = ap length t.0.parts ∙ length-append (to_be_bytes w16 count) rest in
    let second = ap length taken.takes.parts ∙ length-append (flat_map constant cs) after in
    omega (arith, first, second)

-- what stands behind a front, by its offset
suffix : (front after : List ℕ) → drop (length (front ++ after) - length after) (front ++ after) ≡ after
suffix front after =
    let size : length (front ++ after) - length after ≡ length front = omega (arith, length-append front after) in
    rw size (drop_at front after (length front) refl)

pub behind_pool : (at : ℕ) (bytes text after : List ℕ) → drop at bytes ≡ text ++ after → drop (length bytes - length after) bytes ≡ after
behind_pool at bytes text after e =
    let whole : bytes ≡ (take at bytes ++ text) ++ after = sym (take-append-drop at bytes) ∙ ap (λ (l : List ℕ). take at bytes ++ l) e ∙ sym (append_assoc (take at bytes) text after) in
    subst (λ (l : List ℕ). drop (length l - length after) l ≡ after) (sym whole) (suffix (take at bytes ++ text) after)

-- one reading has one value
pub same_value : (a b : Pool × List ℕ) (reading : Reading Pool) → reading ≡ Ok a → reading ≡ Ok b → a ≡ b
same_value a b reading p q = ok_is a b (sym p ∙ q)

-- What was read is a pool that is spelled there.
pub read_found : (bytes : List ℕ) (at : ℕ) (p : Pool) (after : List ℕ) (next : ℕ) → IsBytes bytes → pool_at (length bytes) (drop at bytes) ≡ Ok (p, after) → next ≡ place (length bytes) after
    → IsPool p × (drop at bytes ≡ pool p ++ drop next bytes) × (next ≤ length bytes)
read_found bytes at p after next are e is =
    let t = pool_taken (length bytes) (drop at bytes) p after (IsBytes-drop at bytes are) e in
    let back : drop next bytes ≡ after = rw is (behind_pool at bytes (pool p) after t.1.parts) in
    (t.0, t.1.parts ∙ ap (λ (l : List ℕ). pool p ++ l) (sym back), omega (arith, is))

-- What is spelled there is what was read.
pub again_there : (bytes : List ℕ) (at : ℕ) (q : Pool) (rest : List ℕ) → IsPool q → drop at bytes ≡ pool q ++ rest → pool_at (length bytes) (drop at bytes) ≡ Ok (q, rest)
again_there bytes at q rest is spelled = ap (pool_at (length bytes)) spelled ∙ pool_again (length bytes) q rest is

pub read_only : (bytes : List ℕ) (at : ℕ) (p : Pool) (after : List ℕ) (next : ℕ) (q : Pool) (rest : List ℕ) → IsBytes bytes → pool_at (length bytes) (drop at bytes) ≡ Ok (p, after) → next ≡ place (length bytes) after
    → IsPool q → drop at bytes ≡ pool q ++ rest → (p ≡ q) × (drop next bytes ≡ rest)
read_only bytes at p after next q rest are e is right spelled =
    let t = pool_taken (length bytes) (drop at bytes) p after (IsBytes-drop at bytes are) e in
    let back : drop next bytes ≡ after = rw is (behind_pool at bytes (pool p) after t.1.parts) in
    let same = same_value (p, after) (q, rest) (pool_at (length bytes) (drop at bytes)) e (again_there bytes at q rest right spelled) in
    (ap (λ (x : Pool × List ℕ). x.0) same, back ∙ ap (λ (x : Pool × List ℕ). x.1) same)
