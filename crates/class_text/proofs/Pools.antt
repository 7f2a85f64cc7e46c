-- A pool that is read is a pool and is spelled so, and what is spelled so is read.
use Rattle.std.proofs.Common.{◌≡◌, ℕ, zero, suc, eqb, ◌+◌, ◌-◌, ◌^◌, ◌<◌, ◌≤◌, Bool, true, false, not, List, [], ◌∷◌, ◌++◌, length, flat_map, Option, Some, None, Ok, Err, IsTrue, refl, sym, ap, subst, ◌∙◌, append_assoc, arith, inl, inr}
use Rattle.std.specs.List.{AllByRecursion}
use Rattle.std.specs.Int.{w16, to_be_bytes}
use Rattle.std.proofs.lemmas.Bool.{cases_Bool, eqb-false, and_parts, and_from, not-true, ne_eqb}
use Rattle.class_model.specs.declared.constant_pool.Constant.{Constant}
use Rattle.class_model.specs.declared.constant_pool.Constant.TheVariants.{Second}
use Rattle.class_model.specs.declared.constant_pool.Pool.{Pool}
use Rattle.class_model.specs.Constants.{IsConstant, IsPool, takes_two, is_second, has_seconds, has_targets}
use Rattle.class_model.specs.Spelling.{constant, pool}
use Rattle.class_text.specs.Reading.{bad_index, ◌>>=◌, place, number_at, or_cut, IsBytes}
use Rattle.class_text.specs.Pool.{constant_at_front, constants_at, with_first_constant, wrong_at, pool_of, unless_wrong, judged, pool_behind_count, pool_at}
use Rattle.class_text.proofs.Numbers.{bind_ok, ok_is, Takes, Takes-then, wide16, number_takes, number_again}
use Rattle.class_text.proofs.Constants.{IsTaken, constant_taken, constant_again}

-- constants that were taken from the front for so many numbers
pub record AreTaken (due : Bool) (numbers : ℕ) (bytes : List ℕ) (cs : List Constant) (rest : List ℕ) : Type 0 where
  pub takes : Takes bytes (flat_map constant cs) rest
  pub fit : AllByRecursion IsConstant cs
  pub seconds : has_seconds due cs ≡ true
  pub many : length cs ≡ numbers

second_taken : (numbers : ℕ) (bytes : List ℕ) (cs : List Constant) (rest : List ℕ) → AreTaken false numbers bytes cs rest → AreTaken true (suc numbers) bytes (Second ∷ cs) rest
unfolding has_seconds constant
second_taken numbers bytes cs rest t = record { takes = t.takes; fit = (tt, t.fit); seconds = t.seconds; many = ap suc t.many }

next_taken : (numbers left : ℕ) (bytes : List ℕ) (c : Constant) (after : List ℕ) (cs : List Constant) (rest : List ℕ) → IsTaken left bytes c after → AreTaken (takes_two c) numbers after cs rest
    → AreTaken false (suc numbers) bytes (c ∷ cs) rest
unfolding has_seconds
next_taken numbers left bytes c after cs rest one more = record {
  takes = Takes-then bytes (constant c) after (flat_map constant cs) rest one.takes more.takes;
  fit = (one.fits, more.fit);
  seconds = and_from (not (is_second c)) (has_seconds (takes_two c) cs) (ap not one.plain) more.seconds;
  many = ap suc more.many;
}

pub constants_taken : (end numbers : ℕ) (due : Bool) (bytes : List ℕ) (cs : List Constant) (rest : List ℕ) → IsBytes bytes → (due ≡ true → 1 ≤ numbers)
    → constants_at end due numbers bytes ≡ Ok (cs, rest) → AreTaken due numbers bytes cs rest
unfolding constants_at has_seconds
constants_taken end zero true bytes cs rest are room e = absurd (let h : 1 ≤ 0 = room refl in omega arith)
constants_taken end zero false bytes cs rest are room e =
    subst (λ (p : List Constant × List ℕ). AreTaken false 0 bytes p.0 p.1) (ok_is ([], bytes) (cs, rest) e) (record { takes = record { parts = refl; rest_fits = are }; fit = tt; seconds = refl; many = refl })
constants_taken end (suc numbers) true bytes cs rest are room e =
    let b = bind_ok (constants_at end false numbers bytes) (with_first_constant Second) (cs, rest) e in
    let more = constants_taken end numbers false bytes b.0.0 b.0.1 are (λ no. absurd (let h : false ≡ true = no in cc)) b.1 in
    subst (λ (p : List Constant × List ℕ). AreTaken true (suc numbers) bytes p.0 p.1) (ok_is (Second ∷ b.0.0, b.0.1) (cs, rest) b.2) (second_taken numbers bytes b.0.0 b.0.1 more)
constants_taken end (suc numbers) false bytes cs rest are room e =
    let a = bind_ok (constant_at_front end (suc numbers) bytes) (λ found. constants_at end (takes_two found.0) numbers found.1 >>= with_first_constant found.0) (cs, rest) e in
    let b = bind_ok (constants_at end (takes_two a.0.0) numbers a.0.1) (with_first_constant a.0.0) (cs, rest) a.2 in
    let one = constant_taken end (suc numbers) bytes a.0.0 a.0.1 are a.1 in
    let more = constants_taken end numbers (takes_two a.0.0) a.0.1 b.0.0 b.0.1 one.takes.rest_fits (λ two. let h : 2 ≤ suc numbers = one.room two in omega arith) b.1 in
    subst (λ (p : List Constant × List ℕ). AreTaken false (suc numbers) bytes p.0 p.1) (ok_is (a.0.0 ∷ b.0.0, b.0.1) (cs, rest) b.2) (next_taken numbers (suc numbers) bytes a.0.0 a.0.1 b.0.0 b.0.1 one more)

-- a Second is one
pub is_it : (c : Constant) → is_second c ≡ true → c ≡ Second
is_it Second e = refl
is_it _ e = cc

-- behind a constant of two numbers another stands
pub room_for : (due : Bool) (cs : List Constant) → has_seconds due cs ≡ true → due ≡ true → 1 ≤ length cs
unfolding has_seconds
room_for due [] s d = absurd (let h : not due ≡ true = s in let g : not due ≡ false = ap not d in cc)
room_for due (c ∷ cs) s d = omega arith

pub constants_again : (cs : List Constant) (due : Bool) (end : ℕ) (rest : List ℕ) → AllByRecursion IsConstant cs → has_seconds due cs ≡ true
    → constants_at end due (length cs) (flat_map constant cs ++ rest) ≡ Ok (cs, rest)
unfolding constants_at has_seconds constant
constants_again [] due end rest fit s = refl
constants_again (c ∷ cs) true end rest fit s =
    let parts = and_parts (is_second c) (has_seconds (takes_two c) cs) s in
    let same = is_it c parts.0 in
    let others : has_seconds false cs ≡ true = subst (λ (k : Constant). has_seconds (takes_two k) cs ≡ true) same parts.1 in
    rw same (ap (λ read. read >>= with_first_constant Second) (constants_again cs false end rest fit.1 others))
constants_again (c ∷ cs) false end rest fit s =
    let parts = and_parts (not (is_second c)) (has_seconds (takes_two c) cs) s in
    let behind = flat_map constant cs ++ rest in
    let one = constant_again end (suc (length cs)) c behind fit.0 (not-true (is_second c) parts.0) (λ two. let h : 1 ≤ length cs = room_for (takes_two c) cs parts.1 two in omega arith) in
    let more = constants_again cs (takes_two c) end rest fit.1 parts.1 in
    ap (λ (l : List ℕ). constant_at_front end (suc (length cs)) l >>= (λ found. constants_at end (takes_two found.0) (length cs) found.1 >>= with_first_constant found.0)) (append_assoc (constant c) (flat_map constant cs) rest)
    ∙ rw (one, more) refl

-- No place is wrong exactly where every constant has its targets.
none_wrong : (p : Pool) (at : ℕ) (cs : List Constant) → wrong_at p at cs ≡ None → AllByRecursion (λ c. IsTrue (has_targets p c)) cs
unfolding wrong_at
none_wrong p at [] e = tt
none_wrong p at (c ∷ cs) e = elim (cases_Bool (has_targets p c)) [
  | inl y ↦ (y, none_wrong p (at + length (constant c)) cs (rw y at e))
  | inr f ↦ absurd (let bad : Some at ≡ None = rw f at e in cc)
]

all_right : (p : Pool) (at : ℕ) (cs : List Constant) → AllByRecursion (λ c. IsTrue (has_targets p c)) cs → wrong_at p at cs ≡ None
unfolding wrong_at
all_right p at [] all = refl
all_right p at (c ∷ cs) all = rw all.0 (all_right p (at + length (constant c)) cs all.1)

pub pool_taken : (end : ℕ) (bytes : List ℕ) (p : Pool) (rest : List ℕ) → IsBytes bytes → pool_at end bytes ≡ Ok (p, rest) → IsPool p × Takes bytes (pool p) rest
unfolding pool_at pool
pool_taken end bytes p rest are e = go (number_at w16 bytes) refl e
  where
    at : ℕ
    at = place end bytes

    right : (count : ℕ) (after : List ℕ) (found : List Constant × List ℕ) → Takes bytes (to_be_bytes w16 count) after → count < 2 ^ 16 → eqb count 0 ≡ false → AreTaken false (count - 1) after found.0 found.1
        → (wrong : Option ℕ) → wrong_at (pool_of found.0) (place end after) found.0 ≡ wrong → unless_wrong found wrong ≡ Ok (p, rest) → IsPool p × Takes bytes (pool p) rest
    right count after found t low some taken (Some at) is e = absurd cc
    right count after found t low some taken None is e =
        let size : length found.0 + 1 ≡ count = omega (arith, taken.many, eqb-false count 0 some) in
        let both = Takes-then bytes (to_be_bytes w16 count) after (flat_map constant found.0) found.1 t taken.takes in
        let spelled : Takes bytes (to_be_bytes w16 (length found.0 + 1) ++ flat_map constant found.0) found.1 = subst (λ (k : ℕ). Takes bytes (to_be_bytes w16 k ++ flat_map constant found.0) found.1) (sym size) both in
        let is_pool : IsPool (pool_of found.0) = record { counted = omega (arith, size, low); constants = taken.fit; seconds = taken.seconds; targets = none_wrong (pool_of found.0) (place end after) found.0 is } in
        subst (λ (q : Pool × List ℕ). IsPool q.0 × Takes bytes (pool q.0) q.1) (ok_is (pool_of found.0, found.1) (p, rest) e) (is_pool, spelled)

    counted : (count : ℕ) (after : List ℕ) → Takes bytes (to_be_bytes w16 count) after → count < 2 ^ 16 → pool_behind_count end at (count, after) ≡ Ok (p, rest) → IsPool p × Takes bytes (pool p) rest
    counted count after t low e = elim (cases_Bool (eqb count 0)) [
      | inl y ↦ absurd (let bad : Err (bad_index at) ≡ Ok (p, rest) = rw y at e in cc)
      | inr f ↦ (let b = bind_ok (constants_at end false (count - 1) after) (judged (place end after)) (p, rest) (rw f at e) in
          let taken = constants_taken end (count - 1) false after b.0.0 b.0.1 t.rest_fits (λ no. absurd (let h : false ≡ true = no in cc)) b.1 in
          right count after b.0 t low f taken (wrong_at (pool_of b.0.0) (place end after) b.0.0) refl b.2)
    ]

    go : (found : Option (ℕ × List ℕ)) → number_at w16 bytes ≡ found → (or_cut at found >>= pool_behind_count end at) ≡ Ok (p, rest) → IsPool p × Takes bytes (pool p) rest
    go None is e = absurd cc
    go (Some (count, after)) is e =
        let t = number_takes w16 (2 ^ 16) wide16 bytes count after are is in
        counted count after t.0 t.1 e

pub pool_again : (end : ℕ) (p : Pool) (rest : List ℕ) → IsPool p → pool_at end (pool p ++ rest) ≡ Ok (p, rest)
unfolding pool_at pool
pool_again end p rest is =
    let cs = p.constants in
    let behind = flat_map constant cs ++ rest in
    let count = length cs + 1 in
    let at = place end (to_be_bytes w16 count ++ flat_map constant cs ++ rest) in
    let read = number_again w16 (2 ^ 16) wide16 count behind is.counted in
    let some : eqb count 0 ≡ false = ne_eqb count 0 (λ h. omega arith) in
    let less : count - 1 ≡ length cs = omega arith in
    let all = constants_again cs false end rest is.constants is.seconds in
    let right : wrong_at (pool_of cs) (place end behind) cs ≡ None = all_right (pool_of cs) (place end behind) cs is.targets in
    ap (λ (l : List ℕ). or_cut at (number_at w16 l) >>= pool_behind_count end at) (append_assoc (to_be_bytes w16 count) (flat_map constant cs) rest) ∙ rw (read, some, less, all, right) refl
