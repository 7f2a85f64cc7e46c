-- A number that leads to a constant fits its field.
use Rattle.std.proofs.Common.{◌≡◌, ℕ, zero, suc, ◌+◌, ◌^◌, ◌<◌, Bool, true, false, List, [], ◌∷◌, length, Option, Some, None, is_some, option_and_then, slice_get, refl, arith}
use Rattle.class_model.specs.declared.constant_pool.Constant.{Constant}
use Rattle.class_model.specs.declared.constant_pool.Pool.{Pool}
use Rattle.class_model.specs.Constants.{constant_at, text_at, class_at, is_some_that, text_of, class_name_of}

-- the numbers of a pool fit their fields
pub record IsFew (pool : Pool) : Type 0 where
  pub few : length pool.constants + 1 < 2 ^ 16

pub some_that : {A : Type 0} (test : A → Bool) (found : Option A) → is_some_that test found ≡ true → is_some found ≡ true
some_that test None e = cc
some_that test (Some x) e = refl

then_some : {A B : Type 0} (next : A → Option B) (found : Option A) → is_some (option_and_then next found) ≡ true → is_some found ≡ true
then_some next None e = e
then_some next (Some x) e = refl

within : (cs : List Constant) (n : ℕ) → is_some (slice_get cs n) ≡ true → n < length cs
within [] n e = absurd (let h : false ≡ true = e in cc)
within (c ∷ cs) zero e = omega arith
within (c ∷ cs) (suc n) e = let h = within cs n e in omega arith

pub numbered : (pool : Pool) (n : ℕ) → IsFew pool → is_some (constant_at pool n) ≡ true → n < 2 ^ 16
numbered pool zero few e = omega arith
numbered pool (suc n) few e = omega (arith, within pool.constants n e, few.few)

pub numbered_text : (pool : Pool) (n : ℕ) → IsFew pool → is_some (text_at pool n) ≡ true → n < 2 ^ 16
unfolding text_at
numbered_text pool n few e = numbered pool n few (then_some text_of (constant_at pool n) e)

pub numbered_class : (pool : Pool) (n : ℕ) → IsFew pool → is_some (class_at pool n) ≡ true → n < 2 ^ 16
unfolding class_at
numbered_class pool n few e = numbered pool n few (then_some class_name_of (constant_at pool n) (then_some (text_at pool) (option_and_then class_name_of (constant_at pool n)) e))
