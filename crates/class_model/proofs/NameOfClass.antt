-- The name of a shaped class, and that of each class that it names, is a name.
use Rattle.std.proofs.Common.{◌≡◌, ℕ, zero, suc, ◌^◌, ◌<◌, true, ◌||◌, List, [], ◌∷◌, length, Option, Some, None, option_and_then, unwrap_or, IsTrue, slice_get, refl, subst, arith}
use Rattle.std.specs.List.{AllByRecursion}
use Rattle.class_model.specs.declared.constant_pool.Constant.{Constant}
use Rattle.class_model.specs.declared.constant_pool.Constant.TheVariants.{Utf8, Class as ClassConstant}
use Rattle.class_model.specs.declared.constant_pool.Pool.{Pool}
use Rattle.class_model.specs.declared.class_file.Class.{Class}
use Rattle.class_model.specs.ModifiedUtf8.{IsModifiedUtf8, IsName}
use Rattle.class_model.specs.ClassNames.{is_class_name, is_unqualified}
use Rattle.class_model.specs.Constants.{text_at, class_at, text_of, class_name_of, is_some_that, is_array_descriptor, has_targets, IsConstant, IsPool}
use Rattle.class_model.specs.Shape.{Shaped, class_name, is_plain_class}

-- a place of a list of which each element has P
at_place : {A : Type 0} (P : A → Type 0) (xs : List A) (n : ℕ) (x : A) → AllByRecursion P xs → slice_get xs n ≡ Some x → P x
at_place P [] n x all e = cc
at_place P (y ∷ ys) zero x all e = let same : y ≡ x = cc in subst P same all.0
at_place P (y ∷ ys) (suc n) x all e = at_place P ys n x all.1 e

-- a text of a pool is short and a text
pub record IsText (bytes : List ℕ) : Type 0 where
  pub short : length bytes < 2 ^ 16
  pub text : IsModifiedUtf8 bytes

pub text_at-IsText : (pool : Pool) (n : ℕ) (bytes : List ℕ) → IsPool pool → text_at pool n ≡ Some bytes → IsText bytes
unfolding text_at
text_at-IsText pool zero bytes p e = cc
text_at-IsText pool (suc n) bytes p e = go (slice_get pool.constants n) refl e
  where
    go : (found : Option Constant) → slice_get pool.constants n ≡ found → option_and_then text_of found ≡ Some bytes → IsText bytes
    go (Some (Utf8 text)) at f =
        let is = at_place IsConstant pool.constants n (Utf8 text) p.constants at in
        let same : text ≡ bytes = cc in
        subst IsText same (record { short = is.0; text = is.1 })
    go (Some _) at f = cc
    go None at f = cc

filled : (name : List ℕ) → (is_class_name name || is_array_descriptor name) ≡ true → 0 < length name
unfolding is_class_name is_unqualified
filled [] e = cc
filled (b ∷ name) e = omega arith

-- the text of a class constant of a shaped class's pool
pub class_at-IsName : (pool : Pool) (n : ℕ) (name : List ℕ) → IsPool pool → class_at pool n ≡ Some name → IsName name
unfolding class_at has_targets
class_at-IsName pool zero name p e = cc
class_at-IsName pool (suc n) name p e = go (slice_get pool.constants n) refl e
  where
    HasTargets : Constant → Type 0
    HasTargets c = IsTrue (has_targets pool c)

    Named : Option (List ℕ) → Type 0
    Named o = IsTrue (is_some_that (λ n. is_class_name n || is_array_descriptor n) o)

    go : (found : Option Constant) → slice_get pool.constants n ≡ found → option_and_then (text_at pool) (option_and_then class_name_of found) ≡ Some name → IsName name
    go (Some (ClassConstant index)) at f =
        let named : Named (text_at pool index) = at_place HasTargets pool.constants n (ClassConstant index) p.targets at in
        let t = text_at-IsText pool index name p f in
        record { some = filled name (subst Named f named); short = omega arith; text = t.text }
    go (Some _) at f = cc
    go None at f = cc

pub class_name-IsName : (c : Class) → Shaped c → IsName (class_name c)
unfolding class_name is_plain_class
class_name-IsName c s = go (class_at c.pool c.this_class) refl s.this_class
  where
    go : (found : Option (List ℕ)) → class_at c.pool c.this_class ≡ found → IsTrue (is_some_that is_class_name found) → IsName (unwrap_or found [])
    go None at is = cc
    go (Some name) at is = class_at-IsName c.pool c.this_class name s.pool at
