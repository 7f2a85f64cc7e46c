-- A wrong index in a pool is the first that leads elsewhere.
use Rattle.std.proofs.Common.{◌≡◌, ℕ, zero, suc, eqb, ◌+◌, ◌-◌, ◌^◌, ◌≤◌, Bool, true, false, List, [], ◌∷◌, ◌++◌, length, flat_map, Option, Some, None, Err, refl, sym, ap, subst, ◌∙◌, append_assoc, arith, inl, inr}
use Rattle.std.specs.List.{AllByRecursion}
use Rattle.std.specs.Int.{w16, to_be_bytes}
use Rattle.std.proofs.lemmas.Bool.{cases_Bool, eqb-true, eqb-false}
use Rattle.std.proofs.lemmas.List.{length-append}
use Rattle.class_model.specs.declared.constant_pool.Constant.{Constant}
use Rattle.class_model.specs.declared.constant_pool.Constant.TheVariants.{Second}
use Rattle.class_model.specs.declared.constant_pool.Pool.{Pool}
use Rattle.class_model.specs.Constants.{has_targets, takes_two}
use Rattle.class_model.specs.Spelling.{constant, pool}
use Rattle.class_text.specs.Reading.{Fault, cut_short, bad_index, ◌>>=◌, place, fault_place, number_at, or_cut, IsBytes}
use Rattle.class_text.specs.Pool.{constant_at_front, constants_at, with_first_constant, wrong_at, pool_of, unless_wrong, judged, pool_behind_count, pool_at, IsWrongAt}
use Rattle.class_text.proofs.Numbers.{Takes, some_is, wide16, number_takes}
use Rattle.class_text.proofs.Pools.{AreTaken, constants_taken}
use Rattle.class_text.proofs.Places.{Failed, first, later, bind_err, err_is, constant_fault}

-- no constant by itself has a wrong index
IsOwn : Fault → Type 0
IsOwn (bad_index at) = ⊥
IsOwn _ = Unit {0}

own_constants : (end numbers : ℕ) (due : Bool) (bytes : List ℕ) (f : Fault) → constants_at end due numbers bytes ≡ Err f → IsOwn f
unfolding constants_at IsOwn
own_constants end zero due bytes f e = absurd cc
own_constants end (suc numbers) true bytes f e = go (bind_err (constants_at end false numbers bytes) (with_first_constant Second) f e) (own_constants end numbers false bytes f)
  where
    go : Failed (constants_at end false numbers bytes) (with_first_constant Second) f → (constants_at end false numbers bytes ≡ Err f → IsOwn f) → IsOwn f
    go (first is) behind = behind is
    go (later x is is') behind = absurd cc
own_constants end (suc numbers) false bytes f e =
    go (bind_err (constant_at_front end (suc numbers) bytes) (λ found. constants_at end (takes_two found.0) numbers found.1 >>= with_first_constant found.0) f e) (λ due after. own_constants end numbers due after f)
  where
    inner : (c : Constant) (after : List ℕ) → ((due : Bool) (after' : List ℕ) → constants_at end due numbers after' ≡ Err f → IsOwn f) → Failed (constants_at end (takes_two c) numbers after) (with_first_constant c) f → IsOwn f
    inner c after behind (first is) = behind (takes_two c) after is
    inner c after behind (later x is is') = absurd cc

    go : Failed (constant_at_front end (suc numbers) bytes) (λ found. constants_at end (takes_two found.0) numbers found.1 >>= with_first_constant found.0) f
        → ((due : Bool) (after' : List ℕ) → constants_at end due numbers after' ≡ Err f → IsOwn f) → IsOwn f
    go (first is) behind = constant_fault IsOwn end (suc numbers) bytes f tt (λ some. (λ tag. tt, tt)) is
    go (later x is is') behind = inner x.0 x.1 behind (bind_err (constants_at end (takes_two x.0) numbers x.1) (with_first_constant x.0) f is')

-- the constants of a list round the first with a wrong target
pub record Split (p : Pool) (end : ℕ) (cs : List Constant) (after : List ℕ) (at : ℕ) : Type 0 where
  pub good : List Constant
  pub bad : Constant
  pub more : List Constant
  pub parts : cs ≡ good ++ bad ∷ more
  pub led : AllByRecursion (λ c. has_targets p c ≡ true) good
  pub wrong : has_targets p bad ≡ false
  pub here : at ≡ place end (flat_map constant (bad ∷ more) ++ after)

pub split : (p : Pool) (end : ℕ) (cs : List Constant) (after : List ℕ) (at : ℕ) → length (flat_map constant cs ++ after) ≤ end → wrong_at p (place end (flat_map constant cs ++ after)) cs ≡ Some at → Split p end cs after at
unfolding wrong_at
split p end [] after at small e = absurd cc
split p end (c ∷ cs) after at small e =
    let all = flat_map constant (c ∷ cs) ++ after in
    let behind = flat_map constant cs ++ after in
    let size = ap length (append_assoc (constant c) (flat_map constant cs) after) ∙ length-append (constant c) behind in
    elim (cases_Bool (has_targets p c)) [
      | inr f ↦ record { good = []; bad = c; more = cs; parts = refl; led = tt; wrong = f; here = sym (some_is (place end all) at (rw f at e)) }
      | inl y ↦ (let next : place end all + length (constant c) ≡ place end behind = omega (arith, size, small) in
          let s = split p end cs after at (omega (arith, size, small)) (rw (y, next) at e) in
          record { good = c ∷ s.good; bad = s.bad; more = s.more; parts = ap (λ (l : List Constant). c ∷ l) s.parts; led = (y, s.led); wrong = s.wrong; here = s.here })
    ]

pub first_wrong : (end : ℕ) (bytes : List ℕ) (at : ℕ) → IsBytes bytes → length bytes ≤ end → pool_at end bytes ≡ Err (bad_index at) → IsWrongAt end bytes at
unfolding pool_at pool IsOwn
first_wrong end bytes at are small e = go (number_at w16 bytes) refl e
  where
    f : Fault
    f = bad_index at

    start : ℕ
    start = place end bytes

    place_is : (p : ℕ) → bad_index p ≡ bad_index at → at ≡ p
    place_is p e = ap fault_place (sym e)

    -- the constants were read, and one of them is wrong
    found_wrong : (count : ℕ) (rest : List ℕ) (cs : List Constant) (after : List ℕ) → Takes bytes (to_be_bytes w16 count) rest → eqb count 0 ≡ false → AreTaken false (count - 1) rest cs after
        → (wrong : Option ℕ) → wrong_at (pool_of cs) (place end rest) cs ≡ wrong → unless_wrong (cs, after) wrong ≡ Err f → IsWrongAt end bytes at
    found_wrong count rest cs after t some taken None is e = absurd cc
    found_wrong count rest cs after t some taken (Some w) is e =
        let parts = taken.takes.parts in
        let within : length rest ≤ end = omega (arith, ap length t.parts ∙ length-append (to_be_bytes w16 count) rest, small) in
        let same : at ≡ w = place_is w (err_is (bad_index w) f e) in
        let s = split (pool_of cs) end cs after w (subst (λ (l : List ℕ). length l ≤ end) parts within) (subst (λ (l : List ℕ). wrong_at (pool_of cs) (place end l) cs ≡ Some w) parts is) in
        let not_none = eqb-false count 0 some in
        let counted : count ≡ length cs + 1 = omega (arith, taken.many, not_none) in
        inr (
          s.good,
          s.bad,
          s.more,
          after,
          pool_of cs,
          record {
            constants = s.parts;
            spelled = t.parts ∙ ap (λ (n : ℕ). to_be_bytes w16 n ++ rest) counted ∙ ap (λ (l : List ℕ). to_be_bytes w16 (length cs + 1) ++ l) parts ∙ sym (append_assoc (to_be_bytes w16 (length cs + 1)) (flat_map constant cs) after);
            fit = taken.fit;
            led = s.led;
            wrong = s.wrong;
            here = same ∙ s.here;
          },
        )

    constants : (count : ℕ) (rest : List ℕ) → Takes bytes (to_be_bytes w16 count) rest → eqb count 0 ≡ false → Failed (constants_at end false (count - 1) rest) (judged (place end rest)) f → IsWrongAt end bytes at
    constants count rest t some (first is) = absurd (own_constants end (count - 1) false rest f is)
    constants count rest t some (later x is is') =
        found_wrong count rest x.0 x.1 t some (constants_taken end (count - 1) false rest x.0 x.1 t.rest_fits (λ due. absurd (let h : false ≡ true = due in cc)) is) (wrong_at (pool_of x.0) (place end rest) x.0) refl is'

    counted : (count : ℕ) (rest : List ℕ) → Takes bytes (to_be_bytes w16 count) rest → pool_behind_count end start (count, rest) ≡ Err f → IsWrongAt end bytes at
    counted count rest t e = elim (cases_Bool (eqb count 0)) [
      | inl y ↦ inl (place_is start (err_is (bad_index start) f (rw y at e)), (rest, t.parts ∙ ap (λ (n : ℕ). to_be_bytes w16 n ++ rest) (eqb-true count 0 y)))
      | inr g ↦ constants count rest t g (bind_err (constants_at end false (count - 1) rest) (judged (place end rest)) f (rw g at e))
    ]

    go : (found : Option (ℕ × List ℕ)) → number_at w16 bytes ≡ found → (or_cut start found >>= pool_behind_count end start) ≡ Err f → IsWrongAt end bytes at
    go None is e = absurd (let bad : cut_short start ≡ bad_index at = err_is (cut_short start) f e in cc)
    go (Some x) is e = counted x.0 x.1 (number_takes w16 (2 ^ 16) wide16 bytes x.0 x.1 are is).0 e
