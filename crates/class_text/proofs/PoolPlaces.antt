-- Where the faults of a pool lie.
use Rattle.std.proofs.Common.{◌≡◌, ℕ, zero, suc, eqb, ◌+◌, ◌-◌, ◌<◌, ◌≤◌, Bool, true, false, List, [], ◌∷◌, length, flat_map, Option, Some, None, Ok, Err, refl, ap, subst, ◌∙◌, arith, inl, inr}
use Rattle.std.specs.Int.{w16}
use Rattle.std.proofs.lemmas.Bool.{cases_Bool}
use Rattle.std.proofs.lemmas.List.{length-append}
use Rattle.class_model.specs.declared.constant_pool.Constant.{Constant}
use Rattle.class_model.specs.declared.constant_pool.Constant.TheVariants.{Class, Text, Ref, NameType, Handle, MethodType, InvokeDynamic, Second}
use Rattle.class_model.specs.declared.constant_pool.Pool.{Pool}
use Rattle.class_model.specs.Constants.{has_targets, takes_two}
use Rattle.class_model.specs.Spelling.{constant, pool}
use Rattle.class_text.specs.Reading.{Fault, bad_index, place, number_at, or_cut, IsBytes}
use Rattle.class_text.specs.Readers.{Reader, u2_at}
use Rattle.class_text.specs.Pool.{constant_at_front, constants_at, wrong_at, pool_of, unless_wrong, judged, pool_behind_count, pool_at}
use Rattle.class_text.proofs.Numbers.{some_is}
use Rattle.class_text.proofs.Constants.{constant_taken}
use Rattle.class_text.proofs.Pools.{constants_taken, pool_taken}
use Rattle.class_text.proofs.Places.{Failed, first, later, bind_err, err_is, cut_fault, constant_fault}
use Rattle.class_text.proofs.Readers.{bind}
use Rattle.class_text.proofs.Inside.{IsInside, Inside, give_inside, made_inside, then_inside, u2_inside}

abbrev pub one_at : ℕ → Reader Constant
one_at left end bytes = constant_at_front end left bytes

constant_inside : (left low : ℕ) → Inside low 0 (one_at left)
constant_inside left low = record {
  faults = λ end bytes f are room e. constant_fault (IsInside end) end left bytes f (omega arith) (λ some. (λ tag. omega (arith, some, room), omega (arith, some, room))) e;
  rest = λ end bytes c after are room e.
      let t = constant_taken end left bytes c after are e in
      (t.takes.rest_fits, omega (arith, ap length t.takes.parts ∙ length-append (constant c) after));
}

abbrev pub list_at : Bool → ℕ → Reader (List Constant)
list_at due numbers end bytes = constants_at end due numbers bytes

constants_inside : (low numbers : ℕ) (due : Bool) → Inside low 0 (list_at due numbers)
unfolding constants_at
constants_inside low zero due = give_inside low []
constants_inside low (suc numbers) true = made_inside low 0 (list_at false numbers) (λ (cs : List Constant). Second ∷ cs) (constants_inside low numbers false)
constants_inside low (suc numbers) false =
    then_inside low 0 (one_at (suc numbers)) (λ c. bind (list_at (takes_two c) numbers) (λ cs end bytes. Ok (c ∷ cs, bytes))) (constant_inside (suc numbers) low)
    (λ c. made_inside low 0 (list_at (takes_two c) numbers) (λ (cs : List Constant). c ∷ cs) (constants_inside low numbers (takes_two c)))

-- a constant with targets has a tag
has_tag : (p : Pool) (c : Constant) → has_targets p c ≡ false → 1 ≤ length (constant c)
unfolding has_targets constant
has_tag p (Class name) e = omega arith
has_tag p (Text text) e = omega arith
has_tag p (Ref tag class name_type) e = omega arith
has_tag p (NameType name descriptor) e = omega arith
has_tag p (Handle kind reference) e = omega arith
has_tag p (MethodType descriptor) e = omega arith
has_tag p (InvokeDynamic bootstrap name_type) e = omega arith
has_tag p _ e = absurd cc

wrong_inside : (p : Pool) (at : ℕ) (cs : List Constant) (wrong : ℕ) → wrong_at p at cs ≡ Some wrong → wrong < at + length (flat_map constant cs)
unfolding wrong_at
wrong_inside p at [] wrong e = absurd cc
wrong_inside p at (c ∷ cs) wrong e =
    let size = length-append (constant c) (flat_map constant cs) in
    elim (cases_Bool (has_targets p c)) [
      | inr g ↦ (let same : at ≡ wrong = some_is at wrong (rw g at e) in omega (arith, same, size, has_tag p c g))
      | inl y ↦ (let behind = wrong_inside p (at + length (constant c)) cs wrong (rw y at e) in omega (arith, behind, size))
    ]

pub pool_inside : (low : ℕ) → Inside low 0 pool_at
unfolding pool_at u2_at
pool_inside low = record {
  faults = fault;
  rest = λ end bytes p after are room e.
      let t = pool_taken end bytes p after are e in
      (t.1.rest_fits, omega (arith, ap length t.1.parts ∙ length-append (pool p) after));
}
  where
    fault : (end : ℕ) (bytes : List ℕ) (f : Fault) → IsBytes bytes → low + length bytes ≤ end → pool_at end bytes ≡ Err f → IsInside end f
    fault end bytes f are room e = go (bind_err (or_cut at (number_at w16 bytes)) (pool_behind_count end at) f e)
      where
        at : ℕ
        at = place end bytes

        wrong : (rest : List ℕ) (cs : List Constant) (after : List ℕ) → length rest ≤ end → length rest ≡ length (flat_map constant cs) + length after → (found : Option ℕ) → wrong_at (pool_of cs) (place end rest) cs ≡ found
            → unless_wrong (cs, after) found ≡ Err f → IsInside end f
        wrong rest cs after small parts None is e = absurd cc
        wrong rest cs after small parts (Some w) is e =
            let below = wrong_inside (pool_of cs) (place end rest) cs w is in
            subst (IsInside end) (err_is (bad_index w) f e) (omega (arith, below, small, parts))

        constants : (count : ℕ) (rest : List ℕ) → IsBytes rest → length rest ≤ end → Failed (constants_at end false (count - 1) rest) (judged (place end rest)) f → IsInside end f
        constants count rest fits small (first is) = (constants_inside 0 (count - 1) false).faults end rest f fits (omega (arith, small)) is
        constants count rest fits small (later found is is') =
            let taken = constants_taken end (count - 1) false rest found.0 found.1 fits (λ no. absurd (let h : false ≡ true = no in cc)) is in
            wrong rest found.0 found.1 small (ap length taken.takes.parts ∙ length-append (flat_map constant found.0) found.1) (wrong_at (pool_of found.0) (place end rest) found.0) refl is'

        counted : (count : ℕ) (rest : List ℕ) → IsBytes rest → length rest + 2 ≤ length bytes → pool_behind_count end at (count, rest) ≡ Err f → IsInside end f
        counted count rest fits some e = elim (cases_Bool (eqb count 0)) [
          | inl y ↦ subst (IsInside end) (err_is (bad_index at) f (rw y at e)) (omega (arith, some, room))
          | inr g ↦ constants count rest fits (omega (arith, some, room)) (bind_err (constants_at end false (count - 1) rest) (judged (place end rest)) f (rw g at e))
        ]

        go : Failed (or_cut at (number_at w16 bytes)) (pool_behind_count end at) f → IsInside end f
        go (first is) = cut_fault (IsInside end) at (number_at w16 bytes) f (omega arith) is
        go (later x is is') = let t = (u2_inside low).rest end bytes x.0 x.1 are room is in counted x.0 x.1 t.0 t.1 is'
