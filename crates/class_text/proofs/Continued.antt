-- A fault other than a cut stays, whatever bytes follow.
use Rattle.std.proofs.Common.{◌≡◌, ℕ, zero, suc, eqb, ltb, ◌+◌, ◌-◌, ◌^◌, ◌≤◌, Bool, true, false, ◌&&◌, List, [], ◌∷◌, ◌++◌, length, take, drop, flat_map, Option, Some, None, Ok, Err, refl, sym, ap, ◌∙◌, append_assoc, arith, inl, inr}
use Rattle.std.specs.Int.{w16, to_be_bytes}
use Rattle.std.proofs.lemmas.Bool.{cases_Bool, ltb-false, le-ltb}
use Rattle.std.proofs.lemmas.List.{length-append, take-append-le}
use Rattle.class_model.specs.declared.constant_pool.Constant.{Constant}
use Rattle.class_model.specs.declared.constant_pool.Constant.TheVariants.{Utf8, Second}
use Rattle.class_model.specs.declared.constant_pool.Pool.{Pool}
use Rattle.class_model.specs.Units.{is_text}
use Rattle.class_model.specs.Constants.{IsPool, takes_two}
use Rattle.class_model.specs.Spelling.{constant, pool}
use Rattle.class_text.specs.Reading.{Fault, cut_short, bad_text, bad_index, is_cut, Reading, ◌>>=◌, place, number_at, or_cut, IsBytes}
use Rattle.class_text.specs.Pool.{is_tag, is_wide, fixed_at, text_behind_length, utf8_at, constant_at_front, constants_at, with_first_constant, wrong_at, pool_of, unless_wrong, judged, pool_behind_count, pool_at}
use Rattle.class_text.proofs.Numbers.{wide16, number_takes, number_again}
use Rattle.class_text.proofs.Constants.{constant_taken, constant_again}
use Rattle.class_text.proofs.Pools.{constants_taken, constants_again, pool_again}
use Rattle.class_text.proofs.Places.{Failed, first, later, bind_err, err_is}

-- a place is the same, whatever follows
place_more : (end : ℕ) (bytes more : List ℕ) → place (end + length more) (bytes ++ more) ≡ place end bytes
place_more end bytes more = omega (arith, length-append bytes more)

no_cut : {A : Type 0} {P : Type 0} (at : ℕ) (found : Option A) (f : Fault) → is_cut f ≡ false → or_cut at found ≡ Err f → P
no_cut at None f whole e = absurd (let h : true ≡ false = ap is_cut (err_is (cut_short at) f e) ∙ whole in cc)
no_cut at (Some x) f whole e = absurd cc

number_more : (bytes : List ℕ) (n : ℕ) (rest more : List ℕ) → IsBytes bytes → number_at w16 bytes ≡ Some (n, rest) → number_at w16 (bytes ++ more) ≡ Some (n, rest ++ more)
number_more bytes n rest more are e =
    let t = number_takes w16 (2 ^ 16) wide16 bytes n rest are e in
    ap (number_at w16) (ap (λ (l : List ℕ). l ++ more) t.0.parts ∙ append_assoc (to_be_bytes w16 n) rest more) ∙ number_again w16 (2 ^ 16) wide16 n (rest ++ more) t.1

text_more : (at n : ℕ) (after more : List ℕ) (f : Fault) → is_cut f ≡ false → text_behind_length at (n, after) ≡ Err f → text_behind_length at (n, after ++ more) ≡ Err f
text_more at n after more f whole e = elim (cases_Bool (ltb (length after) n)) [
  | inl y ↦ absurd (let h : true ≡ false = ap is_cut (err_is (cut_short at) f (rw y at e)) ∙ whole in cc)
  | inr g ↦ elim (cases_Bool (is_text (take n after))) [
    | inl y ↦ absurd (let bad : Ok (Utf8 (take n after), drop n after) ≡ Err f = rw (g, y) at e in cc)
    | inr h ↦ (let long : n ≤ length after = ltb-false (length after) n g in
        let enough : ltb (length (after ++ more)) n ≡ false = le-ltb (length (after ++ more)) n (omega (arith, length-append after more, long)) in
        let same : take n (after ++ more) ≡ take n after = take-append-le n after more long in
        rw (enough, same, h) (ap (λ g. Err g) (err_is (bad_text at) f (rw (g, h) at e))))
  ]
]

utf8_more : (at : ℕ) (bytes more : List ℕ) (f : Fault) → IsBytes bytes → is_cut f ≡ false → utf8_at at bytes ≡ Err f → utf8_at at (bytes ++ more) ≡ Err f
unfolding utf8_at
utf8_more at bytes more f are whole e = go (number_at w16 bytes) refl e
  where
    go : (found : Option (ℕ × List ℕ)) → number_at w16 bytes ≡ found → (or_cut at found >>= text_behind_length at) ≡ Err f → (or_cut at (number_at w16 (bytes ++ more)) >>= text_behind_length at) ≡ Err f
    go None is e = absurd (let h : true ≡ false = ap is_cut (err_is (cut_short at) f e) ∙ whole in cc)
    go (Some (n, after)) is e = rw (number_more bytes n after more are is) (text_more at n after more f whole e)

pub constant_more : (end left : ℕ) (bytes more : List ℕ) (f : Fault) → IsBytes bytes → is_cut f ≡ false → constant_at_front end left bytes ≡ Err f → constant_at_front (end + length more) left (bytes ++ more) ≡ Err f
unfolding constant_at_front
constant_more end left [] more f are whole e = absurd (let h : true ≡ false = ap is_cut (err_is (cut_short (place end [])) f e) ∙ whole in cc)
constant_more end left (tag ∷ bytes) more f are whole e =
    let at = place end (tag ∷ bytes) in
    let same = place_more end (tag ∷ bytes) more in
    elim (cases_Bool (is_tag tag)) [
      | inr g ↦ rw (g, same) (rw g at e)
      | inl t ↦ elim (cases_Bool (is_wide tag && ltb left 2)) [
        | inl y ↦ rw (t, y, same) (rw (t, y) at e)
        | inr g ↦ elim (cases_Bool (eqb tag 1)) [
          | inl y ↦ rw (t, g, y, same) (utf8_more at bytes more f (λ i. are (suc i)) whole (rw (t, g, y) at e))
          | inr h ↦ no_cut at (fixed_at tag bytes) f whole (rw (t, g, h) at e)
        ]
      ]
    ]

constant_found : (end left : ℕ) (bytes more : List ℕ) (c : Constant) (rest : List ℕ) → IsBytes bytes → constant_at_front end left bytes ≡ Ok (c, rest)
    → constant_at_front (end + length more) left (bytes ++ more) ≡ Ok (c, rest ++ more)
constant_found end left bytes more c rest are e =
    let t = constant_taken end left bytes c rest are e in
    ap (constant_at_front (end + length more) left) (ap (λ (l : List ℕ). l ++ more) t.takes.parts ∙ append_assoc (constant c) rest more) ∙ constant_again (end + length more) left c (rest ++ more) t.fits t.plain t.room

constants_more : (end numbers : ℕ) (due : Bool) (bytes more : List ℕ) (f : Fault) → IsBytes bytes → is_cut f ≡ false → constants_at end due numbers bytes ≡ Err f
    → constants_at (end + length more) due numbers (bytes ++ more) ≡ Err f
unfolding constants_at
constants_more end zero due bytes more f are whole e = absurd cc
constants_more end (suc numbers) true bytes more f are whole e = go (bind_err (constants_at end false numbers bytes) (with_first_constant Second) f e) (constants_more end numbers false bytes more f are whole)
  where
    go : Failed (constants_at end false numbers bytes) (with_first_constant Second) f
        → (constants_at end false numbers bytes ≡ Err f → constants_at (end + length more) false numbers (bytes ++ more) ≡ Err f)
        → (constants_at (end + length more) false numbers (bytes ++ more) >>= with_first_constant Second) ≡ Err f
    go (first is) on = ap (λ read. read >>= with_first_constant Second) (on is)
    go (later x is is') on = absurd cc
constants_more end (suc numbers) false bytes more f are whole e =
    go (bind_err (constant_at_front end (suc numbers) bytes) (λ found. constants_at end (takes_two found.0) numbers found.1 >>= with_first_constant found.0) f e) (λ due after fits. constants_more end numbers due after more f fits whole)
  where
    go_on : Constant × List ℕ → Reading (List Constant)
    go_on found = constants_at (end + length more) (takes_two found.0) numbers found.1 >>= with_first_constant found.0

    inner : (c : Constant) (after : List ℕ) → IsBytes after
        → ((due : Bool) (after' : List ℕ) → IsBytes after' → constants_at end due numbers after' ≡ Err f → constants_at (end + length more) due numbers (after' ++ more) ≡ Err f)
        → Failed (constants_at end (takes_two c) numbers after) (with_first_constant c) f → (constants_at (end + length more) (takes_two c) numbers (after ++ more) >>= with_first_constant c) ≡ Err f
    inner c after fits on (first is) = ap (λ read. read >>= with_first_constant c) (on (takes_two c) after fits is)
    inner c after fits on (later x is is') = absurd cc

    go : Failed (constant_at_front end (suc numbers) bytes) (λ found. constants_at end (takes_two found.0) numbers found.1 >>= with_first_constant found.0) f
        → ((due : Bool) (after' : List ℕ) → IsBytes after' → constants_at end due numbers after' ≡ Err f → constants_at (end + length more) due numbers (after' ++ more) ≡ Err f)
        → (constant_at_front (end + length more) (suc numbers) (bytes ++ more) >>= (λ found. constants_at (end + length more) (takes_two found.0) numbers found.1 >>= with_first_constant found.0)) ≡ Err f
    go (first is) on = rw (constant_more end (suc numbers) bytes more f are whole is) refl
    go (later x is is') on =
        let t = constant_taken end (suc numbers) bytes x.0 x.1 are is in
        rw (constant_found end (suc numbers) bytes more x.0 x.1 are is) (inner x.0 x.1 t.takes.rest_fits on (bind_err (constants_at end (takes_two x.0) numbers x.1) (with_first_constant x.0) f is'))

wrong_more : (at : ℕ) (cs : List Constant) (after more : List ℕ) (f : Fault) → judged at (cs, after) ≡ Err f → judged at (cs, after ++ more) ≡ Err f
wrong_more at cs after more f e = go (wrong_at (pool_of cs) at cs) e
  where
    go : (wrong : Option ℕ) → unless_wrong (cs, after) wrong ≡ Err f → unless_wrong (cs, after ++ more) wrong ≡ Err f
    go None e = absurd cc
    go (Some p) e = ap (λ g. Err g) (err_is (bad_index p) f e)

pub pool_more : (end : ℕ) (bytes more : List ℕ) (f : Fault) → IsBytes bytes → is_cut f ≡ false → pool_at end bytes ≡ Err f → pool_at (end + length more) (bytes ++ more) ≡ Err f
unfolding pool_at
pool_more end bytes more f are whole e = go (number_at w16 bytes) refl e
  where
    at : ℕ
    at = place end bytes

    constants : (count : ℕ) (rest : List ℕ) → IsBytes rest → Failed (constants_at end false (count - 1) rest) (judged (place end rest)) f
        → (constants_at (end + length more) false (count - 1) (rest ++ more) >>= judged (place (end + length more) (rest ++ more))) ≡ Err f
    constants count rest fits (first is) = rw (constants_more end (count - 1) false rest more f fits whole is) refl
    constants count rest fits (later found is is') =
        let taken = constants_taken end (count - 1) false rest found.0 found.1 fits (λ no. absurd (let h : false ≡ true = no in cc)) is in
        let again = constants_again found.0 false (end + length more) (found.1 ++ more) taken.fit taken.seconds in
        let parts : rest ++ more ≡ flat_map constant found.0 ++ (found.1 ++ more) = ap (λ (l : List ℕ). l ++ more) taken.takes.parts ∙ append_assoc (flat_map constant found.0) found.1 more in
        let read : constants_at (end + length more) false (count - 1) (rest ++ more) ≡ Ok (found.0, found.1 ++ more) = rw (parts, ← taken.many) again in
        rw (read, place_more end rest more) (wrong_more (place end rest) found.0 found.1 more f is')

    counted : (count : ℕ) (rest : List ℕ) → IsBytes rest → pool_behind_count end at (count, rest) ≡ Err f → pool_behind_count (end + length more) at (count, rest ++ more) ≡ Err f
    counted count rest fits e = elim (cases_Bool (eqb count 0)) [
      | inl y ↦ rw y (rw y at e)
      | inr g ↦ rw g (constants count rest fits (bind_err (constants_at end false (count - 1) rest) (judged (place end rest)) f (rw g at e)))
    ]

    go : (found : Option (ℕ × List ℕ)) → number_at w16 bytes ≡ found → (or_cut at found >>= pool_behind_count end at) ≡ Err f
        → (or_cut (place (end + length more) (bytes ++ more)) (number_at w16 (bytes ++ more)) >>= pool_behind_count (end + length more) (place (end + length more) (bytes ++ more))) ≡ Err f
    go None is e = absurd (let h : true ≡ false = ap is_cut (err_is (cut_short at) f e) ∙ whole in cc)
    go (Some (count, rest)) is e =
        let t = number_takes w16 (2 ^ 16) wide16 bytes count rest are is in
        rw (place_more end bytes more, number_more bytes count rest more are is) (counted count rest t.0.rest_fits e)

-- No text that begins so is in the grammar.
pub none_begins : (end : ℕ) (bytes more : List ℕ) (f : Fault) → IsBytes bytes → is_cut f ≡ false → pool_at end bytes ≡ Err f
    → (p : Pool) (rest : List ℕ) → IsPool p → bytes ++ more ≡ pool p ++ rest → ⊥
none_begins end bytes more f are whole e p rest is spelled =
    let bad = pool_more end bytes more f are whole e in
    let good : pool_at (end + length more) (bytes ++ more) ≡ Ok (p, rest) = ap (pool_at (end + length more)) spelled ∙ pool_again (end + length more) p rest is in
    let h : Err f ≡ Ok (p, rest) = sym bad ∙ good in cc
