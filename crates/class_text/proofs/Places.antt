-- Before the place of a fault only good constants stand.
use Rattle.std.proofs.Common.{◌≡◌, ℕ, zero, suc, eqb, ltb, ◌+◌, ◌-◌, ◌^◌, ◌<◌, ◌≤◌, Bool, true, false, not, cond, ◌&&◌, List, [], ◌∷◌, ◌++◌, length, take, drop, flat_map, Option, Some, None, Result, Ok, Err, refl, sym, ap, subst, ◌∙◌, append_assoc, arith, inl, inr}
use Rattle.std.specs.List.{AllByRecursion}
use Rattle.std.specs.Int.{w16, to_be_bytes}
use Rattle.std.proofs.lemmas.Bool.{cases_Bool, and_parts, and_from}
use Rattle.std.proofs.lemmas.List.{length-append}
use Rattle.class_model.specs.declared.constant_pool.Constant.{Constant}
use Rattle.class_model.specs.declared.constant_pool.Constant.TheVariants.{Utf8, Second}
use Rattle.class_model.specs.declared.constant_pool.Pool.{Pool}
use Rattle.class_model.specs.Units.{is_text}
use Rattle.class_model.specs.Constants.{IsConstant, takes_two, is_second, has_seconds, has_targets}
use Rattle.class_model.specs.Spelling.{constant}
use Rattle.class_text.specs.Reading.{Fault, cut_short, bad_tag, bad_text, bad_index, fault_place, ◌>>=◌, place, number_at, or_cut, IsBytes}
use Rattle.class_text.specs.Pool.{is_tag, is_wide, fixed_at, text_behind_length, utf8_at, constant_at_front, constants_at, with_first_constant, wrong_at, pool_of, unless_wrong, judged, pool_behind_count, pool_at, OnlyGoodBefore}
use Rattle.class_text.proofs.Numbers.{Takes, ok_is, some_is, wide16, number_takes}
use Rattle.class_text.proofs.Constants.{IsTaken, constant_taken}
use Rattle.class_text.proofs.Pools.{AreTaken, constants_taken}

abbrev pub failed : {A : Type 0} → Fault → Result A Fault
failed f = Err f

pub err_is : {A : Type 0} (f g : Fault) → failed {A = A} f ≡ failed {A = A} g → f ≡ g
err_is f g e = cc

-- a step that failed, or one behind it
pub data Failed {A B : Type 0} (r : Result A Fault) (next : A → Result B Fault) (f : Fault) : Type 0 where
  first : r ≡ Err f → Failed r next f
  later : (x : A) → r ≡ Ok x → next x ≡ Err f → Failed r next f

pub bind_err : {A B : Type 0} (r : Result A Fault) (next : A → Result B Fault) (f : Fault) → (r >>= next) ≡ Err f → Failed r next f
bind_err (Ok x) next f e = later x refl e
bind_err (Err d) next f e = first (ap (λ g. Err g) (err_is d f e))

-- what holds of each fault that a part may have
pub cut_fault : {A : Type 0} (K : Fault → Type 0) (at : ℕ) (found : Option A) (f : Fault) → K (cut_short at) → or_cut at found ≡ Err f → K f
cut_fault K at None f cut e = subst K (err_is (cut_short at) f e) cut
cut_fault K at (Some x) f cut e = absurd cc

text_fault : (K : Fault → Type 0) (at : ℕ) (n : ℕ × List ℕ) (f : Fault) → K (cut_short at) → K (bad_text at) → text_behind_length at n ≡ Err f → K f
text_fault K at n f cut text e = elim (cases_Bool (ltb (length n.1) n.0)) [
  | inl y ↦ subst K (err_is (cut_short at) f (rw y at e)) cut
  | inr g ↦ elim (cases_Bool (is_text (take n.0 n.1))) [
    | inl y ↦ absurd (let bad : Ok (Utf8 (take n.0 n.1), drop n.0 n.1) ≡ Err f = rw (g, y) at e in cc)
    | inr h ↦ subst K (err_is (bad_text at) f (rw (g, h) at e)) text
  ]
]

utf8_fault : (K : Fault → Type 0) (at : ℕ) (bytes : List ℕ) (f : Fault) → K (cut_short at) → K (bad_text at) → utf8_at at bytes ≡ Err f → K f
unfolding utf8_at
utf8_fault K at bytes f cut text e = go (bind_err (or_cut at (number_at w16 bytes)) (text_behind_length at) f e)
  where
    go : Failed (or_cut at (number_at w16 bytes)) (text_behind_length at) f → K f
    go (first is) = cut_fault K at (number_at w16 bytes) f cut is
    go (later n is is') = text_fault K at n f cut text is'

-- A constant has its own place in each fault, and a byte there in each but a cut.
pub constant_fault : (K : Fault → Type 0) (end left : ℕ) (bytes : List ℕ) (f : Fault) → K (cut_short (place end bytes))
    → (0 < length bytes → ((tag : ℕ) → K (bad_tag (place end bytes) tag)) × K (bad_text (place end bytes))) → constant_at_front end left bytes ≡ Err f → K f
unfolding constant_at_front
constant_fault K end left [] f cut other e = subst K (err_is (cut_short (place end [])) f e) cut
constant_fault K end left (tag ∷ bytes) f cut other e =
    let at = place end (tag ∷ bytes) in
    let both = other (omega arith) in
    elim (cases_Bool (is_tag tag)) [
      | inr g ↦ subst K (err_is (bad_tag at tag) f (rw g at e)) (both.0 tag)
      | inl t ↦ elim (cases_Bool (is_wide tag && ltb left 2)) [
        | inl y ↦ subst K (err_is (bad_tag at tag) f (rw (t, y) at e)) (both.0 tag)
        | inr g ↦ elim (cases_Bool (eqb tag 1)) [
          | inl y ↦ utf8_fault K at bytes f cut both.1 (rw (t, g, y) at e)
          | inr h ↦ cut_fault K at (fixed_at tag bytes) f cut (rw (t, g, h) at e)
        ]
      ]
    ]

pub constant_place : (end left : ℕ) (bytes : List ℕ) (f : Fault) → constant_at_front end left bytes ≡ Err f → fault_place f ≡ place end bytes
constant_place end left bytes f e = constant_fault (λ g. fault_place g ≡ place end bytes) end left bytes f refl (λ some. (λ tag. refl, refl)) e

-- good constants before a place, of so many numbers; `due` says that a Second is to come first
record Before (end : ℕ) (due : Bool) (numbers : ℕ) (bytes : List ℕ) (at : ℕ) : Type 0 where
  good : List Constant
  rest : List ℕ
  spelled : bytes ≡ flat_map constant good ++ rest
  fit : AllByRecursion IsConstant good
  seconds : has_seconds due good ≡ true
  few : length good < numbers
  here : at ≡ place end rest

constants_before : (end numbers : ℕ) (due : Bool) (bytes : List ℕ) (f : Fault) → IsBytes bytes → constants_at end due numbers bytes ≡ Err f → Before end due numbers bytes (fault_place f)
unfolding constants_at constant has_seconds
constants_before end zero due bytes f are e = absurd cc
constants_before end (suc numbers) true bytes f are e = go (bind_err (constants_at end false numbers bytes) (with_first_constant Second) f e) (constants_before end numbers false bytes f are)
  where
    go : Failed (constants_at end false numbers bytes) (with_first_constant Second) f → (constants_at end false numbers bytes ≡ Err f → Before end false numbers bytes (fault_place f)) → Before end true (suc numbers) bytes (fault_place f)
    go (first is) behind = let b = behind is in record { good = Second ∷ b.good; rest = b.rest; spelled = b.spelled; fit = (tt, b.fit); seconds = b.seconds; few = omega (arith, b.few); here = b.here }
    go (later x is is') behind = absurd cc
constants_before end (suc numbers) false bytes f are e =
    go (bind_err (constant_at_front end (suc numbers) bytes) (λ found. constants_at end (takes_two found.0) numbers found.1 >>= with_first_constant found.0) f e) (λ due after fits. constants_before end numbers due after f fits)
  where
    inner : (c : Constant) (after : List ℕ) → IsTaken (suc numbers) bytes c after
        → ((due : Bool) (after' : List ℕ) → IsBytes after' → constants_at end due numbers after' ≡ Err f → Before end due numbers after' (fault_place f))
        → Failed (constants_at end (takes_two c) numbers after) (with_first_constant c) f → Before end false (suc numbers) bytes (fault_place f)
    inner c after taken behind (first is) =
        let b = behind (takes_two c) after taken.takes.rest_fits is in
        record { good = c ∷ b.good; rest = b.rest; spelled = taken.takes.parts ∙ ap (λ (l : List ℕ). constant c ++ l) b.spelled ∙ sym (append_assoc (constant c) (flat_map constant b.good) b.rest); fit = (taken.fits, b.fit); seconds = and_from (not (is_second c)) (has_seconds (takes_two c) b.good) (ap not taken.plain) b.seconds; few = omega (arith, b.few); here = b.here }
    inner c after taken behind (later x is is') = absurd cc

    go : Failed (constant_at_front end (suc numbers) bytes) (λ found. constants_at end (takes_two found.0) numbers found.1 >>= with_first_constant found.0) f
        → ((due : Bool) (after' : List ℕ) → IsBytes after' → constants_at end due numbers after' ≡ Err f → Before end due numbers after' (fault_place f)) → Before end false (suc numbers) bytes (fault_place f)
    go (first is) behind = record { good = []; rest = bytes; spelled = refl; fit = tt; seconds = refl; few = omega arith; here = constant_place end (suc numbers) bytes f is }
    go (later x is is') behind =
        inner x.0 x.1 (constant_taken end (suc numbers) bytes x.0 x.1 are is) behind (bind_err (constants_at end (takes_two x.0) numbers x.1) (with_first_constant x.0) f is')

-- A constant with a wrong target is no Second.
pub not_second : (p : Pool) (c : Constant) → has_targets p c ≡ false → is_second c ≡ false
unfolding has_targets
not_second p Second e = absurd cc
not_second p _ e = refl

-- where a constant that is no Second stands, none is due
none_due : (due : Bool) (c : Constant) (cs : List Constant) → is_second c ≡ false → has_seconds due (c ∷ cs) ≡ true → not due ≡ true
unfolding has_seconds
none_due false c cs plain s = refl
none_due true c cs plain s = absurd (let h : false ≡ true = sym plain ∙ (and_parts (is_second c) (has_seconds (takes_two c) cs) s).0 in cc)

-- the constants before the first one with a wrong target
wrong_before : (p : Pool) (end : ℕ) (due : Bool) (cs : List Constant) (after : List ℕ) (at : ℕ) → AllByRecursion IsConstant cs → has_seconds due cs ≡ true → length (flat_map constant cs ++ after) ≤ end
    → wrong_at p (place end (flat_map constant cs ++ after)) cs ≡ Some at → Before end due (length cs) (flat_map constant cs ++ after) at
unfolding wrong_at has_seconds
wrong_before p end due [] after at fit seconds small e = absurd cc
wrong_before p end due (c ∷ cs) after at fit seconds small e =
    let all = flat_map constant (c ∷ cs) ++ after in
    let behind = flat_map constant cs ++ after in
    let parts : all ≡ constant c ++ behind = append_assoc (constant c) (flat_map constant cs) after in
    let size = ap length parts ∙ length-append (constant c) behind in
    elim (cases_Bool (has_targets p c)) [
      | inr f ↦ record { good = []; rest = all; spelled = refl; fit = tt; seconds = none_due due c cs (not_second p c f) seconds; few = omega arith; here = sym (some_is (place end all) at (rw f at e)) }
      | inl y ↦ (let next : place end all + length (constant c) ≡ place end behind = omega (arith, size, small) in
          let each = and_parts (cond due (is_second c) (not (is_second c))) (has_seconds (takes_two c) cs) seconds in
          let b = wrong_before p end (takes_two c) cs after at fit.1 each.1 (omega (arith, size, small)) (rw (y, next) at e) in
          record {
            good = c ∷ b.good;
            rest = b.rest;
            spelled = parts ∙ ap (λ (l : List ℕ). constant c ++ l) b.spelled ∙ sym (append_assoc (constant c) (flat_map constant b.good) b.rest);
            fit = (fit.0, b.fit);
            seconds = and_from (cond due (is_second c) (not (is_second c))) (has_seconds (takes_two c) b.good) each.0 b.seconds;
            few = omega (arith, b.few);
            here = b.here;
          })
    ]

-- what stands before a place behind the count
counted_before : (end : ℕ) (bytes : List ℕ) (count : ℕ) (rest : List ℕ) (at : ℕ) → Takes bytes (to_be_bytes w16 count) rest → Before end false (count - 1) rest at → OnlyGoodBefore end bytes at
counted_before end bytes count rest at t b =
    inr (count, b.good, b.rest, record { spelled = t.parts ∙ ap (λ (l : List ℕ). to_be_bytes w16 count ++ l) b.spelled ∙ sym (append_assoc (to_be_bytes w16 count) (flat_map constant b.good) b.rest); fit = b.fit; seconds = b.seconds; few = omega (arith, b.few); here = b.here })

judged_before : (end numbers : ℕ) (rest : List ℕ) (cs : List Constant) (after : List ℕ) (f : Fault) → AreTaken false numbers rest cs after → length rest ≤ end
    → judged (place end rest) (cs, after) ≡ Err f → Before end false numbers rest (fault_place f)
judged_before end numbers rest cs after f taken small e = go (wrong_at (pool_of cs) (place end rest) cs) refl e
  where
    go : (wrong : Option ℕ) → wrong_at (pool_of cs) (place end rest) cs ≡ wrong → unless_wrong (cs, after) wrong ≡ Err f → Before end false numbers rest (fault_place f)
    go None is e = absurd cc
    go (Some at) is e =
        let here : fault_place f ≡ at = ap fault_place (sym (err_is (bad_index at) f e)) in
        let parts = taken.takes.parts in
        let found : Before end false (length cs) (flat_map constant cs ++ after) at = wrong_before (pool_of cs) end false cs after at taken.fit taken.seconds (rw (← parts) small) (rw (← parts) is) in
        subst (λ (n : ℕ). Before end false n rest (fault_place f)) taken.many (rw (here, parts) found)

pub pool_before : (end : ℕ) (bytes : List ℕ) (f : Fault) → IsBytes bytes → length bytes ≤ end → pool_at end bytes ≡ Err f → OnlyGoodBefore end bytes (fault_place f)
unfolding pool_at
pool_before end bytes f are small e = go (bind_err (or_cut at (number_at w16 bytes)) (pool_behind_count end at) f e)
  where
    at : ℕ
    at = place end bytes

    constants : (count : ℕ) (rest : List ℕ) → Takes bytes (to_be_bytes w16 count) rest → Failed (constants_at end false (count - 1) rest) (judged (place end rest)) f → OnlyGoodBefore end bytes (fault_place f)
    constants count rest t (first is) = counted_before end bytes count rest (fault_place f) t (constants_before end (count - 1) false rest f t.rest_fits is)
    constants count rest t (later found is is') =
        let taken = constants_taken end (count - 1) false rest found.0 found.1 t.rest_fits (λ no. absurd (let h : false ≡ true = no in cc)) is in
        let within : length rest ≤ end = omega (arith, ap length t.parts ∙ length-append (to_be_bytes w16 count) rest, small) in
        counted_before end bytes count rest (fault_place f) t (judged_before end (count - 1) rest found.0 found.1 f taken within is')

    counted : (count : ℕ) (rest : List ℕ) → Takes bytes (to_be_bytes w16 count) rest → pool_behind_count end at (count, rest) ≡ Err f → OnlyGoodBefore end bytes (fault_place f)
    counted count rest t e = elim (cases_Bool (eqb count 0)) [
      | inl y ↦ inl (ap fault_place (sym (err_is (bad_index at) f (rw y at e))))
      | inr g ↦ constants count rest t (bind_err (constants_at end false (count - 1) rest) (judged (place end rest)) f (rw g at e))
    ]

    number : (found : Option (ℕ × List ℕ)) → number_at w16 bytes ≡ found → (x : ℕ × List ℕ) → or_cut at found ≡ Ok x → pool_behind_count end at x ≡ Err f → OnlyGoodBefore end bytes (fault_place f)
    number None is x ok e = absurd cc
    number (Some y) is x ok e =
        let same : y ≡ x = ok_is y x ok in
        counted x.0 x.1 (number_takes w16 (2 ^ 16) wide16 bytes x.0 x.1 are (is ∙ ap (λ (q : ℕ × List ℕ). Some q) same)).0 e

    go : Failed (or_cut at (number_at w16 bytes)) (pool_behind_count end at) f → OnlyGoodBefore end bytes (fault_place f)
    go (first is) = inl (cut_fault (λ g. fault_place g ≡ at) at (number_at w16 bytes) f refl is)
    go (later x is is') = number (number_at w16 bytes) refl x is is'
