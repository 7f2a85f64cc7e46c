-- Reading constants one after another, as a loop does.
use Rattle.std.proofs.Common.{◌≡◌, ℕ, zero, suc, ◌-◌, ◌<◌, Bool, true, false, List, [], ◌∷◌, ◌++◌, Ok, Err, refl, sym, ap, subst, ◌∙◌, append_assoc, arith}
use Rattle.std.proofs.lemmas.List.{append-nil}
use Rattle.class_model.specs.declared.constant_pool.Constant.{Constant}
use Rattle.class_model.specs.declared.constant_pool.Constant.TheVariants.{Second}
use Rattle.class_model.specs.Constants.{takes_two}
use Rattle.class_text.specs.Reading.{Fault, Reading, ◌>>=◌}
use Rattle.class_text.specs.Pool.{constant_at_front, constants_at, with_first_constant}
use Rattle.const_pool.specs.declared.class_fault.ClassFault.{ClassFault}
use Rattle.const_pool.specs.Faults.{Fails, with_front}
use Rattle.const_pool.proofs.Faults.{fails_via}

regroup : (front : List Constant) (c : Constant) (read : Reading (List Constant)) → with_front (front ++ c ∷ []) read ≡ with_front front (read >>= with_first_constant c)
regroup front c (Ok x) = ap (λ (cs : List Constant). Ok (cs, x.1)) (simp append_assoc)
regroup front c (Err f) = refl

pub second_read : (end left : ℕ) (front : List Constant) (bytes : List ℕ) → 0 < left
    → with_front (front ++ Second ∷ []) (constants_at end false (left - 1) bytes) ≡ with_front front (constants_at end true left bytes)
unfolding constants_at
second_read end zero front bytes some = absurd (omega arith)
second_read end (suc left) front bytes some =
    let k : suc left - 1 ≡ left = omega arith in
    rw k (regroup front Second (constants_at end false left bytes))

pub constant_read : (end left : ℕ) (front : List Constant) (bytes : List ℕ) (c : Constant) (after : List ℕ) (due : Bool) → 0 < left
    → constant_at_front end left bytes ≡ Ok (c, after) → due ≡ takes_two c → with_front (front ++ c ∷ []) (constants_at end due (left - 1) after) ≡ with_front front (constants_at end false left bytes)
unfolding constants_at
constant_read end zero front bytes c after due some is two = absurd (omega arith)
constant_read end (suc left) front bytes c after due some is two =
    let k : suc left - 1 ≡ left = omega arith in
    rw (k, is, two) (regroup front c (constants_at end (takes_two c) left after))

-- a fault of a constant is one of the whole reading
fault_is : (end left : ℕ) (front : List Constant) (bytes : List ℕ) (f : Fault) → 0 < left → constant_at_front end left bytes ≡ Err f → with_front front (constants_at end false left bytes) ≡ Err f
unfolding constants_at
fault_is end zero front bytes f some is = absurd (omega arith)
fault_is end (suc left) front bytes f some is = rw is refl

pub fails_too : (e : ClassFault) (end left : ℕ) (front : List Constant) (bytes : List ℕ) → 0 < left → Fails e (constant_at_front end left bytes) → Fails e (with_front front (constants_at end false left bytes))
fails_too e end left front bytes some =
    fails_via e (constant_at_front end left bytes) (with_front front (constants_at end false left bytes)) (λ f is. fault_is end left front bytes f some is)

-- a fault of an equal reading
pub fails_as : (e : ClassFault) (a b : Reading (List Constant)) → a ≡ b → Fails e a → Fails e b
fails_as e a b same f = subst (λ (r : Reading (List Constant)). Fails e r) same f

pub is_done : (end left : ℕ) (due : Bool) (front : List Constant) (bytes : List ℕ) (total : Reading (List Constant)) → left ≡ 0
    → with_front front (constants_at end due left bytes) ≡ total → total ≡ Ok (front, bytes)
unfolding constants_at
is_done end left due front bytes total none so_far =
    let one : with_front front (constants_at end due left bytes) ≡ Ok (front, bytes) = rw none (ap (λ (cs : List Constant). Ok (cs, bytes)) (append-nil front)) in
    sym so_far ∙ one

pub front_none : (read : Reading (List Constant)) → with_front [] read ≡ read
front_none (Ok x) = refl
front_none (Err f) = refl
