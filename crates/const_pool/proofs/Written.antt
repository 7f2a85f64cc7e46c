-- A pool is written exactly where it has no misfit.
use Rattle.std.proofs.Common.{◌≡◌, ℕ, zero, suc, eqb, leb, ◌+◌, ◌≤◌, ◌<◌, ◌^◌, Bool, true, false, not, ◌&&◌, cond, List, [], ◌∷◌, ◌++◌, length, take, drop, get_or, flat_map, Option, Some, None, Result, Ok, Err, OnOk, IsTrue, refl, sym, ap, ◌∙◌, append_assoc, arith, inl, inr, add-one, length-drop}
use Rattle.std.specs.List.{AllByRecursion}
use Rattle.std.specs.Option.{option_or}
use Rattle.std.specs.Int.{w16, to_be_bytes}
use Rattle.std.proofs.Math.ListN.{drop_of_length-le}
use Rattle.std.proofs.lemmas.Bool.{cases_Bool, and_parts, and_from, ltb-true, lt-ltb, le-leb, eqb-true, ne_eqb, eq-eqb, le-ltb}
use Rattle.std.proofs.lemmas.List.{append-nil}
use Rattle.class_model.specs.declared.constant_pool.Constant.{Constant}
use Rattle.class_model.specs.declared.constant_pool.Constant.TheVariants.{Utf8, Ref}
use Rattle.class_model.specs.declared.constant_pool.Pool.{Pool}
use Rattle.class_model.specs.Constants.{IsConstant, IsPool, has_targets, has_seconds, takes_two, is_second}
use Rattle.class_model.specs.Spelling.{constant, pool}
use Rattle.class_model.proofs.TextLemmas.{is_text-grammar}
use Rattle.const_pool.specs.declared.write_fault.Part.TheVariants as parts
use Rattle.const_pool.specs.declared.write_fault.WriteFault.{WriteFault}
use Rattle.const_pool.specs.declared.write_fault.WriteFault.TheVariants.{TooLarge, BadShape, Memory}
use Rattle.const_pool.specs.Writing.{is_short, is_formed, is_placed, may_stand, misfit_of, misfit_from, misfit, Names}
use Rattle.const_pool.proofs.Places.{item}

pub on_ok : {T E : Type 0} (r : Result T E) {P : Type 0} → P → OnOk r P
on_ok (Ok x) p = p
on_ok (Err e) p = tt

pub text_fits : (text : List ℕ) → is_short (Utf8 text) ≡ true → is_formed (Utf8 text) ≡ true → IsConstant (Utf8 text)
text_fits text short formed = (ltb-true (length text) (2 ^ 16) short, (is_text-grammar text).0 formed)

pub names_itself : (e : WriteFault) → Names e (Some e)
names_itself (TooLarge part) = refl
names_itself (BadShape part) = refl
names_itself Memory = tt

-- what a constant without a misfit is
pub record IsFit (p : Pool) (due last : Bool) (c : Constant) : Type 0 where
  pub short : is_short c ≡ true
  pub formed : is_formed c ≡ true
  pub placed : is_placed due last c ≡ true
  pub targets : has_targets p c ≡ true

pub fit_from : (p : Pool) (number : ℕ) (due last : Bool) (c : Constant) → misfit_of p number due last c ≡ None → IsFit p due last c
unfolding misfit_of
fit_from p number due last c e = elim (cases_Bool (is_short c)) [
  | inr f ↦ absurd (let bad : Some (TooLarge (parts.Constant number)) ≡ None = rw f at e in cc)
  | inl s ↦ elim (cases_Bool (may_stand p due last c)) [
    | inr f ↦ absurd (let bad : Some (BadShape (parts.Constant number)) ≡ None = rw (s, f) at e in cc)
    | inl y ↦ (let outer = and_parts (is_formed c && is_placed due last c) (has_targets p c) y in
        let inner = and_parts (is_formed c) (is_placed due last c) outer.0 in
        record { short = s; formed = inner.0; placed = inner.1; targets = outer.1 })
  ]
]

none_of : (p : Pool) (number : ℕ) (due last : Bool) (c : Constant) → IsFit p due last c → misfit_of p number due last c ≡ None
unfolding misfit_of
none_of p number due last c fit =
    let stands : may_stand p due last c ≡ true = and_from (is_formed c && is_placed due last c) (has_targets p c) (and_from (is_formed c) (is_placed due last c) fit.formed fit.placed) fit.targets in
    rw (fit.short, stands) refl

-- the end of the constants behind an index
last_there : (i : ℕ) (cs : List Constant) → i < length cs → eqb (length (drop (i + 1) cs)) 0 ≡ eqb (i + 1) (length cs)
last_there i cs within = elim (cases_Bool (eqb (i + 1) (length cs))) [
  | inl y ↦ eq-eqb (length (drop (i + 1) cs)) 0 (omega (arith, length-drop (i + 1) cs, eqb-true (i + 1) (length cs) y)) ∙ sym y
  | inr f ↦ ne_eqb (length (drop (i + 1) cs)) 0 (λ h. apart f h) ∙ sym f
]
  where
    apart : eqb (i + 1) (length cs) ≡ false → length (drop (i + 1) cs) ≡ 0 → ⊥
    apart f h = let same : i + 1 ≡ length cs = omega (arith, length-drop (i + 1) cs, h, within) in
        let t : true ≡ false = sym (eq-eqb (i + 1) (length cs) same) ∙ f in cc

pub misfit_step : (p : Pool) (i : ℕ) (due last : Bool) (cs : List Constant) (c : Constant) → i < length cs → c ≡ get_or cs i c → last ≡ eqb (i + 1) (length cs)
    → misfit_from p (i + 1) due (drop i cs) ≡ option_or (misfit_of p (i + 1) due last c) (misfit_from p (i + 1 + 1) (takes_two c) (drop (i + 1) cs))
unfolding misfit_from
misfit_step p i due last cs c within is ends =
    rw (item cs i c within is, last_there i cs within, ← ends) refl

pub misfit_next : (p : Pool) (i : ℕ) (due last next : Bool) (cs : List Constant) (c : Constant) (total : Option WriteFault) → i < length cs → c ≡ get_or cs i c → last ≡ eqb (i + 1) (length cs)
    → misfit_of p (i + 1) due last c ≡ None → next ≡ takes_two c → total ≡ misfit_from p (i + 1) due (drop i cs) → total ≡ misfit_from p (i + 1 + 1) next (drop (i + 1) cs)
misfit_next p i due last next cs c total within is ends none two so_far =
    so_far ∙ misfit_step p i due last cs c within is ends ∙ rw (none, two) refl

pub names_next : (e : WriteFault) (p : Pool) (i : ℕ) (due last : Bool) (cs : List Constant) (c : Constant) (total : Option WriteFault) → i < length cs → c ≡ get_or cs i c → last ≡ eqb (i + 1) (length cs)
    → Names e (misfit_of p (i + 1) due last c) → total ≡ misfit_from p (i + 1) due (drop i cs) → Names e total
names_next Memory p i due last cs c total within is ends names so_far = tt
names_next (TooLarge part) p i due last cs c total within is ends names so_far = so_far ∙ misfit_step p i due last cs c within is ends ∙ rw names refl
names_next (BadShape part) p i due last cs c total within is ends names so_far = so_far ∙ misfit_step p i due last cs c within is ends ∙ rw names refl

pub none_behind : (p : Pool) (i : ℕ) (due : Bool) (cs : List Constant) (total : Option WriteFault) → length cs ≤ i → total ≡ misfit_from p (i + 1) due (drop i cs) → total ≡ None
unfolding misfit_from
none_behind p i due cs total past so_far = so_far ∙ rw (drop_of_length-le cs past) refl

-- one more constant at the end of those that were written
front_more : (cs : List Constant) (i : ℕ) (c : Constant) → i < length cs → c ≡ get_or cs i c → take (i + 1) cs ≡ take i cs ++ c ∷ []
front_more [] i c within is = absurd (omega arith)
front_more (x ∷ cs) zero c within is = rw is refl
front_more (x ∷ cs) (suc i) c within is = rw add-one (ap (λ (l : List Constant). x ∷ l) (rw add-one at (front_more cs i c (omega arith) is)))

flat_more : (xs ys : List Constant) → flat_map constant (xs ++ ys) ≡ flat_map constant xs ++ flat_map constant ys
flat_more [] ys = refl
flat_more (x ∷ xs) ys = ap (λ (l : List ℕ). constant x ++ l) (flat_more xs ys) ∙ sym (append_assoc (constant x) (flat_map constant xs) (flat_map constant ys))

all_more : (xs : List Constant) (c : Constant) → AllByRecursion IsConstant xs → IsConstant c → AllByRecursion IsConstant (xs ++ c ∷ [])
all_more [] c all one = (one, tt)
all_more (x ∷ xs) c all one = (all.0, all_more xs c all.1 one)

pub fits_more : (cs : List Constant) (i : ℕ) (c : Constant) → i < length cs → c ≡ get_or cs i c → AllByRecursion IsConstant (take i cs) → IsConstant c → AllByRecursion IsConstant (take (i + 1) cs)
fits_more cs i c within is all one = rw (front_more cs i c within is) (all_more (take i cs) c all one)

pub written_more : (start out : List ℕ) (cs : List Constant) (i : ℕ) (c : Constant) → i < length cs → c ≡ get_or cs i c → out ≡ start ++ flat_map constant (take i cs)
    → out ++ constant c ≡ start ++ flat_map constant (take (i + 1) cs)
written_more start out cs i c within is so_far =
    ap (λ (l : List ℕ). l ++ constant c) so_far ∙ append_assoc start (flat_map constant (take i cs)) (constant c)
    ∙ ap (λ (l : List ℕ). start ++ l) (ap (λ (l : List ℕ). flat_map constant (take i cs) ++ l) (sym (append-nil (constant c))) ∙ sym (flat_more (take i cs) (c ∷ [])) ∙ ap (flat_map constant) (sym (front_more cs i c within is)))

-- ---- the whole pool

or_none : (a b : Option WriteFault) → option_or a b ≡ None → (a ≡ None) × (b ≡ None)
or_none None b e = (refl, e)
or_none (Some f) b e = absurd cc

none_due : (due : Bool) → (due ≡ true → 1 ≤ 0) → not due ≡ true
none_due true r = absurd (let h : 1 ≤ 0 = r refl in omega arith)
none_due false r = refl

not_last : (two last : Bool) → not (two && last) ≡ true → two ≡ true → last ≡ false
not_last true true e t = absurd (let h : false ≡ true = e in cc)
not_last true false e t = refl
not_last false last e t = absurd (let h : false ≡ true = t in cc)

some_left : (cs : List Constant) → eqb (length cs) 0 ≡ false → 1 ≤ length cs
some_left [] e = absurd (let h : true ≡ false = e in cc)
some_left (c ∷ cs) e = omega arith

-- where no misfit is, each Second has its place and each index its target
pub sound : (p : Pool) (number : ℕ) (due : Bool) (cs : List Constant) → (due ≡ true → 1 ≤ length cs) → misfit_from p number due cs ≡ None
    → (has_seconds due cs ≡ true) × AllByRecursion (λ c. IsTrue (has_targets p c)) cs
unfolding misfit_from has_seconds
sound p number due [] room e = (none_due due room, tt)
sound p number due (c ∷ cs) room e =
    let last = eqb (length cs) 0 in
    let parts = or_none (misfit_of p number due last c) (misfit_from p (number + 1) (takes_two c) cs) e in
    let fit = fit_from p number due last c parts.0 in
    let placed = and_parts (cond due (is_second c) (not (is_second c))) (not (takes_two c && last)) fit.placed in
    let rest = sound p (number + 1) (takes_two c) cs (λ two. some_left cs (not_last (takes_two c) last placed.1 two)) parts.1 in
    (and_from (cond due (is_second c) (not (is_second c))) (has_seconds (takes_two c) cs) placed.0 rest.0, (fit.targets, rest.1))

short_of : (c : Constant) → IsConstant c → is_short c ≡ true
short_of (Utf8 text) f = lt-ltb (length text) (2 ^ 16) f.0
short_of _ f = refl

formed_of : (c : Constant) → IsConstant c → is_formed c ≡ true
formed_of (Utf8 text) f = (is_text-grammar text).1 f.1
formed_of (Ref tag class name_type) f = and_from (leb 9 tag) (leb tag 11) (le-leb 9 tag f.0) (le-leb tag 11 f.1)
formed_of _ f = refl

-- behind a constant of two numbers another stands
left_behind : (two : Bool) (cs : List Constant) → has_seconds two cs ≡ true → not (two && eqb (length cs) 0) ≡ true
unfolding has_seconds
left_behind true [] s = absurd (let h : false ≡ true = s in cc)
left_behind true (c ∷ cs) s = ap not (ne_eqb (length (c ∷ cs)) 0 (λ h. omega arith))
left_behind false cs s = refl

-- a pool has no misfit
pub complete : (p : Pool) (number : ℕ) (due : Bool) (cs : List Constant) → AllByRecursion IsConstant cs → has_seconds due cs ≡ true → AllByRecursion (λ c. IsTrue (has_targets p c)) cs
    → misfit_from p number due cs ≡ None
unfolding misfit_from has_seconds
complete p number due [] fit seconds targets = refl
complete p number due (c ∷ cs) fit seconds targets =
    let last = eqb (length cs) 0 in
    let parts = and_parts (cond due (is_second c) (not (is_second c))) (has_seconds (takes_two c) cs) seconds in
    let placed : is_placed due last c ≡ true = and_from (cond due (is_second c) (not (is_second c))) (not (takes_two c && last)) parts.0 (left_behind (takes_two c) cs parts.1) in
    let none = none_of p number due last c (record { short = short_of c fit.0; formed = formed_of c fit.0; placed = placed; targets = targets.0 }) in
    ap (λ (m : Option WriteFault). option_or m (misfit_from p (number + 1) (takes_two c) cs)) none ∙ complete p (number + 1) (takes_two c) cs fit.1 parts.1 targets.1

pub pool_from : (p : Pool) → length p.constants + 1 < 2 ^ 16 → misfit_from p 1 false p.constants ≡ None → AllByRecursion IsConstant p.constants → IsPool p
pool_from p few none fits =
    let s = sound p 1 false p.constants (λ no. absurd (let h : false ≡ true = no in cc)) none in
    record { counted = few; constants = fits; seconds = s.0; targets = s.1 }

pub whole_text : (p : Pool) (start out : List ℕ) → out ≡ start ++ flat_map constant p.constants → start ≡ to_be_bytes w16 (length p.constants + 1) → out ≡ pool p
unfolding pool
whole_text p start out e count = e ∙ ap (λ (l : List ℕ). l ++ flat_map constant p.constants) count

pub only_memory : (e : WriteFault) (p : Pool) → IsPool p → Names e (misfit_from p 1 false p.constants) → e ≡ Memory
only_memory Memory p is names = refl
only_memory (TooLarge part) p is names = absurd (let h : Some (TooLarge part) ≡ None = sym names ∙ complete p 1 false p.constants is.constants is.seconds is.targets in cc)
only_memory (BadShape part) p is names = absurd (let h : Some (BadShape part) ≡ None = sym names ∙ complete p 1 false p.constants is.constants is.seconds is.targets in cc)

pub misfit_few : (p : Pool) → length p.constants + 1 < 2 ^ 16 → misfit_from p 1 false p.constants ≡ misfit p
unfolding misfit
misfit_few p few = rw (lt-ltb (length p.constants + 1) (2 ^ 16) few) refl

pub misfit_many : (p : Pool) → 65535 ≤ length p.constants → misfit p ≡ Some (TooLarge parts.Pool)
unfolding misfit
misfit_many p many = rw (le-ltb (length p.constants + 1) (2 ^ 16) (omega (arith, many))) refl
