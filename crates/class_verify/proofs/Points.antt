-- The places of instructions rise.
use Rattle.std.proofs.Common.{◌≡◌, ℕ, zero, suc, ◌+◌, ◌<◌, ◌≤◌, Bool, true, false, not, ◌||◌, List, length, drop, Option, Some, None, Ok, Err, Result, refl, sym, ap, ◌∙◌, subst, cond, inl, inr, arith}
use Rattle.std.specs.Prelude.{nat_lt, option_map, option_and_then, IfSome}
use Rattle.std.proofs.lemmas.Bool.{ltb-true, cases_eq}
use Rattle.jvm_tables.specs.declared.code.CodeFault.{CodeFault}
use Rattle.jvm_tables.specs.declared.code.CodeFault.TheVariants.{FloatOp, UnknownOp, CutShort, BadOperand}
use Rattle.jvm_tables.specs.declared.code.Instr.{Instr}
use Rattle.jvm_tables.specs.declared.instruction.OpRow.{OpRow}
use Rattle.jvm_tables.specs.declared.opcodes.TheConstants.{OPCODES}
use Rattle.jvm_tables.specs.Decoding.{decoding}
use Rattle.jvm_tables.specs.Opcodes.{row_of, every}
use Rattle.jvm_tables.proofs.Rows.{row_passes}
use Rattle.jvm_tables.proofs.Same.{ends_within}
use Rattle.class_verify.specs.Bodies.{Body, Point, fallen, shape_before, following, point_of}
use Rattle.class_verify.specs.Decoded.{decoded}
use Rattle.class_verify.specs.Places.{float_length, length_by, within, next_place}

abbrev has_length : OpRow → Bool
has_length row = not row.is_float || nat_lt 0 row.length

all_have_lengths : every has_length OPCODES ≡ true
all_have_lengths = refl

row_has_length : (op : ℕ) (row : OpRow) → row_of op ≡ Some row → has_length row ≡ true
unfolding row_of
row_has_length op row h = row_passes has_length op OPCODES row all_have_lengths h

positive : (is_float : Bool) (len n : ℕ) → (not is_float || nat_lt 0 len) ≡ true → (cond is_float (Some len) None) ≡ Some n → 0 < n
positive true len n h e = let same : len ≡ n = cc in subst (λ m. 0 < m) same (ltb-true 0 len h)
positive false len n h e = cc

float_positive : (op n : ℕ) (found : Option OpRow) → row_of op ≡ found → option_and_then float_length found ≡ Some n → 0 < n
float_positive op n None e h = cc
float_positive op n (Some row) e h = positive row.is_float row.length n (row_has_length op row e) h

length_positive : (pc : ℕ) (bytes : List ℕ) (n : ℕ) (found : Result Instr CodeFault) → decoding pc bytes ≡ found → length_by found ≡ Some n → 0 < n
length_positive pc bytes n (Ok instr) e h = let same : instr.length ≡ n = cc in subst (λ m. 0 < m) same (ends_within pc bytes instr e).1
length_positive pc bytes n (Err (FloatOp op)) e h = float_positive op n (row_of op) refl h
length_positive pc bytes n (Err (UnknownOp op)) e h = cc
length_positive pc bytes n (Err CutShort) e h = cc
length_positive pc bytes n (Err BadOperand) e h = cc

is_within : (code : List ℕ) (pc q : ℕ) → within code pc ≡ Some q → (pc ≡ q) × (q < length code)
is_within code pc q h =
    elim (nat_lt pc (length code)) as (λ v. nat_lt pc (length code) ≡ v → cond v (Some pc) None ≡ Some q → (pc ≡ q) × (q < length code))
    [ true ↦ λ e s. let same : pc ≡ q = cc in (same, subst (λ m. m < length code) same (ltb-true pc (length code) e)) | false ↦ λ e s. cc ] refl h

pub next_rises : (code : List ℕ) (pc q : ℕ) → next_place code pc ≡ Some q → (pc < q) × (q < length code)
unfolding next_place
next_rises code pc q h = by_length (length_by (decoding pc (drop pc code))) refl h
  where
    by_length : (len : Option ℕ) → length_by (decoding pc (drop pc code)) ≡ len → option_and_then (λ n. within code (pc + n)) len ≡ Some q → (pc < q) × (q < length code)
    by_length None e s = cc
    by_length (Some n) e s =
        let some : 0 < n = length_positive pc (drop pc code) n (decoding pc (drop pc code)) refl e in
        let there : (pc + n ≡ q) × (q < length code) = is_within code (pc + n) q s in
        (omega (arith, there.0), there.1)

mapped : {A B : Type 0} (f : A → B) (o : Option A) (b : B) → option_map f o ≡ Some b → (a : A) × (o ≡ Some a) × (f a ≡ b)
mapped f None b h = cc
mapped f (Some a) b h = let e : f a ≡ b = cc in (a, refl, e)

pub following_place : (body : Body) (p q : Point) → following body p ≡ Some q → next_place body.code p.pc ≡ Some q.pc
unfolding following
following_place body p q h =
    let f : ℕ → Point = λ pc. record { pc = pc; arrives = fallen body (shape_before body p) (decoded body.code p.pc) } in
    let m : (pc : ℕ) × (next_place body.code p.pc ≡ Some pc) × (f pc ≡ q) = mapped f (next_place body.code p.pc) q h in
    m.1 ∙ ap Some (ap (λ (r : Point). r.pc) m.2)

-- what arrives there is what this one leaves
pub following_arrives : (body : Body) (p q : Point) → following body p ≡ Some q → q.arrives ≡ fallen body (shape_before body p) (decoded body.code p.pc)
unfolding following
following_arrives body p q h =
    let f : ℕ → Point = λ pc. record { pc = pc; arrives = fallen body (shape_before body p) (decoded body.code p.pc) } in
    let m : (pc : ℕ) × (next_place body.code p.pc ≡ Some pc) × (f pc ≡ q) = mapped f (next_place body.code p.pc) q h in
    sym (ap (λ (r : Point). r.arrives) m.2)

pub following_rises : (body : Body) (p q : Point) → following body p ≡ Some q → p.pc < q.pc
following_rises body p q h = (next_rises body.code p.pc q.pc (following_place body p q h)).0

pub following_inside : (body : Body) (p q : Point) → following body p ≡ Some q → q.pc < length body.code
following_inside body p q h = (next_rises body.code p.pc q.pc (following_place body p q h)).1

-- the point before a later one
stepped : (body : Body) (o : Option Point) (q : Point) → option_and_then (following body) o ≡ Some q → (r : Point) × (o ≡ Some r) × (following body r ≡ Some q)
stepped body None q h = cc
stepped body (Some r) q h = (r, refl, h)

pub point_before : (body : Body) (n : ℕ) (q : Point) → point_of body (suc n) ≡ Some q → (r : Point) × (point_of body n ≡ Some r) × (following body r ≡ Some q)
unfolding point_of
point_before body n q h = stepped body (point_of body n) q h

-- behind no instruction there is none
pub none_behind : (body : Body) (n m : ℕ) → n ≤ m → point_of body n ≡ None → point_of body m ≡ None
unfolding point_of
none_behind body n zero h e = let same : n ≡ zero = omega arith in subst (λ k. point_of body k ≡ None) same e
none_behind body n (suc m) h e =
    elim (cases_eq n (suc m)) [
      | inl same ↦ subst (λ k. point_of body k ≡ None) same e
      | inr other ↦ ap (option_and_then (following body)) (none_behind body n m (omega arith) e)
    ]

-- later instructions begin at greater places
pub rises_to : (body : Body) (n m : ℕ) (p q : Point) → n ≤ m → point_of body n ≡ Some p → point_of body m ≡ Some q → p.pc ≤ q.pc
rises_to body n zero p q h e f =
    let same : n ≡ zero = omega arith in
    let one : Some p ≡ Some q = sym e ∙ ap (point_of body) same ∙ f in
    let equal : p ≡ q = cc in
    let places : p.pc ≡ q.pc = ap (λ (r : Point). r.pc) equal in omega arith
rises_to body n (suc m) p q h e f =
    elim (cases_eq n (suc m)) [
      | inl same ↦
          (let one : Some p ≡ Some q = sym e ∙ ap (point_of body) same ∙ f in
          let equal : p ≡ q = cc in
          let places : p.pc ≡ q.pc = ap (λ (r : Point). r.pc) equal in omega arith)
      | inr other ↦
          (let r : (r : Point) × (point_of body m ≡ Some r) × (following body r ≡ Some q) = point_before body m q f in
          let low : p.pc ≤ (r.0).pc = rises_to body n m p r.0 (omega arith) e r.1 in
          let high : (r.0).pc < q.pc = following_rises body r.0 q r.2 in
          omega arith)
    ]

-- where the next instruction begins, from the length of this one
pub next_is : (code : List ℕ) (pc len : ℕ) (found : Option ℕ) → length_by (decoding pc (drop pc code)) ≡ Some len → found ≡ within code (pc + len)
    → IfSome found (λ q. pc < q)
next_is code pc len None l e = tt
next_is code pc len (Some q) l e =
    let some : 0 < len = length_positive pc (drop pc code) len (decoding pc (drop pc code)) refl l in
    let there : (pc + len ≡ q) × (q < length code) = is_within code (pc + len) q (sym e) in
    omega (arith, there.0)
