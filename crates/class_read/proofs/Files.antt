-- The pool within a file, and the file as a whole.
use Rattle.std.proofs.Common.{◌≡◌, ℕ, ◌≤◌, cond, eqb, leb, ◌&&◌, List, ◌++◌, length, drop, Result, Ok, Err, IfOk, IfErr, refl, sym, ap, subst, ◌∙◌, append_assoc, arith, inl, inr}
use Rattle.std.proofs.lemmas.Bool.{cases_Bool}
use Rattle.std.proofs.lemmas.List.{length-append, drop_at}
use Rattle.std.specs.Int.{w16, w32, to_be_bytes}
use Rattle.class_model.specs.declared.constant_pool.Pool.{Pool}
use Rattle.class_model.specs.declared.class_file.Class.{Class}
use Rattle.class_model.specs.Constants.{IsPool}
use Rattle.class_model.specs.Shape.{Shaped}
use Rattle.class_model.specs.Spelling as spelling
use Rattle.class_text.specs.Reading.{Fault, bad_magic, bad_major, Reading, place, IsBytes}
use Rattle.class_text.specs.Readers.{u2_at, u4_at}
use Rattle.class_text.specs.Pool.{pool_at}
use Rattle.class_text.specs.Classes.{minor_at, major_at, behind_pool_at, class_at_front, class_of}
use Rattle.class_text.proofs.Numbers.{bind_ok, ok_is}
use Rattle.class_text.proofs.Pools.{pool_again}
use Rattle.class_text.proofs.Parts.{u2_reads, u4_reads}
use Rattle.class_text.proofs.ClassLaws.{class_taken, class_again, class_once}
use Rattle.class_text.specs.Meanings.{IsMeant}
use Rattle.class_text.proofs.ClassTells.{class_meant}
use Rattle.const_pool.specs.declared.class_fault.ClassFault.{ClassFault}
use Rattle.const_pool.specs.Faults.{IsOf, Fails, Gives, IsOkUnlessMemory}
use Rattle.const_pool.proofs.Faults.{fails_via, said, never}

-- what stands behind some bytes
record IsBehind (bytes rest : List ℕ) : Type 0 where
  front : List ℕ
  parts : bytes ≡ front ++ rest
  fits : IsBytes rest

then_behind : (a b c : List ℕ) → IsBehind a b → IsBehind b c → IsBehind a c
then_behind a b c p q = record { front = p.front ++ q.front; parts = p.parts ∙ ap (λ (l : List ℕ). p.front ++ l) q.parts ∙ sym (append_assoc p.front q.front c); fits = q.fits }

two_behind : (end : ℕ) (bytes : List ℕ) (n : ℕ) (rest : List ℕ) → IsBytes bytes → u2_at end bytes ≡ Ok (n, rest) → IsBehind bytes rest
two_behind end bytes n rest are e = let t = u2_reads.takes end bytes n rest are e in record { front = to_be_bytes w16 n; parts = t.1.parts; fits = t.1.rest_fits }

minor_behind : (end : ℕ) (bytes : List ℕ) (n : ℕ) (rest : List ℕ) → IsBytes bytes → minor_at end bytes ≡ Ok (n, rest) → IsBehind bytes rest
unfolding minor_at
minor_behind end bytes n rest are e =
    let found = bind_ok (u4_at end bytes) (λ m. cond (eqb m.0 spelling.magic) (u2_at end m.1) (Err bad_magic)) (n, rest) e in
    let t = u4_reads.takes end bytes found.0.0 found.0.1 are found.1 in
    let one : IsBehind bytes found.0.1 = record { front = to_be_bytes w32 found.0.0; parts = t.1.parts; fits = t.1.rest_fits } in
    elim (cases_Bool (eqb found.0.0 spelling.magic)) [
      | inl y ↦ then_behind bytes found.0.1 rest one (two_behind end found.0.1 n rest t.1.rest_fits (rw y at found.2))
      | inr f ↦ absurd (let bad : Err bad_magic ≡ Ok (n, rest) = rw f at found.2 in cc)
    ]

major_behind : (end : ℕ) (bytes : List ℕ) (n : ℕ) (rest : List ℕ) → IsBytes bytes → major_at end bytes ≡ Ok (n, rest) → IsBehind bytes rest
unfolding major_at
major_behind end bytes n rest are e = go found.0 (two_behind end bytes found.0.0 found.0.1 are found.1) found.2
  where
    next : ℕ × List ℕ → Reading ℕ
    next m = cond (leb 52 m.0 && leb m.0 65) (Ok m) (Err (bad_major m.0))

    found : (x : ℕ × List ℕ) × (u2_at end bytes ≡ Ok x) × (next x ≡ Ok (n, rest))
    found = bind_ok (u2_at end bytes) next (n, rest) e

    go : (m : ℕ × List ℕ) → IsBehind bytes m.1 → next m ≡ Ok (n, rest) → IsBehind bytes rest
    go m b e = elim (cases_Bool (leb 52 m.0 && leb m.0 65)) [
      | inl y ↦ subst (λ (p : ℕ × List ℕ). IsBehind bytes p.1) (ok_is m (n, rest) (rw y at e)) b
      | inr f ↦ absurd (let bad : Err (bad_major m.0) ≡ Ok (n, rest) = rw f at e in cc)
    ]

-- what stands behind is found again by its place
by_place : (bytes rest : List ℕ) (at : ℕ) → IsBehind bytes rest → at ≡ place (length bytes) rest → (drop at bytes ≡ rest) × (at ≤ length bytes)
by_place bytes rest at b is =
    let size = ap length b.parts ∙ length-append b.front rest in
    let here : at ≡ length b.front = omega (arith, size, is) in
    (ap (drop at) b.parts ∙ drop_at b.front rest at (sym here), omega (arith, size, is))

pub pool_place : (bytes : List ℕ) (minor : ℕ) (rest : List ℕ) (major : ℕ) (more : List ℕ) (at : ℕ) → IsBytes bytes → minor_at (length bytes) bytes ≡ Ok (minor, rest) → major_at (length bytes) rest ≡ Ok (major, more)
    → at ≡ place (length bytes) more → (drop at bytes ≡ more) × (at ≤ length bytes)
pool_place bytes minor rest major more at are e f is =
    let one = minor_behind (length bytes) bytes minor rest are e in
    by_place bytes more at (then_behind bytes rest more one (major_behind (length bytes) rest major more one.fits f)) is

-- a pool that is spelled there is read there
pub pool_there : (file : List ℕ) (at : ℕ) (p : Pool) (rest : List ℕ) → IsPool p → drop at file ≡ spelling.pool p ++ rest → pool_at (length file) (drop at file) ≡ Ok (p, rest)
pool_there file at p rest is spelled = ap (pool_at (length file)) spelled ∙ pool_again (length file) p rest is

abbrev given : Class → Result Class Fault
given c = Ok c

same_class : (c d : Class) → given c ≡ given d → c ≡ d
same_class c d e = cc

pub read_only : (bytes : List ℕ) (result : Result Class ClassFault) → Gives (λ c. c) result (class_of bytes) → (c : Class) → Shaped c → bytes ≡ spelling.class c → IsOkUnlessMemory (λ x. x ≡ c) result
read_only bytes (Ok x) is c s e = same_class x c (sym is ∙ ap class_of e ∙ class_again c s)
read_only bytes (Err f) is c s e = subst (λ (g : ClassFault). IsOkUnlessMemory (λ (x : Class). x ≡ c) (Err g)) (sym (never (class_of bytes) c f (ap class_of e ∙ class_again c s) is)) tt

pub one_class : (bytes : List ℕ) (c d : Class) → Shaped c → Shaped d → bytes ≡ spelling.class c → bytes ≡ spelling.class d → c ≡ d
one_class bytes c d s t e f = class_once c d s t (sym e ∙ f)

pub all_found : (bytes : List ℕ) (result : Result Class ClassFault) → IsBytes bytes → Gives (λ c. c) result (class_of bytes) → IfOk result (λ c. Shaped c × (bytes ≡ spelling.class c))
all_found bytes (Ok c) are is = class_taken bytes c are is
all_found bytes (Err e) are is = tt

pub all_faults : (bytes : List ℕ) (result : Result Class ClassFault) → Gives (λ c. c) result (class_of bytes) → IfErr result (λ e. Fails e (class_of bytes))
all_faults bytes (Ok c) is = tt
all_faults bytes (Err e) is = is

pub all_said : (bytes : List ℕ) (result : Result Class ClassFault) → IsBytes bytes → Gives (λ c. c) result (class_of bytes) → IfErr result (λ e. IsOf (IsMeant bytes) e)
all_said bytes (Ok c) are is = tt
all_said bytes (Err e) are is = said (IsMeant bytes) e (class_of bytes) (λ f bad. class_meant bytes f are bad) is

-- the front of a file behind its versions
pub front_read : (end : ℕ) (bytes : List ℕ) (minor : ℕ) (rest : List ℕ) (major : ℕ) (more : List ℕ) (pool : Pool) (after : List ℕ) → minor_at end bytes ≡ Ok (minor, rest) → major_at end rest ≡ Ok (major, more) → pool_at end more ≡ Ok (pool, after)
    → behind_pool_at minor major pool end after ≡ class_at_front end bytes
unfolding class_at_front
front_read end bytes minor rest major more pool after e f g = rw (e, f, g) refl

pub front_fails : (end : ℕ) (bytes : List ℕ) (minor : ℕ) (rest : List ℕ) (major : ℕ) (more : List ℕ) (fault : ClassFault) → minor_at end bytes ≡ Ok (minor, rest) → major_at end rest ≡ Ok (major, more) → Fails fault (pool_at end more)
    → Fails fault (class_at_front end bytes)
unfolding class_at_front
front_fails end bytes minor rest major more fault e f is =
    fails_via fault (pool_at end more) (class_at_front end bytes) (λ g bad. rw (e, f, bad) refl) is
