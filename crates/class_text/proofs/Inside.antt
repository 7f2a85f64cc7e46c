-- Where the fault of a reader lies, and of readers made of readers.
use Rattle.std.proofs.Common.{◌≡◌, ℕ, zero, suc, eqb, ltb, ◌+◌, ◌^◌, ◌<◌, ◌≤◌, Bool, true, false, cond, List, [], ◌∷◌, ◌++◌, length, take, drop, Ok, Err, refl, ap, subst, ◌∙◌, arith, inl, inr}
use Rattle.std.specs.Int.{Width, w16, w32, to_be_bytes}
use Rattle.std.proofs.lemmas.Bool.{cases_Bool}
use Rattle.std.proofs.lemmas.List.{length-append}
use Rattle.class_text.specs.Reading.{Fault, cut_short, astray, bad_attribute, cut_within, goes_on, bytes_left, fault_place, is_cut, Reading, place, number_at, IsBytes}
use Rattle.class_text.specs.Readers.{Reader, u1_at, u2_at, u4_at, index_at, many_after, counted_at, counted_after, run_at, whole, within}
use Rattle.class_text.proofs.Numbers.{bind_ok, ok_is}
use Rattle.class_text.proofs.Places.{Failed, first, later, bind_err, err_is, cut_fault}
use Rattle.class_text.proofs.Readers.{Reads, bind}
use Rattle.class_text.proofs.Parts.{wide_at, u1_reads, u2_reads, u4_reads, run_reads}

-- A fault is at a byte before the end, and a cut at most at the end. No reader leaves bytes as a fault.
abbrev pub IsInside : ℕ → Fault → Type 0
IsInside end (cut_short at) = at ≤ end
IsInside end (bytes_left at) = ⊥
IsInside end fault = fault_place fault < end

pub inside_cut : (end : ℕ) (f : Fault) → IsInside end f → fault_place f ≤ end
inside_cut end (cut_short at) is = is
inside_cut end (bytes_left at) is = absurd is
inside_cut end f is = omega (arith, is)

pub inside_strict : (end : ℕ) (f : Fault) → is_cut f ≡ false → IsInside end f → fault_place f < end
inside_strict end (cut_short at) plain is = absurd cc
inside_strict end (bytes_left at) plain is = absurd is
inside_strict end f plain is = is

-- where bytes begin at a place or behind it; a value takes as many bytes at least
pub record Inside {A : Type 0} (low size : ℕ) (read : Reader A) : Type 0 where
  pub faults : (end : ℕ) (bytes : List ℕ) (f : Fault) → IsBytes bytes → low + length bytes ≤ end → read end bytes ≡ Err f → IsInside end f
  pub rest : (end : ℕ) (bytes : List ℕ) (x : A) (after : List ℕ) → IsBytes bytes → low + length bytes ≤ end → read end bytes ≡ Ok (x, after) → IsBytes after × (length after + size ≤ length bytes)

pub raise_inside : {A : Type 0} (low size high less : ℕ) (read : Reader A) → low ≤ high → less ≤ size → Inside low size read → Inside high less read
raise_inside low size high less read up down r = record {
  faults = λ end bytes f are room e. r.faults end bytes f are (omega (arith, up, room)) e;
  rest = λ end bytes x after are room e. let t = r.rest end bytes x after are (omega (arith, up, room)) e in (t.0, omega (arith, down, t.1));
}

pub less_inside : {A : Type 0} {low size : ℕ} {read : Reader A} → Inside low size read → Inside low 0 read
less_inside {low = low} {size = size} {read = read} r = raise_inside low size low 0 read (omega arith) (omega arith) r

-- nothing
pub give_inside : {A : Type 0} (low : ℕ) (x : A) → Inside low 0 (λ end bytes. Ok (x, bytes))
give_inside {A = A} low x = record {
  faults = λ end bytes f are room e. absurd cc;
  rest = λ end bytes y after are room e.
      let same : bytes ≡ after = ap (λ (p : A × List ℕ). p.1) (ok_is (x, bytes) (y, after) e) in
      subst (λ (l : List ℕ). IsBytes l × (length l + 0 ≤ length bytes)) same (are, omega arith);
}

-- a reading that is refused
pub fail_inside : {A : Type 0} (low size : ℕ) (f : Fault) → ((end : ℕ) → low ≤ end → IsInside end f) → Inside {A = A} low size (λ end bytes. Err f)
fail_inside {A = A} low size f here = record {
  faults = λ end bytes g are room e. subst (IsInside end) (err_is {A = A × List ℕ} f g e) (here end (omega (arith, room)));
  rest = λ end bytes x after are room e. absurd cc;
}

-- one of two
pub either_inside : {A : Type 0} (low size : ℕ) (b : Bool) (one other : Reader A) → Inside low size one → Inside low size other → Inside low size (λ end bytes. cond b (one end bytes) (other end bytes))
either_inside low size true one other r q = r
either_inside low size false one other r q = q

-- one after another
pub bind_inside : {A B : Type 0} (low m n : ℕ) (read : Reader A) (next : A → Reader B) → Inside low m read → ((x : A) → Inside (low + m) n (next x)) → Inside low (m + n) (bind read next)
bind_inside {A = A} {B = B} low m n read next r rs = record { faults = fault; rest = left }
  where
    fault : (end : ℕ) (bytes : List ℕ) (f : Fault) → IsBytes bytes → low + length bytes ≤ end → bind read next end bytes ≡ Err f → IsInside end f
    fault end bytes f are room e = go (bind_err (read end bytes) (λ x. next x.0 end x.1) f e)
      where
        go : Failed (read end bytes) (λ x. next x.0 end x.1) f → IsInside end f
        go (first is) = r.faults end bytes f are room is
        go (later x is is') =
            let t = r.rest end bytes x.0 x.1 are room is in
            (rs x.0).faults end x.1 f t.0 (omega (arith, t.1, room)) is'

    left : (end : ℕ) (bytes : List ℕ) (y : B) (after : List ℕ) → IsBytes bytes → low + length bytes ≤ end → bind read next end bytes ≡ Ok (y, after) → IsBytes after × (length after + (m + n) ≤ length bytes)
    left end bytes y after are room e =
        let found = bind_ok (read end bytes) (λ x. next x.0 end x.1) (y, after) e in
        let t = r.rest end bytes found.0.0 found.0.1 are room found.1 in
        let u = (rs found.0.0).rest end found.0.1 y after t.0 (omega (arith, t.1, room)) found.2 in
        (u.0, omega (arith, t.1, u.1))

pub then_inside : {A B : Type 0} (low m : ℕ) (read : Reader A) (next : A → Reader B) → Inside low m read → ((x : A) → Inside low 0 (next x)) → Inside low m (bind read next)
then_inside low m read next r rs =
    raise_inside low (m + 0) low m (bind read next) (omega arith) (omega arith)
    (bind_inside low m 0 read next r (λ x. raise_inside low 0 (low + m) 0 (next x) (omega arith) (omega arith) (rs x)))

-- a part, and what is made of it
pub made_inside : {A B : Type 0} (low m : ℕ) (read : Reader A) (make : A → B) → Inside low m read → Inside low m (bind read (λ x end bytes. Ok (make x, bytes)))
made_inside low m read make r = then_inside low m read (λ x end bytes. Ok (make x, bytes)) r (λ x. give_inside low (make x))

-- one that names the place where it begins, behind a part that takes bytes
pub here_inside : {A B : Type 0} (low m : ℕ) (read : Reader A) (next : ℕ → A → Reader B) → 0 < m → Inside low m read → ((at : ℕ) → low ≤ at → (x : A) → Inside (suc at) 0 (next at x))
    → Inside low m (λ end bytes. bind read (next (place end bytes)) end bytes)
here_inside {A = A} {B = B} low m read next some r rs = record { faults = fault; rest = left }
  where
    fault : (end : ℕ) (bytes : List ℕ) (f : Fault) → IsBytes bytes → low + length bytes ≤ end → bind read (next (place end bytes)) end bytes ≡ Err f → IsInside end f
    fault end bytes f are room e = go (bind_err (read end bytes) (λ x. next (place end bytes) x.0 end x.1) f e)
      where
        go : Failed (read end bytes) (λ x. next (place end bytes) x.0 end x.1) f → IsInside end f
        go (first is) = r.faults end bytes f are room is
        go (later x is is') =
            let t = r.rest end bytes x.0 x.1 are room is in
            (rs (place end bytes) (omega (arith, room)) x.0).faults end x.1 f t.0 (omega (arith, some, t.1, room)) is'

    left : (end : ℕ) (bytes : List ℕ) (y : B) (after : List ℕ) → IsBytes bytes → low + length bytes ≤ end → bind read (next (place end bytes)) end bytes ≡ Ok (y, after) → IsBytes after × (length after + m ≤ length bytes)
    left end bytes y after are room e =
        let found = bind_ok (read end bytes) (λ x. next (place end bytes) x.0 end x.1) (y, after) e in
        let t = r.rest end bytes found.0.0 found.0.1 are room found.1 in
        let u = (rs (place end bytes) (omega (arith, room)) found.0.0).rest end found.0.1 y after t.0 (omega (arith, some, t.1, room)) found.2 in
        (u.0, omega (arith, t.1, u.1))

-- ---- numbers and indices

-- what is left behind a value of a spelling
left_of : {A : Type 0} (size : ℕ) (read : Reader A) (P : A → Type 0) (s : A → List ℕ) → Reads read P s → ((x : A) → P x → size ≤ length (s x))
    → (end : ℕ) (bytes : List ℕ) (x : A) (after : List ℕ) → IsBytes bytes → read end bytes ≡ Ok (x, after) → IsBytes after × (length after + size ≤ length bytes)
left_of size read P s r long end bytes x after are e =
    let t = r.takes end bytes x after are e in
    let many = long x t.0 in
    (t.1.rest_fits, omega (arith, many, ap length t.1.parts ∙ length-append (s x) after))

wide_fault : (w : Width) (end : ℕ) (bytes : List ℕ) (f : Fault) → wide_at w end bytes ≡ Err f → IsInside end f
wide_fault w end bytes f e = cut_fault (IsInside end) (place end bytes) (number_at w bytes) f (omega arith) e

pub u2_inside : (low : ℕ) → Inside low 2 u2_at
unfolding u2_at
u2_inside low = record {
  faults = λ end bytes f are room e. wide_fault w16 end bytes f e;
  rest = λ end bytes n after are room e. left_of 2 u2_at (λ n. n < 2 ^ 16) (to_be_bytes w16) u2_reads (λ n low. omega arith) end bytes n after are e;
}

pub u4_inside : (low : ℕ) → Inside low 4 u4_at
unfolding u4_at
u4_inside low = record {
  faults = λ end bytes f are room e. wide_fault w32 end bytes f e;
  rest = λ end bytes n after are room e. left_of 4 u4_at (λ n. n < 2 ^ 32) (to_be_bytes w32) u4_reads (λ n low. omega arith) end bytes n after are e;
}

pub u1_inside : (low : ℕ) → Inside low 1 u1_at
unfolding u1_at
u1_inside low = record {
  faults = λ end bytes f are room e. fault end bytes f e;
  rest = λ end bytes n after are room e. left_of 1 u1_at (λ n. n < 2 ^ 8) (λ n. n ∷ []) u1_reads (λ n low. omega arith) end bytes n after are e;
}
  where
    fault : (end : ℕ) (bytes : List ℕ) (f : Fault) → u1_at end bytes ≡ Err f → IsInside end f
    fault end [] f e = subst (IsInside end) (err_is (cut_short (place end [])) f e) (omega arith)
    fault end (b ∷ bytes) f e = absurd cc

pub index_inside : (leads : ℕ → Bool) (low : ℕ) → Inside low 2 (index_at leads)
unfolding index_at
index_inside leads low =
    here_inside low 2 u2_at (λ at n end bytes. cond (leads n) (Ok (n, bytes)) (Err (astray at leads))) (omega arith) (u2_inside low)
    (λ at up n. either_inside (suc at) 0 (leads n) (λ end bytes. Ok (n, bytes)) (λ end bytes. Err (astray at leads)) (give_inside (suc at) n) (fail_inside (suc at) 0 (astray at leads) (λ end over. omega (arith, over))))

-- ---- lists

pub many_inside : {A : Type 0} (low : ℕ) (one : List A → Reader A) → ((before : List A) → Inside low 0 (one before)) → (n : ℕ) (before : List A) → Inside low 0 (many_after one before n)
unfolding many_after
many_inside low one each zero before = give_inside low []
many_inside {A = A} low one each (suc n) before =
    then_inside low 0 (one before) (λ x. bind (many_after one (before ++ x ∷ []) n) (λ others end bytes. Ok (x ∷ others, bytes))) (each before)
    (λ x. made_inside low 0 (many_after one (before ++ x ∷ []) n) (λ (others : List A). x ∷ others) (many_inside low one each n (before ++ x ∷ [])))

pub counted_inside : {A : Type 0} (low : ℕ) (one : List A → Reader A) → ((before : List A) → Inside low 0 (one before)) → Inside low 0 (counted_after one)
unfolding counted_after
counted_inside low one each =
    raise_inside low 2 low 0 (counted_after one) (omega arith) (omega arith) (then_inside low 2 u2_at (many_after one []) (u2_inside low) (λ n. many_inside low one each n []))

-- items that are read one by one
pub each_inside : {A : Type 0} (low size : ℕ) (one : Reader A) → Inside low size one → Inside low 0 (counted_at one)
each_inside low size one r = counted_inside low (λ before. one) (λ before. raise_inside low size low 0 one (omega arith) (omega arith) r)

-- ---- runs

pub run_inside : (len low : ℕ) → Inside low 0 (run_at len)
unfolding run_at
run_inside len low = record {
  faults = λ end bytes f are room e. fault end bytes f e;
  rest = λ end bytes run after are room e. left_of 0 (run_at len) (λ l. (length l ≡ len) × IsBytes l) (λ l. l) (run_reads len) (λ l p. omega arith) end bytes run after are e;
}
  where
    fault : (end : ℕ) (bytes : List ℕ) (f : Fault) → run_at len end bytes ≡ Err f → IsInside end f
    fault end bytes f e = elim (cases_Bool (ltb (length bytes) len)) [
      | inl y ↦ subst (IsInside end) (err_is (cut_short (place end bytes)) f (rw y at e)) (omega arith)
      | inr g ↦ absurd (let bad : Ok (take len bytes, drop len bytes) ≡ Err f = rw g at e in cc)
    ]

-- The content of an attribute, which stands before it.
pub within_inside : {A : Type 0} (at len : ℕ) (inner : Reader A) → Inside (suc at) 0 inner → Inside (suc at) 0 (within at len inner)
unfolding within whole
within_inside {A = A} at len inner r = record { faults = fault; rest = left }
  where
    behind : (end : ℕ) → List ℕ × List ℕ → Reading A
    behind end run = whole at (place end run.1) run.1 (inner (place end run.1) run.0)

    fault : (end : ℕ) (bytes : List ℕ) (f : Fault) → IsBytes bytes → suc at + length bytes ≤ end → within at len inner end bytes ≡ Err f → IsInside end f
    fault end bytes f are room e = go (bind_err (run_at len end bytes) (behind end) f e)
      where
        wider : (low high : ℕ) (g : Fault) → low ≤ high → IsInside low g → IsInside high g
        wider low high (cut_short p) up is = omega (arith, up, is)
        wider low high (bytes_left p) up is = is
        wider low high g up is = omega (arith, up, is)

        judged : (rest : List ℕ) (found : Reading A) → ((g : Fault) → found ≡ Err g → IsInside (place end rest) g) → whole at (place end rest) rest found ≡ Err f → IsInside end f
        judged rest (Ok x) on e = elim (cases_Bool (eqb (length x.1) 0)) [
          | inl y ↦ absurd (let bad : Ok (x.0, rest) ≡ Err f = rw y at e in cc)
          | inr g ↦ subst (IsInside end) (err_is {A = A × List ℕ} (bad_attribute at (goes_on (place (place end rest) x.1) (place end rest))) f (rw g at e)) (omega (arith, room))
        ]
        judged rest (Err g) on e = elim (cases_Bool (is_cut g)) [
          | inl y ↦ subst (IsInside end) (err_is {A = A × List ℕ} (bad_attribute at (cut_within (fault_place g) (place end rest))) f (rw y at e)) (omega (arith, room))
          | inr n ↦ subst (IsInside end) (err_is {A = A × List ℕ} g f (rw n at e)) (wider (place end rest) end g (omega arith) (on g refl))
        ]

        go : Failed (run_at len end bytes) (behind end) f → IsInside end f
        go (first is) = (run_inside len (suc at)).faults end bytes f are room is
        go (later run is is') =
            let t = (run_reads len).takes end bytes run.0 run.1 are is in
            let size = ap length t.1.parts ∙ length-append run.0 run.1 in
            judged run.1 (inner (place end run.1) run.0) (λ g e. r.faults (place end run.1) run.0 g t.0.1 (omega (arith, size, room)) e) is'

    left : (end : ℕ) (bytes : List ℕ) (x : A) (after : List ℕ) → IsBytes bytes → suc at + length bytes ≤ end → within at len inner end bytes ≡ Ok (x, after) → IsBytes after × (length after + 0 ≤ length bytes)
    left end bytes x after are room e =
        let run = bind_ok (run_at len end bytes) (behind end) (x, after) e in
        let t = (run_inside len (suc at)).rest end bytes run.0.0 run.0.1 are room run.1 in
        subst (λ (l : List ℕ). IsBytes l × (length l + 0 ≤ length bytes)) (kept (place end run.0.1) run.0.1 (inner (place end run.0.1) run.0.0) run.2) t
      where
        kept : (stop : ℕ) (rest : List ℕ) (found : Reading A) → whole at stop rest found ≡ Ok (x, after) → rest ≡ after
        kept stop rest (Ok y) e = elim (cases_Bool (eqb (length y.1) 0)) [
          | inl z ↦ ap (λ (p : A × List ℕ). p.1) (ok_is (y.0, rest) (x, after) (rw z at e))
          | inr g ↦ absurd (let bad : Err (bad_attribute at (goes_on (place stop y.1) stop)) ≡ Ok (x, after) = rw g at e in cc)
        ]
        kept stop rest (Err g) e = absurd cc
