-- To which place reading comes before a fault, for readers made of readers.
use Rattle.std.proofs.Common.{◌≡◌, ℕ, zero, suc, eqb, ltb, ◌+◌, ◌^◌, ◌<◌, ◌≤◌, Bool, true, false, cond, List, [], ◌∷◌, ◌++◌, ◌⊎◌, length, take, drop, Ok, Err, refl, sym, ap, subst, ◌∙◌, append_assoc, arith, inl, inr}
use Rattle.std.specs.Int.{w16, w32, to_be_bytes}
use Rattle.std.proofs.lemmas.Bool.{cases_Bool, ltb-true, lt-ltb}
use Rattle.std.proofs.lemmas.List.{length-append}
use Rattle.class_model.specs.declared.constant_pool.Pool.{Pool}
use Rattle.class_model.specs.declared.attribute_forms.Attribute.{Attribute}
use Rattle.class_model.specs.Attributes.{Place}
use Rattle.class_text.specs.Reading.{Fault, cut_short, astray, bad_attribute, cut_within, goes_on, fault_place, is_cut, Reading, ◌>>=◌, place, number_at, IsBytes}
use Rattle.class_text.specs.Readers.{Reader, u2_at, u4_at, index_at, many_after, counted_after, run_at, whole, within}
use Rattle.class_text.specs.Elements.{leads_to_text}
use Rattle.class_text.specs.Places.{IsInContent, Stops}
use Rattle.class_text.proofs.Places.{Failed, first, later, bind_err, err_is, cut_fault, failed}
use Rattle.class_text.proofs.Readers.{Reads, bind}
use Rattle.class_text.proofs.Parts.{u2_reads, run_reads}
use Rattle.class_text.proofs.Inside.{Inside, u2_inside}

-- Where bytes begin at a place or behind it, reading comes to the place of the fault, or the fault is another's.
abbrev pub Tied : {A : Type 0} → ℕ → (Fault → Type 0) → (ℕ → List ℕ → Fault → Type 0) → Reader A → Type 0
Tied low K W read = (end : ℕ) (bytes : List ℕ) (f : Fault) → IsBytes bytes → low + length bytes ≤ end → read end bytes ≡ Err f → Stops read W end bytes f ⊎ K f

-- a fault that is no other's
abbrev pub NoFault : Fault → Type 0
NoFault f = ⊥

abbrev pub IsAt : ℕ → Fault → Type 0
IsAt at f = fault_place f ≡ at

pub lift_tied : {A : Type 0} (low : ℕ) (K : Fault → Type 0) (W : ℕ → List ℕ → Fault → Type 0) (read : Reader A) → Tied low NoFault W read → Tied low K W read
lift_tied low K W read t end bytes f are room e = go (t end bytes f are room e)
  where
    go : Stops read W end bytes f ⊎ NoFault f → Stops read W end bytes f ⊎ K f
    go (inl s) = inl s
    go (inr n) = absurd n

-- what stops a part stops the whole
pub stops_first : {A B : Type 0} (read : Reader A) (next : A → Reader B) (W : ℕ → List ℕ → Fault → Type 0) (end : ℕ) (bytes : List ℕ) (f : Fault) → Stops read W end bytes f → Stops (bind read next) W end bytes f
stops_first {A = A} read next W end bytes f s = record { front = s.front; rest = s.rest; parts = s.parts; cut = ap (λ (found : Reading A). found >>= (λ x. next x.0 (place end s.rest) x.1)) s.cut; what = s.what }

pub stops_later : {A B : Type 0} (read : Reader A) (P : A → Type 0) (s : A → List ℕ) (next : A → Reader B) (W : ℕ → List ℕ → Fault → Type 0) (end : ℕ) (bytes : List ℕ) (x : A) (after : List ℕ) (f : Fault) → Reads read P s → IsBytes bytes
    → read end bytes ≡ Ok (x, after) → Stops (next x) W end after f → Stops (bind read next) W end bytes f
stops_later {A = A} read P s next W end bytes x after f r are e t =
    let taken = r.takes end bytes x after are e in
    let again : read (place end t.rest) (s x ++ t.front) ≡ Ok (x, t.front) = r.again (place end t.rest) x t.front taken.0 in
    record {
      front = s x ++ t.front;
      rest = t.rest;
      parts = taken.1.parts ∙ ap (λ (l : List ℕ). s x ++ l) t.parts ∙ sym (append_assoc (s x) t.front t.rest);
      cut = ap (λ (found : Reading A). found >>= (λ y. next y.0 (place end t.rest) y.1)) again ∙ t.cut;
      what = t.what;
    }

pub bind_tied : {A B : Type 0} (low : ℕ) (K : Fault → Type 0) (W : ℕ → List ℕ → Fault → Type 0) (read : Reader A) (P : A → Type 0) (s : A → List ℕ) (next : A → Reader B) → Reads read P s → Tied low K W read → ((x : A) → P x → Tied low K W (next x))
    → Tied low K W (bind read next)
bind_tied {A = A} low K W read P s next r t ts end bytes f are room e = go (bind_err (read end bytes) (λ x. next x.0 end x.1) f e)
  where
    one : Stops read W end bytes f ⊎ K f → Stops (bind read next) W end bytes f ⊎ K f
    one (inl stop) = inl (stops_first read next W end bytes f stop)
    one (inr k) = inr k

    other : (x : A) (after : List ℕ) → read end bytes ≡ Ok (x, after) → Stops (next x) W end after f ⊎ K f → Stops (bind read next) W end bytes f ⊎ K f
    other x after is (inl stop) = inl (stops_later read P s next W end bytes x after f r are is stop)
    other x after is (inr k) = inr k

    go : Failed (read end bytes) (λ x. next x.0 end x.1) f → Stops (bind read next) W end bytes f ⊎ K f
    go (first is) = one (t end bytes f are room is)
    go (later x is is') =
        let taken = r.takes end bytes x.0 x.1 are is in
        other x.0 x.1 is (ts x.0 taken.0 end x.1 f taken.1.rest_fits (omega (arith, ap length taken.1.parts ∙ length-append (s x.0) x.1, room)) is')

-- a part, and what is made of it
pub made_tied : {A B : Type 0} (low : ℕ) (K : Fault → Type 0) (W : ℕ → List ℕ → Fault → Type 0) (read : Reader A) (make : A → B) → Tied low K W read → Tied low K W (bind read (λ x end bytes. Ok (make x, bytes)))
made_tied {A = A} {B = B} low K W read make t end bytes f are room e = go (bind_err (read end bytes) give f e)
  where
    give : A × List ℕ → Reading B
    give x = Ok (make x.0, x.1)

    one : Stops read W end bytes f ⊎ K f → Stops (bind read (λ x end bytes. Ok (make x, bytes))) W end bytes f ⊎ K f
    one (inl stop) = inl (stops_first read (λ x end bytes. Ok (make x, bytes)) W end bytes f stop)
    one (inr k) = inr k

    go : Failed (read end bytes) give f → Stops (bind read (λ x end bytes. Ok (make x, bytes))) W end bytes f ⊎ K f
    go (first is) = one (t end bytes f are room is)
    go (later x is is') = absurd cc

pub fail_tied : {A : Type 0} (low : ℕ) (K : Fault → Type 0) (W : ℕ → List ℕ → Fault → Type 0) (g : Fault) → K g → Tied {A = A} low K W (λ end bytes. Err g)
fail_tied {A = A} low K W g k end bytes f are room e = inr (subst K (err_is {A = A × List ℕ} g f e) k)

pub give_tied : {A : Type 0} (low : ℕ) (K : Fault → Type 0) (W : ℕ → List ℕ → Fault → Type 0) (x : A) → Tied low K W (λ end bytes. Ok (x, bytes))
give_tied low K W x end bytes f are room e = absurd cc

pub either_tied : {A : Type 0} (low : ℕ) (K : Fault → Type 0) (W : ℕ → List ℕ → Fault → Type 0) (b : Bool) (one other : Reader A) → Tied low K W one → Tied low K W other → Tied low K W (λ end bytes. cond b (one end bytes) (other end bytes))
either_tied low K W true one other t u = t
either_tied low K W false one other t u = u

-- a reader that cuts where nothing is
abbrev pub CutsNothing : {A : Type 0} → Reader A → Type 0
CutsNothing read = (end : ℕ) → read end [] ≡ Err (cut_short (place end []))

-- a fault at the place where the bytes begin, or of what stands there
pub stops_at : {A : Type 0} (read : Reader A) (W : ℕ → List ℕ → Fault → Type 0) (end : ℕ) (bytes : List ℕ) (f : Fault) → CutsNothing read → (fault_place f ≡ place end bytes) ⊎ W end bytes f → Stops read W end bytes f
stops_at {A = A} read W end bytes f none what =
    let same : place (place end bytes) [] ≡ place end bytes = omega arith in
    record { front = []; rest = bytes; parts = refl; cut = none (place end bytes) ∙ ap (λ (n : ℕ). failed {A = A × List ℕ} (cut_short n)) same; what = what }

pub stops_here : {A : Type 0} (read : Reader A) (W : ℕ → List ℕ → Fault → Type 0) (end : ℕ) (bytes : List ℕ) (f : Fault) → CutsNothing read → fault_place f ≡ place end bytes → Stops read W end bytes f
stops_here read W end bytes f none e = stops_at read W end bytes f none (inl e)

-- one that names the place where it begins
pub here_tied : {A B : Type 0} (low m : ℕ) (W : ℕ → List ℕ → Fault → Type 0) (read : Reader A) (P : A → Type 0) (s : A → List ℕ) (next : ℕ → A → Reader B) → 0 < m → CutsNothing read → Reads read P s → Inside low m read → Tied low NoFault W read
    → ((at : ℕ) (x : A) → P x → Tied (suc at) (IsAt at) W (next at x)) → Tied low NoFault W (λ end bytes. bind read (next (place end bytes)) end bytes)
here_tied {A = A} {B = B} low m W read P s next some none r i t ts end bytes f are room e = inl (go (bind_err (read end bytes) (λ x. next at x.0 end x.1) f e))
  where
    at : ℕ
    at = place end bytes

    here : Reader B
    here end bytes = bind read (next (place end bytes)) end bytes

    -- the place of a front is that of the bytes
    moved : Stops (bind read (next at)) W end bytes f → Stops here W end bytes f
    moved stop =
        let same : at ≡ place (place end stop.rest) stop.front = omega (arith, ap length stop.parts ∙ length-append stop.front stop.rest, room) in
        record { front = stop.front; rest = stop.rest; parts = stop.parts; cut = subst (λ (p : ℕ). bind read (next p) (place end stop.rest) stop.front ≡ Err (cut_short (place end stop.rest))) same stop.cut; what = stop.what }

    one : Stops read W end bytes f ⊎ NoFault f → Stops here W end bytes f
    one (inl stop) = moved (stops_first read (next at) W end bytes f stop)
    one (inr k) = absurd k

    other : (x : A) (after : List ℕ) → read end bytes ≡ Ok (x, after) → Stops (next at x) W end after f ⊎ IsAt at f → Stops here W end bytes f
    other x after is (inl stop) = moved (stops_later read P s (next at) W end bytes x after f r are is stop)
    other x after is (inr k) = stops_here here W end bytes f (λ p. ap (λ (found : Reading A). found >>= (λ y. next (place p []) y.0 p y.1)) (none p)) k

    go : Failed (read end bytes) (λ x. next at x.0 end x.1) f → Stops here W end bytes f
    go (first is) = one (t end bytes f are room is)
    go (later x is is') =
        let taken = r.takes end bytes x.0 x.1 are is in
        let less = i.rest end bytes x.0 x.1 are room is in
        other x.0 x.1 is (ts at x.0 taken.0 end x.1 f taken.1.rest_fits (omega (arith, some, less.1, room)) is')

-- ---- numbers, indices and lists

pub u2_none : CutsNothing u2_at
unfolding u2_at
u2_none end = refl

pub u2_tied : (low : ℕ) (K : Fault → Type 0) (W : ℕ → List ℕ → Fault → Type 0) → Tied low K W u2_at
unfolding u2_at
u2_tied low K W end bytes f are room e = inl (stops_here u2_at W end bytes f (λ p. refl) (cut_fault (IsAt (place end bytes)) (place end bytes) (number_at w16 bytes) f refl e))

pub u4_tied : (low : ℕ) (K : Fault → Type 0) (W : ℕ → List ℕ → Fault → Type 0) → Tied low K W u4_at
unfolding u4_at
u4_tied low K W end bytes f are room e = inl (stops_here u4_at W end bytes f (λ p. refl) (cut_fault (IsAt (place end bytes)) (place end bytes) (number_at w32 bytes) f refl e))

pub index_none : (leads : ℕ → Bool) → CutsNothing (index_at leads)
unfolding index_at u2_at
index_none leads end = refl

pub index_tied : (low : ℕ) (K : Fault → Type 0) (W : ℕ → List ℕ → Fault → Type 0) (leads : ℕ → Bool) → Tied low K W (index_at leads)
unfolding index_at
index_tied low K W leads =
    lift_tied low K W (index_at leads)
    (here_tied low 2 W u2_at (λ n. n < 2 ^ 16) (to_be_bytes w16) (λ at n end bytes. cond (leads n) (Ok (n, bytes)) (Err (astray at leads))) (omega arith) u2_none u2_reads (u2_inside low) (u2_tied low NoFault W)
    (λ at n p. either_tied (suc at) (IsAt at) W (leads n) (λ end bytes. Ok (n, bytes)) (λ end bytes. Err (astray at leads)) (give_tied (suc at) (IsAt at) W n) (fail_tied (suc at) (IsAt at) W (astray at leads) refl)))

pub many_tied : {A : Type 0} (low : ℕ) (K : Fault → Type 0) (W : ℕ → List ℕ → Fault → Type 0) (one : List A → Reader A) (P : List A → A → Type 0) (s : A → List ℕ) → ((before : List A) → Reads (one before) (P before) s)
    → ((before : List A) → Tied low K W (one before)) → (n : ℕ) (before : List A) → Tied low K W (many_after one before n)
unfolding many_after
many_tied low K W one P s r t zero before = λ end bytes f are room e. absurd cc
many_tied {A = A} low K W one P s r t (suc n) before =
    bind_tied low K W (one before) (P before) s (λ x. bind (many_after one (before ++ x ∷ []) n) (λ others end bytes. Ok (x ∷ others, bytes))) (r before) (t before)
    (λ x p. made_tied low K W (many_after one (before ++ x ∷ []) n) (λ (others : List A). x ∷ others) (many_tied low K W one P s r t n (before ++ x ∷ [])))

pub counted_tied : {A : Type 0} (low : ℕ) (K : Fault → Type 0) (W : ℕ → List ℕ → Fault → Type 0) (one : List A → Reader A) (P : List A → A → Type 0) (s : A → List ℕ) → ((before : List A) → Reads (one before) (P before) s)
    → ((before : List A) → Tied low K W (one before)) → Tied low K W (counted_after one)
unfolding counted_after
counted_tied low K W one P s r t =
    bind_tied low K W u2_at (λ n. n < 2 ^ 16) (to_be_bytes w16) (many_after one []) u2_reads (u2_tied low K W) (λ n p. many_tied low K W one P s r t n [])

-- ---- runs and contents of attributes

pub run_tied : (low : ℕ) (K : Fault → Type 0) (W : ℕ → List ℕ → Fault → Type 0) (len : ℕ) → Tied low K W (run_at len)
unfolding run_at
run_tied low K W len end bytes f are room e = elim (cases_Bool (ltb (length bytes) len)) [
  | inl y ↦ (let long = ltb-true (length bytes) len y in
      let less : ltb 0 len ≡ true = lt-ltb 0 len (omega (arith, long)) in
      inl (stops_here (run_at len) W end bytes f (λ p. rw less refl) (ap fault_place (sym (err_is {A = List ℕ × List ℕ} (cut_short (place end bytes)) f (rw y at e))))))
  | inr g ↦ absurd (let bad : Ok (take len bytes, drop len bytes) ≡ Err f = rw g at e in cc)
]

pub within_tied : (contents : Place → ℕ → ℕ → Reader Attribute) (pool : Pool) (stand : Place) (name at len : ℕ) → leads_to_text pool name ≡ true → ((end : ℕ) (f : Fault) → contents stand name at end [] ≡ Err f → is_cut f ≡ true)
    → Tied (suc at) (IsAt at) (IsInContent contents pool) (within at len (contents stand name at))
unfolding within whole run_at
within_tied contents pool stand name at len named nothing end bytes f are room e = go (bind_err (run_at len end bytes) behind f e)
  where
    inner : Reader Attribute
    inner = contents stand name at

    behind : List ℕ × List ℕ → Reading Attribute
    behind run = whole at (place end run.1) run.1 (inner (place end run.1) run.0)

    none : 0 < len → CutsNothing (within at len inner)
    none some p = let less : ltb 0 len ≡ true = lt-ltb 0 len some in rw less refl

    here : (g : Fault) → failed {A = Attribute × List ℕ} g ≡ failed {A = Attribute × List ℕ} f → fault_place f ≡ fault_place g
    here g same = ap fault_place (sym (err_is {A = Attribute × List ℕ} g f same))

    judged : (run after : List ℕ) → run_at len end bytes ≡ Ok (run, after) → (found : Reading Attribute) → inner (place end after) run ≡ found → whole at (place end after) after found ≡ Err f → Stops (within at len inner) (IsInContent contents pool) end bytes f ⊎ IsAt at f
    judged run after is (Ok x) was e = elim (cases_Bool (eqb (length x.1) 0)) [
      | inl y ↦ absurd (let bad : Ok (x.0, after) ≡ Err f = rw y at e in cc)
      | inr g ↦ inr (here (bad_attribute at (goes_on (place (place end after) x.1) (place end after))) (rw g at e))
    ]
    judged run after is (Err g) was e = elim (cases_Bool (is_cut g)) [
      | inl y ↦ inr (here (bad_attribute at (cut_within (fault_place g) (place end after))) (rw y at e))
      | inr n ↦ (let t = (run_reads len).takes end bytes run after are is in
          let same : g ≡ f = err_is {A = Attribute × List ℕ} g f (rw n at e) in
          let found : inner (place end after) run ≡ Err f = was ∙ ap (λ (h : Fault). Err h) same in
          inl (stops_at (within at len inner) (IsInContent contents pool) end bytes f (none (some run (place end after) g t.0.0 was n))
          (inr (record { stand = stand; name = name; at = at; content = run; back = after; parts = t.1.parts; named = named; begins = omega (arith, room); found = found }))))
    ]
      where
        some : (run : List ℕ) (p : ℕ) (g : Fault) → length run ≡ len → inner p run ≡ Err g → is_cut g ≡ false → 0 < len
        some [] p g size was plain = absurd (let h : true ≡ false = sym (nothing p g was) ∙ plain in cc)
        some (b ∷ run) p g size was plain = omega (arith, size)

    go : Failed (run_at len end bytes) behind f → Stops (within at len inner) (IsInContent contents pool) end bytes f ⊎ IsAt at f
    go (first is) = elim (cases_Bool (ltb (length bytes) len)) [
      | inl y ↦ (let long = ltb-true (length bytes) len y in
          inl (stops_here (within at len inner) (IsInContent contents pool) end bytes f (none (omega (arith, long))) (ap fault_place (sym (err_is {A = List ℕ × List ℕ} (cut_short (place end bytes)) f (rw y at is))))))
      | inr g ↦ absurd (let bad : Ok (take len bytes, drop len bytes) ≡ Err f = rw g at is in cc)
    ]
    go (later run is is') = judged run.0 run.1 is (inner (place end run.1) run.0) refl is'
