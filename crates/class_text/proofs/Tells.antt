-- What a fault says of the file, for readers made of readers.
use Rattle.std.proofs.Common.{◌≡◌, ℕ, zero, suc, eqb, ltb, ◌+◌, ◌^◌, ◌<◌, ◌≤◌, Bool, true, false, cond, List, [], ◌∷◌, ◌++◌, length, take, drop, flat_map, Ok, Err, refl, sym, ap, subst, ◌∙◌, append_assoc, append-nil, arith, inl, inr}
use Rattle.std.specs.Int.{Width, byte_len, from_be_bytes, w16, w32, to_be_bytes}
use Rattle.std.proofs.lemmas.Bool.{cases_Bool, ltb-true, eqb-false}
use Rattle.std.proofs.lemmas.List.{length-append}
use Rattle.std.proofs.lemmas.Grind.{flat_map-append}
use Rattle.class_text.specs.Reading.{Fault, cut_short, astray, bad_attribute, cut_within, goes_on, fault_place, is_cut, Reading, place, IsBytes}
use Rattle.class_text.specs.Readers.{Reader, u1_at, u2_at, u4_at, index_at, many_after, counted_at, counted_after, run_at, whole, within}
use Rattle.class_text.specs.Meanings.{StandsAt, IsLeftOver}
use Rattle.class_text.proofs.Numbers.{bind_ok, ok_is}
use Rattle.class_text.proofs.Places.{Failed, first, later, bind_err, err_is}
use Rattle.class_text.proofs.Readers.{Reads, bind}
use Rattle.class_text.proofs.Parts.{wide_at, u1_reads, u2_reads, u4_reads, run_reads}

-- bytes that stand in a file from a place on, and go on to an end
pub record IsIn (file : List ℕ) (start end : ℕ) (bytes : List ℕ) : Type 0 where
  pub front : List ℕ
  pub back : List ℕ
  pub parts : file ≡ front ++ (bytes ++ back)
  pub ends : end ≡ length front + length bytes
  pub low : start ≤ length front
  pub fits : IsBytes bytes

-- what stands behind a text
pub is_in_behind : (file : List ℕ) (start end : ℕ) (bytes text after : List ℕ) → IsIn file start end bytes → bytes ≡ text ++ after → IsBytes after → IsIn file start end after
is_in_behind file start end bytes text after i parts are =
    let size = ap length parts ∙ length-append text after in
    let front = length-append i.front text in
    record {
      front = i.front ++ text;
      back = i.back;
      parts = i.parts ∙ ap (λ (l : List ℕ). i.front ++ (l ++ i.back)) parts ∙ ap (λ (l : List ℕ). i.front ++ l) (append_assoc text after i.back) ∙ sym (append_assoc i.front text (after ++ i.back));
      ends = omega (arith, i.ends, size, front);
      low = omega (arith, i.low, front);
      fits = are;
    }

-- what stands before it
pub is_in_front : (file : List ℕ) (start end : ℕ) (bytes text after : List ℕ) → IsIn file start end bytes → bytes ≡ text ++ after → IsBytes text → IsIn file start (place end after) text
is_in_front file start end bytes text after i parts are =
    let size = ap length parts ∙ length-append text after in
    record {
      front = i.front;
      back = after ++ i.back;
      parts = i.parts ∙ ap (λ (l : List ℕ). i.front ++ (l ++ i.back)) parts ∙ ap (λ (l : List ℕ). i.front ++ l) (append_assoc text after i.back);
      ends = omega (arith, i.ends, size);
      low = i.low;
      fits = are;
    }

pub stands : (file : List ℕ) (start end : ℕ) (bytes text after : List ℕ) → IsIn file start end bytes → bytes ≡ text ++ after → StandsAt file (place end bytes) text
stands file start end bytes text after i parts = record {
  front = i.front;
  back = after ++ i.back;
  parts = i.parts ∙ ap (λ (l : List ℕ). i.front ++ (l ++ i.back)) parts ∙ ap (λ (l : List ℕ). i.front ++ l) (append_assoc text after i.back);
  here = omega (arith, i.ends);
}

-- Each fault of a reader says what holds of the file, and what is left behind a value stands in it.
pub record Tells {A : Type 0} (file : List ℕ) (start : ℕ) (M : ℕ → Fault → Type 0) (read : Reader A) : Type 0 where
  pub faults : (end : ℕ) (bytes : List ℕ) (f : Fault) → IsIn file start end bytes → read end bytes ≡ Err f → M end f
  pub rest : (end : ℕ) (bytes : List ℕ) (x : A) (after : List ℕ) → IsIn file start end bytes → read end bytes ≡ Ok (x, after) → IsIn file start end after

module _ (file : List ℕ) (start : ℕ) (M : ℕ → Fault → Type 0) where
  abbrev There : ℕ → List ℕ → Type 0
  There = IsIn file start

  pub give_tells : {A : Type 0} (x : A) → Tells file start M (λ end bytes. Ok (x, bytes))
  give_tells {A = A} x = record {
    faults = λ end bytes f i e. absurd cc;
    rest = λ end bytes y after i e. subst (There end) (ap (λ (p : A × List ℕ). p.1) (ok_is (x, bytes) (y, after) e)) i;
  }

  pub fail_tells : {A : Type 0} (f : Fault) → ((end : ℕ) → M end f) → Tells {A = A} file start M (λ end bytes. Err f)
  fail_tells {A = A} f m = record {
    faults = λ end bytes g i e. subst (M end) (err_is {A = A × List ℕ} f g e) (m end);
    rest = λ end bytes x after i e. absurd cc;
  }

  pub either_tells : {A : Type 0} (b : Bool) (one other : Reader A) → (b ≡ true → Tells file start M one) → (b ≡ false → Tells file start M other) → Tells file start M (λ end bytes. cond b (one end bytes) (other end bytes))
  either_tells true one other t u = t refl
  either_tells false one other t u = u refl

  -- one after another; what is known of the first where it begins is known to the second
  pub known_tells : {A B : Type 0} (read : Reader A) (K : ℕ → A → Type 0) (next : ℕ → A → Reader B) → Tells file start M read
      → ((end : ℕ) (bytes : List ℕ) (x : A) (after : List ℕ) → There end bytes → read end bytes ≡ Ok (x, after) → K (place end bytes) x)
      → ((at : ℕ) (x : A) → K at x → Tells file start M (next at x)) → Tells file start M (λ end bytes. bind read (next (place end bytes)) end bytes)
  known_tells {A = A} {B = B} read K next t known ts = record { faults = fault; rest = left }
    where
      fault : (end : ℕ) (bytes : List ℕ) (f : Fault) → There end bytes → bind read (next (place end bytes)) end bytes ≡ Err f → M end f
      fault end bytes f i e = go (bind_err (read end bytes) (λ x. next (place end bytes) x.0 end x.1) f e)
        where
          go : Failed (read end bytes) (λ x. next (place end bytes) x.0 end x.1) f → M end f
          go (first is) = t.faults end bytes f i is
          go (later x is is') = (ts (place end bytes) x.0 (known end bytes x.0 x.1 i is)).faults end x.1 f (t.rest end bytes x.0 x.1 i is) is'

      left : (end : ℕ) (bytes : List ℕ) (y : B) (after : List ℕ) → There end bytes → bind read (next (place end bytes)) end bytes ≡ Ok (y, after) → There end after
      left end bytes y after i e =
          let found = bind_ok (read end bytes) (λ x. next (place end bytes) x.0 end x.1) (y, after) e in
          (ts (place end bytes) found.0.0 (known end bytes found.0.0 found.0.1 i found.1)).rest end found.0.1 y after (t.rest end bytes found.0.0 found.0.1 i found.1) found.2

  pub then_tells : {A B : Type 0} (read : Reader A) (next : A → Reader B) → Tells file start M read → ((x : A) → Tells file start M (next x)) → Tells file start M (bind read next)
  then_tells read next t ts = known_tells read (λ at x. Unit {0}) (λ at. next) t (λ end bytes x after i e. tt) (λ at x k. ts x)

  pub made_tells : {A B : Type 0} (read : Reader A) (make : A → B) → Tells file start M read → Tells file start M (bind read (λ x end bytes. Ok (make x, bytes)))
  made_tells read make t = then_tells read (λ x end bytes. Ok (make x, bytes)) t (λ x. give_tells (make x))

  -- what is read stands where it begins
  abbrev pub Stood : {A : Type 0} → (A → Type 0) → (A → List ℕ) → ℕ → A → Type 0
  Stood P s at x = P x × StandsAt file at (s x) × (start ≤ at)

  pub here_tells : {A B : Type 0} (read : Reader A) (P : A → Type 0) (s : A → List ℕ) (next : ℕ → A → Reader B) → Reads read P s → Tells file start M read
      → ((at : ℕ) (x : A) → Stood P s at x → Tells file start M (next at x)) → Tells file start M (λ end bytes. bind read (next (place end bytes)) end bytes)
  here_tells {A = A} read P s next r t ts = known_tells read (Stood P s) next t known ts
    where
      known : (end : ℕ) (bytes : List ℕ) (x : A) (after : List ℕ) → There end bytes → read end bytes ≡ Ok (x, after) → Stood P s (place end bytes) x
      known end bytes x after i e =
          let taken = r.takes end bytes x after i.fits e in
          (taken.0, stands file start end bytes (s x) after i taken.1.parts, omega (arith, i.ends, i.low))

  pub bind_tells : {A B : Type 0} (read : Reader A) (P : A → Type 0) (s : A → List ℕ) (next : A → Reader B) → Reads read P s → Tells file start M read → ((x : A) → P x → Tells file start M (next x)) → Tells file start M (bind read next)
  bind_tells read P s next r t ts = here_tells read P s (λ at. next) r t (λ at x k. ts x k.0)

  -- ---- numbers, indices and lists

  abbrev pub Cuts : Type 0
  Cuts = (end : ℕ) (bytes : List ℕ) → There end bytes → length bytes < 2 ^ 32 → M end (cut_short (place end bytes))

  -- behind what was read by a reader of the grammar
  pub left_of : {A : Type 0} (read : Reader A) (P : A → Type 0) (s : A → List ℕ) → Reads read P s → (end : ℕ) (bytes : List ℕ) (x : A) (after : List ℕ) → There end bytes → read end bytes ≡ Ok (x, after) → There end after
  left_of read P s r end bytes x after i e =
      let taken = r.takes end bytes x after i.fits e in is_in_behind file start end bytes (s x) after i taken.1.parts taken.1.rest_fits

  wide_fault : Cuts → (w : Width) → byte_len w < 2 ^ 32 → (end : ℕ) (bytes : List ℕ) (f : Fault) → There end bytes → wide_at w end bytes ≡ Err f → M end f
  wide_fault cuts w small end bytes f i e = elim (cases_Bool (ltb (length bytes) (byte_len w))) [
    | inl y ↦ (let few = ltb-true (length bytes) (byte_len w) y in subst (M end) (err_is {A = ℕ × List ℕ} (cut_short (place end bytes)) f (rw y at e)) (cuts end bytes i (omega (arith, few, small))))
    | inr n ↦ absurd (let bad : Ok (from_be_bytes w (take (byte_len w) bytes), drop (byte_len w) bytes) ≡ Err f = rw n at e in cc)
  ]

  pub u2_tells : Cuts → Tells file start M u2_at
  unfolding u2_at
  u2_tells cuts = record { faults = wide_fault cuts w16 (omega arith); rest = left_of u2_at (λ n. n < 2 ^ 16) (to_be_bytes w16) u2_reads }

  pub u4_tells : Cuts → Tells file start M u4_at
  unfolding u4_at
  u4_tells cuts = record { faults = wide_fault cuts w32 (omega arith); rest = left_of u4_at (λ n. n < 2 ^ 32) (to_be_bytes w32) u4_reads }

  pub u1_tells : Cuts → Tells file start M u1_at
  unfolding u1_at
  u1_tells cuts = record { faults = fault; rest = left_of u1_at (λ n. n < 2 ^ 8) (λ n. n ∷ []) u1_reads }
    where
      fault : (end : ℕ) (bytes : List ℕ) (f : Fault) → There end bytes → u1_at end bytes ≡ Err f → M end f
      fault end [] f i e = subst (M end) (err_is {A = ℕ × List ℕ} (cut_short (place end [])) f e) (cuts end [] i (omega arith))
      fault end (b ∷ bytes) f i e = absurd cc

  pub index_tells : Cuts → (leads : ℕ → Bool) → ((end at n : ℕ) → StandsAt file at (to_be_bytes w16 n) → start ≤ at → leads n ≡ false → M end (astray at leads)) → Tells file start M (index_at leads)
  unfolding index_at
  index_tells cuts leads bad =
      here_tells u2_at (λ n. n < 2 ^ 16) (to_be_bytes w16) (λ at n end bytes. cond (leads n) (Ok (n, bytes)) (Err (astray at leads))) u2_reads (u2_tells cuts)
      (λ at n k. either_tells (leads n) (λ end bytes. Ok (n, bytes)) (λ end bytes. Err (astray at leads)) (λ y. give_tells n) (λ no. fail_tells (astray at leads) (λ end. bad end at n k.1 k.2 no)))

  pub many_tells : {A : Type 0} (one : List A → Reader A) → ((before : List A) → Tells file start M (one before)) → (n : ℕ) (before : List A) → Tells file start M (many_after one before n)
  unfolding many_after
  many_tells one each zero before = give_tells []
  many_tells {A = A} one each (suc n) before =
      then_tells (one before) (λ x. bind (many_after one (before ++ x ∷ []) n) (λ others end bytes. Ok (x ∷ others, bytes))) (each before)
      (λ x. made_tells (many_after one (before ++ x ∷ []) n) (λ (others : List A). x ∷ others) (many_tells one each n (before ++ x ∷ [])))

  pub counted_tells : Cuts → {A : Type 0} (one : List A → Reader A) → ((before : List A) → Tells file start M (one before)) → Tells file start M (counted_after one)
  unfolding counted_after
  counted_tells cuts one each = then_tells u2_at (many_after one []) (u2_tells cuts) (λ n. many_tells one each n [])

  pub each_tells : Cuts → {A : Type 0} (one : Reader A) → Tells file start M one → Tells file start M (counted_at one)
  each_tells cuts one t = counted_tells cuts (λ before. one) (λ before. t)

  -- ---- runs and contents of attributes

  pub run_tells : Cuts → (len : ℕ) → len < 2 ^ 32 → Tells file start M (run_at len)
  unfolding run_at
  run_tells cuts len small = record { faults = fault; rest = left_of (run_at len) (λ l. (length l ≡ len) × IsBytes l) (λ l. l) (run_reads len) }
    where
      fault : (end : ℕ) (bytes : List ℕ) (f : Fault) → There end bytes → run_at len end bytes ≡ Err f → M end f
      fault end bytes f i e = elim (cases_Bool (ltb (length bytes) len)) [
        | inl y ↦ (let few = ltb-true (length bytes) len y in subst (M end) (err_is {A = List ℕ × List ℕ} (cut_short (place end bytes)) f (rw y at e)) (cuts end bytes i (omega (arith, few, small))))
        | inr n ↦ absurd (let bad : Ok (take len bytes, drop len bytes) ≡ Err f = rw n at e in cc)
      ]

  -- What a fault other than a cut says holds whatever the end.
  abbrev pub Anywhere : Type 0
  Anywhere = (low high : ℕ) (g : Fault) → is_cut g ≡ false → M low g → M high g

  -- the content of the attribute at a place is cut where it says so, or something of it is left over
  abbrev pub Cut : ℕ → Type 0
  Cut at = (end stop : ℕ) (g : Fault) → is_cut g ≡ true → stop ≤ length file → M stop g → M end (bad_attribute at (cut_within (fault_place g) stop))

  abbrev pub Left : ℕ → Type 0
  Left at = (end from stop : ℕ) → IsLeftOver file from stop → M end (bad_attribute at (goes_on from stop))

  ends_in : (end : ℕ) (bytes : List ℕ) → There end bytes → end ≤ length file
  ends_in end bytes i = omega (arith, i.ends, ap length i.parts, length-append i.front (bytes ++ i.back), length-append bytes i.back)

  left_over : (stop : ℕ) (bytes : List ℕ) → There stop bytes → eqb (length bytes) 0 ≡ false → IsLeftOver file (place stop bytes) stop
  left_over stop bytes i some =
      let much = eqb-false (length bytes) 0 some in
      record { bytes = bytes; stands = stands file start stop bytes bytes [] i (sym (append-nil bytes)); some = omega (arith, much); ends = omega (arith, i.ends) }

  pub within_tells : {A : Type 0} → Cuts → Anywhere → (at len : ℕ) (inner : Reader A) → len < 2 ^ 32 → Cut at → Left at → Tells file start M inner → Tells file start M (within at len inner)
  unfolding within whole
  within_tells {A = A} cuts same at len inner small cut over t = record { faults = fault; rest = left }
    where
      behind : (end : ℕ) → List ℕ × List ℕ → Reading A
      behind end run = whole at (place end run.1) run.1 (inner (place end run.1) run.0)

      judged : (end stop : ℕ) (rest : List ℕ) (f : Fault) (found : Reading A) → stop ≤ length file → ((g : Fault) → found ≡ Err g → M stop g) → ((x : A) (after : List ℕ) → found ≡ Ok (x, after) → There stop after) → whole at stop rest found ≡ Err f → M end f
      judged end stop rest f (Ok x) within on behind e = elim (cases_Bool (eqb (length x.1) 0)) [
        | inl y ↦ absurd (let bad : Ok (x.0, rest) ≡ Err f = rw y at e in cc)
        | inr n ↦ subst (M end) (err_is {A = A × List ℕ} (bad_attribute at (goes_on (place stop x.1) stop)) f (rw n at e)) (over end (place stop x.1) stop (left_over stop x.1 (behind x.0 x.1 refl) n))
      ]
      judged end stop rest f (Err g) within on behind e = elim (cases_Bool (is_cut g)) [
        | inl y ↦ subst (M end) (err_is {A = A × List ℕ} (bad_attribute at (cut_within (fault_place g) stop)) f (rw y at e)) (cut end stop g y within (on g refl))
        | inr n ↦ subst (M end) (err_is {A = A × List ℕ} g f (rw n at e)) (same stop end g n (on g refl))
      ]

      fault : (end : ℕ) (bytes : List ℕ) (f : Fault) → There end bytes → within at len inner end bytes ≡ Err f → M end f
      fault end bytes f i e = go (bind_err (run_at len end bytes) (behind end) f e)
        where
          go : Failed (run_at len end bytes) (behind end) f → M end f
          go (first is) = (run_tells cuts len small).faults end bytes f i is
          go (later run is is') =
              let taken = (run_reads len).takes end bytes run.0 run.1 i.fits is in
              let there = is_in_front file start end bytes run.0 run.1 i taken.1.parts taken.0.1 in
              let stop = place end run.1 in
              judged end stop run.1 f (inner stop run.0) (ends_in stop run.0 there) (λ g e. t.faults stop run.0 g there e) (λ x after e. t.rest stop run.0 x after there e) is'

      kept : (stop : ℕ) (rest after : List ℕ) (x : A) (found : Reading A) → whole at stop rest found ≡ Ok (x, after) → rest ≡ after
      kept stop rest after x (Ok y) e = elim (cases_Bool (eqb (length y.1) 0)) [
        | inl t ↦ ap (λ (p : A × List ℕ). p.1) (ok_is (y.0, rest) (x, after) (rw t at e))
        | inr n ↦ absurd (let bad : Err (bad_attribute at (goes_on (place stop y.1) stop)) ≡ Ok (x, after) = rw n at e in cc)
      ]
      kept stop rest after x (Err g) e = absurd cc

      left : (end : ℕ) (bytes : List ℕ) (x : A) (after : List ℕ) → There end bytes → within at len inner end bytes ≡ Ok (x, after) → There end after
      left end bytes x after i e =
          let run = bind_ok (run_at len end bytes) (behind end) (x, after) e in
          subst (There end) (kept (place end run.0.1) run.0.1 after x (inner (place end run.0.1) run.0.0) run.2) ((run_tells cuts len small).rest end bytes run.0.0 run.0.1 i run.1)

-- ---- readers whose bytes stand right behind a text

module _ (file : List ℕ) (start : ℕ) (M : ℕ → Fault → Type 0) where
  -- each fault, where a text that begins at a place stands right before the bytes
  abbrev pub TellsBehind : {A : Type 0} → List ℕ → ℕ → Reader A → Type 0
  TellsBehind text from read = (end : ℕ) (bytes : List ℕ) (f : Fault) → IsIn file start end (text ++ bytes) → place end (text ++ bytes) ≡ from → IsBytes bytes → read end bytes ≡ Err f → M end f

  without : (text : List ℕ) (end : ℕ) (bytes : List ℕ) → IsIn file start end (text ++ bytes) → IsBytes bytes → IsIn file start end bytes
  without text end bytes i are = is_in_behind file start end (text ++ bytes) text bytes i refl are

  begins : (text : List ℕ) (from end : ℕ) (bytes : List ℕ) → IsIn file start end (text ++ bytes) → place end (text ++ bytes) ≡ from → place end bytes ≡ from + length text
  begins text from end bytes i at = omega (arith, i.ends, at, length-append text bytes)

  pub plain_behind : {A : Type 0} (text : List ℕ) (from : ℕ) (read : Reader A) → Tells file start M read → TellsBehind text from read
  plain_behind text from read t end bytes f i at are e = t.faults end bytes f (without text end bytes i are) e

  pub give_behind : {A : Type 0} (text : List ℕ) (from : ℕ) (x : A) → TellsBehind text from (λ end bytes. Ok (x, bytes))
  give_behind text from x end bytes f i at are e = absurd cc

  pub fail_behind : {A : Type 0} (text : List ℕ) (from : ℕ) (f : Fault) → ((end : ℕ) → StandsAt file from text → start ≤ from → M end f) → TellsBehind {A = A} text from (λ end bytes. Err f)
  fail_behind {A = A} text from f m end bytes g i at are e =
      let stood : StandsAt file from text = subst (λ (p : ℕ). StandsAt file p text) at (stands file start end (text ++ bytes) text bytes i refl) in
      subst (M end) (err_is {A = A × List ℕ} f g e) (m end stood (omega (arith, i.ends, i.low, at)))

  pub either_behind : {A : Type 0} (text : List ℕ) (from : ℕ) (b : Bool) (one other : Reader A) → (b ≡ true → TellsBehind text from one) → (b ≡ false → TellsBehind text from other) → TellsBehind text from (λ end bytes. cond b (one end bytes) (other end bytes))
  either_behind text from true one other t u = t refl
  either_behind text from false one other t u = u refl

  pub bind_behind : {A B : Type 0} (text : List ℕ) (from : ℕ) (read : Reader A) (P : A → Type 0) (s : A → List ℕ) (next : A → Reader B) → Reads read P s → TellsBehind text from read
      → ((x : A) → P x → StandsAt file (from + length text) (s x) × (start ≤ from + length text) → TellsBehind (text ++ s x) from (next x)) → TellsBehind text from (bind read next)
  bind_behind text from read P s next r t ts end bytes f i at are e = go (bind_err (read end bytes) (λ x. next x.0 end x.1) f e)
    where
      go : Failed (read end bytes) (λ x. next x.0 end x.1) f → M end f
      go (first is) = t end bytes f i at are is
      go (later x is is') =
          let taken = r.takes end bytes x.0 x.1 are is in
          let here = begins text from end bytes i at in
          let all : text ++ bytes ≡ (text ++ s x.0) ++ x.1 = ap (λ (l : List ℕ). text ++ l) taken.1.parts ∙ sym (append_assoc text (s x.0) x.1) in
          let there = without text end bytes i are in
          let stood : StandsAt file (from + length text) (s x.0) = subst (λ (p : ℕ). StandsAt file p (s x.0)) here (stands file start end bytes (s x.0) x.1 there taken.1.parts) in
          ts x.0 taken.0 (stood, omega (arith, there.ends, there.low, here)) end x.1 f (subst (IsIn file start end) all i) (ap (place end) (sym all) ∙ at) taken.1.rest_fits is'

  -- one that names the place where it begins
  pub here_behind : {A : Type 0} (text : List ℕ) (from : ℕ) (next : ℕ → Reader A) → TellsBehind text from (next (from + length text)) → TellsBehind text from (λ end bytes. next (place end bytes) end bytes)
  here_behind text from next t end bytes f i at are e = t end bytes f i at are (subst (λ (p : ℕ). next p end bytes ≡ Err f) (begins text from end bytes i at) e)

  -- by itself
  pub tells_of : {A : Type 0} (read : Reader A) (P : A → Type 0) (s : A → List ℕ) → Reads read P s → ((from : ℕ) → TellsBehind [] from read) → Tells file start M read
  tells_of read P s r t = record { faults = λ end bytes f i e. t (place end bytes) end bytes f i refl i.fits e; rest = left_of file start M read P s r }

  pub many_behind : {A : Type 0} (one : List A → Reader A) (P : List A → A → Type 0) (s : A → List ℕ) → ((before : List A) → Reads (one before) (P before) s) → ((before : List A) (from : ℕ) → TellsBehind (flat_map s before) from (one before))
      → (n : ℕ) (before : List A) (from : ℕ) → TellsBehind (flat_map s before) from (many_after one before n)
  unfolding many_after
  many_behind one P s r t zero before from = λ end bytes f i at are e. absurd cc
  many_behind {A = A} one P s r t (suc n) before from =
      bind_behind (flat_map s before) from (one before) (P before) s (λ x. bind (many_after one (before ++ x ∷ []) n) (λ others end bytes. Ok (x ∷ others, bytes))) (r before) (t before from)
      (λ x p stood. let same : flat_map s (before ++ x ∷ []) ≡ flat_map s before ++ s x = flat_map-append s before (x ∷ []) ∙ ap (λ (l : List ℕ). flat_map s before ++ l) (append-nil (s x)) in
      subst (λ (l : List ℕ). TellsBehind l from (bind (many_after one (before ++ x ∷ []) n) (λ others end bytes. Ok (x ∷ others, bytes)))) same (made x (before ++ x ∷ []) (many_behind one P s r t n (before ++ x ∷ []) from)))
    where
      made : (x : A) (earlier : List A) → TellsBehind (flat_map s earlier) from (many_after one earlier n) → TellsBehind (flat_map s earlier) from (bind (many_after one earlier n) (λ others end bytes. Ok (x ∷ others, bytes)))
      made x earlier u end bytes f i at are e = go (bind_err (many_after one earlier n end bytes) (λ others. Ok (x ∷ others.0, others.1)) f e)
        where
          go : Failed {B = List A × List ℕ} (many_after one earlier n end bytes) (λ others. Ok (x ∷ others.0, others.1)) f → M end f
          go (first is) = u end bytes f i at are is
          go (later others is is') = absurd cc

  -- items that are read knowing those before them, which stand right before
  pub counted_behind : {A : Type 0} → Cuts file start M → (one : List A → Reader A) (P : List A → A → Type 0) (s : A → List ℕ) (Q : List A → Type 0) (all : List A → List ℕ) → ((before : List A) → Reads (one before) (P before) s)
      → ((before : List A) (from : ℕ) → TellsBehind (flat_map s before) from (one before)) → Reads (counted_after one) Q all → Tells file start M (counted_after one)
  unfolding counted_after
  counted_behind cuts one P s Q all r t rs =
      tells_of (counted_after one) Q all rs
      (λ from. bind_behind [] from u2_at (λ n. n < 2 ^ 16) (to_be_bytes w16) (many_after one []) u2_reads (plain_behind [] from u2_at (u2_tells file start M cuts))
      (λ n p stood end bytes f i at are e. many_behind one P s r t n [] (place end bytes) end bytes f (without (to_be_bytes w16 n) end bytes i are) refl are e))
