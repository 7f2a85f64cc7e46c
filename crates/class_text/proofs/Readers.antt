-- What holds of a reader, and of readers made of readers.
use Rattle.std.proofs.Common.{◌≡◌, ℕ, ◌+◌, Bool, true, false, cond, List, [], ◌++◌, length, Ok, Err, refl, sym, ap, subst, ◌∙◌, append_assoc, append-nil, arith}
use Rattle.std.proofs.lemmas.List.{length-append}
use Rattle.class_text.specs.Reading.{Fault, is_cut, Reading, ◌>>=◌, place, IsBytes}
use Rattle.class_text.specs.Readers.{Reader}
use Rattle.class_text.proofs.Numbers.{bind_ok, ok_is, Takes, Takes-then}
use Rattle.class_text.proofs.Places.{Failed, first, later, bind_err}

-- What is read has a shape and is spelled by the bytes that it takes, each such spelling is read, whatever follows, and
-- a fault other than a cut stays under any bytes that follow.
pub record Reads {A : Type 0} (read : Reader A) (P : A → Type 0) (spell : A → List ℕ) : Type 0 where
  pub takes : (end : ℕ) (bytes : List ℕ) (x : A) (rest : List ℕ) → IsBytes bytes → read end bytes ≡ Ok (x, rest) → P x × Takes bytes (spell x) rest
  pub again : (end : ℕ) (x : A) (rest : List ℕ) → P x → read end (spell x ++ rest) ≡ Ok (x, rest)
  pub stays : (end : ℕ) (bytes more : List ℕ) (f : Fault) → IsBytes bytes → is_cut f ≡ false → read end bytes ≡ Err f → read (end + length more) (bytes ++ more) ≡ Err f

-- the same of a reader whose bytes are all there is
pub record ReadsAll {A : Type 0} (read : Reader A) (P : A → Type 0) (spell : A → List ℕ) : Type 0 where
  pub takes : (end : ℕ) (bytes : List ℕ) (x : A) → IsBytes bytes → read end bytes ≡ Ok (x, []) → P x × (bytes ≡ spell x)
  pub again : (end : ℕ) (x : A) → P x → read end (spell x) ≡ Ok (x, [])

pub all_reads : {A : Type 0} (read : Reader A) (P : A → Type 0) (s : A → List ℕ) → Reads read P s → ReadsAll read P s
all_reads read P s r = record {
  takes = λ end bytes x are e. let t = r.takes end bytes x [] are e in (t.0, t.1.parts ∙ append-nil (s x));
  again = λ end x p. ap (read end) (sym (append-nil (s x))) ∙ r.again end x [] p;
}

-- the same, said in other words
pub as_reads : {A : Type 0} (read : Reader A) (P : A → Type 0) (s : A → List ℕ) (Q : A → Type 0) (t : A → List ℕ)
    → Reads read P s → ((x : A) → P x → Q x) → ((x : A) → Q x → P x) → ((x : A) → Q x → s x ≡ t x) → Reads read Q t
as_reads read P s Q t r on back same = record {
  takes = λ end bytes x rest are e. let h = r.takes end bytes x rest are e in (on x h.0, subst (λ (l : List ℕ). Takes bytes l rest) (same x (on x h.0)) h.1);
  again = λ end x rest q. ap (λ (l : List ℕ). read end (l ++ rest)) (sym (same x q)) ∙ r.again end x rest (back x q);
  stays = r.stays;
}

pub as_reads_all : {A : Type 0} (read : Reader A) (P : A → Type 0) (s : A → List ℕ) (Q : A → Type 0) (t : A → List ℕ)
    → ReadsAll read P s → ((x : A) → P x → Q x) → ((x : A) → Q x → P x) → ((x : A) → Q x → s x ≡ t x) → ReadsAll read Q t
as_reads_all read P s Q t r on back same = record {
  takes = λ end bytes x are e. let h = r.takes end bytes x are e in (on x h.0, h.1 ∙ same x (on x h.0));
  again = λ end x q. ap (read end) (sym (same x q)) ∙ r.again end x (back x q);
}

-- What was read is read, whatever follows.
pub reads_on : {A : Type 0} (read : Reader A) (P : A → Type 0) (s : A → List ℕ) → Reads read P s
    → (end : ℕ) (bytes more : List ℕ) (x : A) (rest : List ℕ) → IsBytes bytes → read end bytes ≡ Ok (x, rest) → read (end + length more) (bytes ++ more) ≡ Ok (x, rest ++ more)
reads_on read P s r end bytes more x rest are e =
    let t = r.takes end bytes x rest are e in
    ap (read (end + length more)) (ap (λ (l : List ℕ). l ++ more) t.1.parts ∙ append_assoc (s x) rest more) ∙ r.again (end + length more) x (rest ++ more) t.0

-- nothing
pub give_reads : {A : Type 0} (x : A) → Reads (λ end bytes. Ok (x, bytes)) (λ y. y ≡ x) (λ y. [])
give_reads {A = A} x = record {
  takes = λ end bytes y rest are e.
      let same = ok_is (x, bytes) (y, rest) e in
      (ap (λ (p : A × List ℕ). p.0) (sym same), record { parts = ap (λ (p : A × List ℕ). p.1) same; rest_fits = subst IsBytes (ap (λ (p : A × List ℕ). p.1) same) are });
  again = λ end y rest is. ap (λ (z : A). Ok (z, rest)) (sym is);
  stays = λ end bytes more f are whole e. absurd cc;
}

-- one after another; from the second the first is known
abbrev pub bind : {A B : Type 0} → Reader A → (A → Reader B) → Reader B
bind read next end bytes = read end bytes >>= (λ x. next x.0 end x.1)

pub bind_reads : {A B : Type 0} (read : Reader A) (P : A → Type 0) (s : A → List ℕ) (next : A → Reader B) (Q : A → B → Type 0) (t : A → B → List ℕ) (back : B → A)
    → Reads read P s → ((x : A) → P x → Reads (next x) (Q x) (t x)) → ((x : A) (y : B) → Q x y → back y ≡ x)
    → Reads (bind read next) (λ y. P (back y) × Q (back y) y) (λ y. s (back y) ++ t (back y) y)
bind_reads {A = A} {B = B} read P s next Q t back r rs known = record { takes = takes_both; again = again_both; stays = stays_both }
  where
    takes_both : (end : ℕ) (bytes : List ℕ) (y : B) (rest : List ℕ) → IsBytes bytes → bind read next end bytes ≡ Ok (y, rest) → (P (back y) × Q (back y) y) × Takes bytes (s (back y) ++ t (back y) y) rest
    takes_both end bytes y rest are e =
        let found = bind_ok (read end bytes) (λ x. next x.0 end x.1) (y, rest) e in
        let one = r.takes end bytes found.0.0 found.0.1 are found.1 in
        let two = (rs found.0.0 one.0).takes end found.0.1 y rest one.1.rest_fits found.2 in
        let both = Takes-then bytes (s found.0.0) found.0.1 (t found.0.0 y) rest one.1 two.1 in
        subst (λ (z : A). (P z × Q z y) × Takes bytes (s z ++ t z y) rest) (sym (known found.0.0 y two.0)) ((one.0, two.0), both)

    again_both : (end : ℕ) (y : B) (rest : List ℕ) → P (back y) × Q (back y) y → bind read next end ((s (back y) ++ t (back y) y) ++ rest) ≡ Ok (y, rest)
    again_both end y rest p =
        let z = back y in
        let one : read end ((s z ++ t z y) ++ rest) ≡ Ok (z, t z y ++ rest) = ap (read end) (append_assoc (s z) (t z y) rest) ∙ r.again end z (t z y ++ rest) p.0 in
        ap (λ (found : Reading A). found >>= (λ x. next x.0 end x.1)) one ∙ (rs z p.0).again end y rest p.1

    stays_both : (end : ℕ) (bytes more : List ℕ) (f : Fault) → IsBytes bytes → is_cut f ≡ false → bind read next end bytes ≡ Err f → bind read next (end + length more) (bytes ++ more) ≡ Err f
    stays_both end bytes more f are plain e = go (bind_err (read end bytes) (λ x. next x.0 end x.1) f e)
      where
        go : Failed (read end bytes) (λ x. next x.0 end x.1) f → bind read next (end + length more) (bytes ++ more) ≡ Err f
        go (first is) = ap (λ (found : Reading A). found >>= (λ x. next x.0 (end + length more) x.1)) (r.stays end bytes more f are plain is)
        go (later x is is') =
            let t' = r.takes end bytes x.0 x.1 are is in
            ap (λ (found : Reading A). found >>= (λ z. next z.0 (end + length more) z.1)) (reads_on read P s r end bytes more x.0 x.1 are is)
            ∙ (rs x.0 t'.0).stays end x.1 more f t'.1.rest_fits plain is'

-- a reading under a condition
pub unless_reads : {A : Type 0} (b : Bool) (f : Fault) (read : Reader A) (P : A → Type 0) (s : A → List ℕ)
    → (b ≡ true → Reads read P s) → Reads (λ end bytes. cond b (read end bytes) (Err f)) (λ x. (b ≡ true) × P x) s
unless_reads true f read P s r = let h = r refl in as_reads read P s (λ x. (true ≡ true) × P x) s h (λ x p. (refl, p)) (λ x q. q.1) (λ x q. refl)
unless_reads false f read P s r = record {
  takes = λ end bytes x rest are e. absurd cc;
  again = λ end x rest q. absurd (let h : false ≡ true = q.0 in cc);
  stays = λ end bytes more g are plain e. e;
}

-- the same of a condition that does not hold
pub except_reads : {A : Type 0} (b : Bool) (f : Fault) (read : Reader A) (P : A → Type 0) (s : A → List ℕ)
    → (b ≡ false → Reads read P s) → Reads (λ end bytes. cond b (Err f) (read end bytes)) (λ x. (b ≡ false) × P x) s
except_reads false f read P s r = let h = r refl in as_reads read P s (λ x. (false ≡ false) × P x) s h (λ x p. (refl, p)) (λ x q. q.1) (λ x q. refl)
except_reads true f read P s r = record {
  takes = λ end bytes x rest are e. absurd cc;
  again = λ end x rest q. absurd (let h : true ≡ false = q.0 in cc);
  stays = λ end bytes more g are plain e. e;
}

-- one of two
pub either_reads : {A : Type 0} (b : Bool) (one other : Reader A) (P : A → Type 0) (s : A → List ℕ)
    → (b ≡ true → Reads one P s) → (b ≡ false → Reads other P s) → Reads (λ end bytes. cond b (one end bytes) (other end bytes)) P s
either_reads true one other P s r q = r refl
either_reads false one other P s r q = q refl

-- one that names the place where it begins
pub place_on : (end : ℕ) (bytes more : List ℕ) → place (end + length more) (bytes ++ more) ≡ place end bytes
place_on end bytes more = omega (arith, length-append bytes more)

pub here_reads : {A : Type 0} (next : ℕ → Reader A) (P : A → Type 0) (s : A → List ℕ) → ((at : ℕ) → Reads (next at) P s) → Reads (λ end bytes. next (place end bytes) end bytes) P s
here_reads next P s r = record {
  takes = λ end bytes x rest are e. (r (place end bytes)).takes end bytes x rest are e;
  again = λ end x rest p. (r (place end (s x ++ rest))).again end x rest p;
  stays = λ end bytes more f are plain e.
      ap (λ (at : ℕ). next at (end + length more) (bytes ++ more)) (place_on end bytes more) ∙ (r (place end bytes)).stays end bytes more f are plain e;
}

-- a reading that is refused
pub no_reads : {A : Type 0} (f : Fault) (P : A → Type 0) (s : A → List ℕ) → ((x : A) → P x → ⊥) → Reads (λ end bytes. Err f) P s
no_reads f P s none = record {
  takes = λ end bytes x rest are e. absurd cc;
  again = λ end x rest p. absurd (none x p);
  stays = λ end bytes more g are plain e. e;
}

-- a reader of a part, and what is made of it
pub made_reads : {A B : Type 0} (read : Reader A) (P : A → Type 0) (s : A → List ℕ) (make : A → B) (back : B → A) → ((x : A) → back (make x) ≡ x) → Reads read P s
    → Reads (bind read (λ x end bytes. Ok (make x, bytes))) (λ y. P (back y) × (y ≡ make (back y))) (λ y. s (back y))
made_reads {A = A} read P s make back known r =
    as_reads (bind read (λ x end bytes. Ok (make x, bytes))) _ _ (λ y. P (back y) × (y ≡ make (back y))) (λ y. s (back y))
    (bind_reads read P s (λ x end bytes. Ok (make x, bytes)) (λ x y. y ≡ make x) (λ x y. []) back r (λ x p. give_reads (make x)) (λ x y q. ap back q ∙ known x))
    (λ y p. p) (λ y p. p) (λ y p. append-nil (s (back y)))

-- What is made of a part is one level of a value; `out` opens it.
pub layer_reads : {A E L : Type 0} (roll : L → E) (out : E → L) → ((l : L) → out (roll l) ≡ l) → ((e : E) → roll (out e) ≡ e)
    → (read : Reader A) (P : A → Type 0) (s : A → List ℕ) (make : A → L) (back : L → A) → ((x : A) → back (make x) ≡ x) → (Q : L → Type 0) (t : L → List ℕ) → Reads read P s
    → ((x : A) → P x → Q (make x)) → ((l : L) → Q l → P (back l) × (l ≡ make (back l))) → ((x : A) → P x → s x ≡ t (make x))
    → Reads (bind read (λ x end bytes. Ok (roll (make x), bytes))) (λ e. Q (out e)) (λ e. t (out e))
layer_reads roll out out_roll roll_out read P s make back known Q t r on from same =
    as_reads (bind read (λ x end bytes. Ok (roll (make x), bytes))) (λ e. P (back (out e)) × (e ≡ roll (make (back (out e))))) (λ e. s (back (out e))) (λ e. Q (out e)) (λ e. t (out e))
    (made_reads read P s (λ x. roll (make x)) (λ e. back (out e)) (λ x. ap back (out_roll (make x)) ∙ known x) r)
    (λ e p. let opened = ap out p.1 ∙ out_roll (make (back (out e))) in subst Q (sym opened) (on (back (out e)) p.0))
    (λ e q. let b = from (out e) q in (b.0, sym (roll_out e) ∙ ap roll b.1))
    (λ e q. let b = from (out e) q in same (back (out e)) b.0 ∙ ap t (sym b.1))

-- ---- where the bytes are all there is

pub either_reads_all : {A : Type 0} (b : Bool) (one other : Reader A) (P : A → Type 0) (s : A → List ℕ)
    → (b ≡ true → ReadsAll one P s) → (b ≡ false → ReadsAll other P s) → ReadsAll (λ end bytes. cond b (one end bytes) (other end bytes)) P s
either_reads_all true one other P s r q = r refl
either_reads_all false one other P s r q = q refl
