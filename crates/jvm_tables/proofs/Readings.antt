-- What a reading answers, and that it answers the same on bytes that begin alike.
use Rattle.std.proofs.Common.{◌≡◌, ℕ, ◌+◌, ◌-◌, ◌<◌, ◌≤◌, List, [], ◌∷◌, Bool, true, false, cond, Result, Ok, Err, refl, sym, ◌∙◌, ap, subst, arith, length, get_or, drop, nat_lt}
use Rattle.std.specs.Int.{w16, from_be_bytes}
use Rattle.std.proofs.lemmas.Bool.{ltb-true, lt-ltb}
use Rattle.std.proofs.lemmas.Grind.{get_or_after_one}
use Rattle.std.proofs.lemmas.List.{length-drop}
use Rattle.jvm_tables.specs.declared.code.CodeFault.{CodeFault}
use Rattle.jvm_tables.specs.declared.code.CodeFault.TheVariants.{CutShort}
use Rattle.jvm_tables.specs.Switches.{◌>>=◌, byte_at, short_at, word, word_at}

-- where it answers, the answer has the property
abbrev pub Sure : {A : Type 0} → Result A CodeFault → (A → Type 0) → Type 0
Sure {A} r P = (x : A) → r ≡ Ok x → P x

pub sure_ok : {A : Type 0} (y : A) (P : A → Type 0) → P y → Sure (Ok y) P
sure_ok y P p x e = let same : y ≡ x = cc in subst P same p

pub sure_err : {A : Type 0} (fault : CodeFault) (P : A → Type 0) → Sure (Err fault) P
sure_err fault P x e = cc

pub sure_bind : {A B : Type 0} (r : Result A CodeFault) (f : A → Result B CodeFault) (P : A → Type 0) (Q : B → Type 0) → Sure r P → ((x : A) → P x → Sure (f x) Q) → Sure (r >>= f) Q
sure_bind (Ok x) f P Q p q y e = q x (p x refl) y e
sure_bind (Err z) f P Q p q y e = cc

pub sure_if : {A : Type 0} (b : Bool) (r s : Result A CodeFault) (P : A → Type 0) → (b ≡ true → Sure r P) → (b ≡ false → Sure s P) → Sure (cond b r s) P
sure_if true r s P t f = t refl
sure_if false r s P t f = f refl

-- the second answers whatever the first does
abbrev pub Keeps : {A : Type 0} → Result A CodeFault → Result A CodeFault → Type 0
Keeps {A} r s = (x : A) → r ≡ Ok x → s ≡ Ok x

pub keeps_bind : {A B : Type 0} (r s : Result A CodeFault) (f g : A → Result B CodeFault) → Keeps r s → ((x : A) → Keeps (f x) (g x)) → Keeps (r >>= f) (s >>= g)
keeps_bind (Ok x) s f g h k y e = rw (h x refl) (k x y e)
keeps_bind (Err z) s f g h k y e = cc

-- the bytes are at least as many, and so many of them are the same
pub record Prefix (n : ℕ) (a b : List ℕ) : Type 0 where
  pub enough : n ≤ length b
  pub same : (i : ℕ) → i < n → get_or a i 0 ≡ get_or b i 0

pub prefix_less : (m n : ℕ) (a b : List ℕ) → Prefix n a b → m ≤ n → Prefix m a b
prefix_less m n a b p h = let enough : n ≤ length b = p.enough in record { enough = omega arith; same = λ i less. p.same i (omega arith) }

pub prefix_rest : (n : ℕ) (a b : List ℕ) → Prefix n a b → Prefix (n - 1) (drop 1 a) (drop 1 b)
prefix_rest n a b p =
    let enough : n ≤ length b = p.enough in
    record {
      enough = omega (arith, length-drop 1 b);
      same = λ i less. get_or_after_one a i 0 ∙ p.same (1 + i) (omega arith) ∙ sym (get_or_after_one b i 0);
    }

pub sure_byte : (a : List ℕ) (at : ℕ) → Sure (byte_at a at) (λ n. (at < length a) × (get_or a at 0 ≡ n))
sure_byte a at =
    sure_if (nat_lt at (length a)) (Ok (get_or a at 0)) (Err CutShort) _
    (λ t. sure_ok _ _ (ltb-true at (length a) t, refl)) (λ f. sure_err CutShort _)

pub sure_short : (a : List ℕ) (at : ℕ) → Sure (short_at a at) (λ n. at + 1 < length a)
sure_short a at =
    sure_if (nat_lt (at + 1) (length a)) _ (Err CutShort) _
    (λ t. sure_ok _ _ (ltb-true (at + 1) (length a) t)) (λ f. sure_err CutShort _)

pub sure_word : (a : List ℕ) (at : ℕ) → Sure (word_at a at) (λ z. (at + 3 < length a) × (word a at ≡ z))
sure_word a at =
    sure_if (nat_lt (at + 3) (length a)) (Ok (word a at)) (Err CutShort) _
    (λ t. sure_ok _ _ (ltb-true (at + 3) (length a) t, refl)) (λ f. sure_err CutShort _)

pub keeps_byte : (n : ℕ) (a b : List ℕ) (at : ℕ) → Prefix n a b → at < n → Keeps (byte_at a at) (byte_at b at)
keeps_byte n a b at p h x e =
    let enough : n ≤ length b = p.enough in
    let within : nat_lt at (length b) ≡ true = lt-ltb at (length b) (omega arith) in
    rw within (ap Ok (sym (p.same at h) ∙ (sure_byte a at x e).1))

same_short : (n : ℕ) (a b : List ℕ) (at : ℕ) → Prefix n a b → at + 1 < n → from_be_bytes w16 (get_or b at 0 ∷ get_or b (at + 1) 0 ∷ []) ≡ from_be_bytes w16 (get_or a at 0 ∷ get_or a (at + 1) 0 ∷ [])
same_short n a b at p h =
    let first : get_or a at 0 ≡ get_or b at 0 = p.same at (omega arith) in
    let second : get_or a (at + 1) 0 ≡ get_or b (at + 1) 0 = p.same (at + 1) (omega arith) in
    cc

pub keeps_short : (n : ℕ) (a b : List ℕ) (at : ℕ) → Prefix n a b → at + 1 < n → Keeps (short_at a at) (short_at b at)
keeps_short n a b at p h x e =
    let enough : n ≤ length b = p.enough in
    let within : nat_lt (at + 1) (length b) ≡ true = lt-ltb (at + 1) (length b) (omega arith) in
    let first_within : nat_lt (at + 1) (length a) ≡ true = lt-ltb (at + 1) (length a) (sure_short a at x e) in
    let was : from_be_bytes w16 (get_or a at 0 ∷ get_or a (at + 1) 0 ∷ []) ≡ x = cc (rw first_within at e) in
    rw within (ap Ok (same_short n a b at p h ∙ was))

pub same_word : (n : ℕ) (a b : List ℕ) (at : ℕ) → Prefix n a b → at + 3 < n → word a at ≡ word b at
unfolding word
same_word n a b at p h =
    let first : get_or a at 0 ≡ get_or b at 0 = p.same at (omega arith) in
    let second : get_or a (at + 1) 0 ≡ get_or b (at + 1) 0 = p.same (at + 1) (omega arith) in
    let third : get_or a (at + 2) 0 ≡ get_or b (at + 2) 0 = p.same (at + 2) (omega arith) in
    let fourth : get_or a (at + 3) 0 ≡ get_or b (at + 3) 0 = p.same (at + 3) (omega arith) in
    cc

pub keeps_word : (n : ℕ) (a b : List ℕ) (at : ℕ) → Prefix n a b → at + 3 < n → Keeps (word_at a at) (word_at b at)
keeps_word n a b at p h x e =
    let enough : n ≤ length b = p.enough in
    let within : nat_lt (at + 3) (length b) ≡ true = lt-ltb (at + 3) (length b) (omega arith) in
    rw within (ap Ok (sym (same_word n a b at p h) ∙ (sure_word a at x e).1))
