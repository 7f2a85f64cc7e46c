-- What holds of the reader of class files.
use Rattle.std.proofs.Common.{◌≡◌, ℕ, eqb, leb, ◌+◌, ◌^◌, ◌<◌, ◌≤◌, true, false, cond, ◌&&◌, List, [], ◌∷◌, ◌++◌, length, codes, bytes_eq, unwrap_or, Result, Ok, Err, refl, sym, ap, subst, ◌∙◌, append_assoc, append-nil, arith, inl, inr}
use Rattle.std.specs.Int.{w16, w32, to_be_bytes}
use Rattle.std.proofs.lemmas.Bool.{cases_Bool, eqb-true, ne_eqb, and_parts, and_from, leb-true, le-leb}
use Rattle.std.proofs.lemmas.List.{length-append}
use Rattle.class_model.specs.declared.constant_pool.Pool.{Pool}
use Rattle.class_model.specs.declared.class_file.Class.{Class}
use Rattle.class_model.specs.declared.class_file.Member.{Member}
use Rattle.class_model.specs.ClassNames.{is_class_name}
use Rattle.class_model.specs.Constants.{class_at, is_some_that, IsPool}
use Rattle.class_model.specs.Annotations.{IsCounted}
use Rattle.class_model.specs.Attributes.{in_class, IsAttributes}
use Rattle.class_model.specs.Shape.{is_plain_class, class_name, has_super, IsField, IsMethod, IsMembers, Shaped}
use Rattle.class_model.specs.Spelling as spelling
use Rattle.class_text.specs.Reading.{Fault, bad_magic, bad_major, bytes_left, is_cut, Reading, ◌>>=◌, place, IsBytes}
use Rattle.class_text.specs.Readers.{u2_at, u4_at, index_at, counted_at, counted_after}
use Rattle.class_text.specs.Pool.{pool_at}
use Rattle.class_text.specs.Attributes.{attributes_at}
use Rattle.class_text.specs.Classes.{field_at, method_at, leads_to_super, minor_at, major_at, behind_pool_at, class_at_front, class_of}
use Rattle.class_text.proofs.Numbers.{bind_ok}
use Rattle.class_text.proofs.Places.{Failed, first, later, bind_err}
use Rattle.class_text.proofs.Pools.{pool_taken, pool_again}
use Rattle.class_text.proofs.Continued.{pool_more}
use Rattle.class_text.proofs.Readers.{Reads, as_reads, give_reads, made_reads, reads_on, bind, bind_reads, unless_reads, place_on}
use Rattle.class_text.proofs.Steps.{class_made, class_attributes, class_methods, class_fields, class_interfaces, class_super, class_this}
use Rattle.class_text.proofs.Parts.{u2_reads, u4_reads, index_reads, each_counted}
use Rattle.class_text.proofs.Numbered.{IsFew, some_that, numbered_class}
use Rattle.class_text.proofs.CodeLaws.{plain_attributes_of}
use Rattle.class_text.proofs.MemberLaws.{fields_read, methods_read}

pub pool_reads : Reads pool_at IsPool spelling.pool
pool_reads = record { takes = pool_taken; again = pool_again; stays = pool_more }

-- ---- the front of a file

pub minor_reads : Reads minor_at (λ n. n < 2 ^ 16) (λ n. to_be_bytes w32 spelling.magic ++ to_be_bytes w16 n)
unfolding minor_at
minor_reads =
    as_reads minor_at (λ n. (spelling.magic < 2 ^ 32) × ((eqb spelling.magic spelling.magic ≡ true) × (n < 2 ^ 16))) (λ n. to_be_bytes w32 spelling.magic ++ to_be_bytes w16 n) (λ n. n < 2 ^ 16) (λ n. to_be_bytes w32 spelling.magic ++ to_be_bytes w16 n)
    (bind_reads u4_at (λ n. n < 2 ^ 32) (to_be_bytes w32) (λ found end bytes. cond (eqb found spelling.magic) (u2_at end bytes) (Err bad_magic)) (λ found n. (eqb found spelling.magic ≡ true) × (n < 2 ^ 16)) (λ found n. to_be_bytes w16 n) (λ n. spelling.magic) u4_reads
    (λ found low. unless_reads (eqb found spelling.magic) bad_magic u2_at (λ n. n < 2 ^ 16) (to_be_bytes w16) (λ y. u2_reads)) (λ found n q. sym (eqb-true found spelling.magic q.0)))
    (λ n p. p.1.1) (λ n q. (omega arith, (refl, q))) (λ n q. refl)

pub IsMajor : ℕ → Type 0
IsMajor n = (52 ≤ n) × (n ≤ 65)

pub major_reads : Reads major_at IsMajor (to_be_bytes w16)
unfolding major_at IsMajor
major_reads =
    as_reads major_at (λ n. (n < 2 ^ 16) × (((leb 52 n && leb n 65) ≡ true) × (n ≡ n))) (λ n. to_be_bytes w16 n ++ []) IsMajor (to_be_bytes w16)
    (bind_reads u2_at (λ n. n < 2 ^ 16) (to_be_bytes w16) (λ found end bytes. cond (leb 52 found && leb found 65) (Ok (found, bytes)) (Err (bad_major found))) (λ found n. ((leb 52 found && leb found 65) ≡ true) × (n ≡ found)) (λ found n. []) (λ n. n) u2_reads
    (λ found low. unless_reads (leb 52 found && leb found 65) (bad_major found) (λ end bytes. Ok (found, bytes)) (λ n. n ≡ found) (λ n. []) (λ y. give_reads found)) (λ found n q. q.1))
    (λ n p. let parts = and_parts (leb 52 n) (leb n 65) p.1.0 in (leb-true 52 n parts.0, leb-true n 65 parts.1))
    (λ n q. let high = q.1 in (omega (arith, high), (and_from (leb 52 n) (leb n 65) (le-leb 52 n q.0) (le-leb n 65 q.1), refl)))
    (λ n q. append-nil (to_be_bytes w16 n))

-- ---- what stands behind the pool

eight : (a b c d e f g : List ℕ) → a ++ (b ++ (c ++ (d ++ (e ++ (f ++ g))))) ≡ (((((a ++ b) ++ c) ++ d) ++ e) ++ f) ++ g
eight a b c d e f g = simp append_assoc

module _ (minor major : ℕ) (pool : Pool) where
  pub class_numbers : IsFew pool → Reads (index_at (is_plain_class pool)) (λ n. is_plain_class pool n ≡ true) (to_be_bytes w16)
  unfolding is_plain_class
  class_numbers few = index_reads (is_plain_class pool) (λ n e. numbered_class pool n few (some_that is_class_name (class_at pool n) e))

  pub super_numbers : IsFew pool → (this : ℕ) → Reads (index_at (leads_to_super pool this)) (λ n. leads_to_super pool this n ≡ true) (to_be_bytes w16)
  unfolding leads_to_super is_plain_class
  super_numbers few this = index_reads (leads_to_super pool this) low
    where
      low : (n : ℕ) → cond (eqb n 0) (bytes_eq (unwrap_or (class_at pool this) []) (codes "java/lang/Object")) (is_some_that is_class_name (class_at pool n)) ≡ true → n < 2 ^ 16
      low n e = elim (cases_Bool (eqb n 0)) [
        | inl y ↦ (let z = eqb-true n 0 y in omega (arith, z))
        | inr f ↦ numbered_class pool n few (some_that is_class_name (class_at pool n) (rw f at e))
      ]

  abbrev IsPlain : List ℕ → Type 0
  IsPlain = IsCounted (λ n. is_plain_class pool n ≡ true)

  abbrev C6 : ℕ → ℕ → ℕ → List ℕ → List Member → List Member → Class → Type 0
  C6 flags this above interfaces fields methods c = IsAttributes pool in_class c.attributes × (c ≡ class_made minor major pool flags this above interfaces fields methods c.attributes)

  abbrev C5 : ℕ → ℕ → ℕ → List ℕ → List Member → Class → Type 0
  C5 flags this above interfaces fields c = IsMembers (IsMethod pool) pool c.methods × C6 flags this above interfaces fields c.methods c

  abbrev C4 : ℕ → ℕ → ℕ → List ℕ → Class → Type 0
  C4 flags this above interfaces c = IsMembers (IsField pool) pool c.fields × C5 flags this above interfaces c.fields c

  abbrev C3 : ℕ → ℕ → ℕ → Class → Type 0
  C3 flags this above c = IsPlain c.interfaces × C4 flags this above c.interfaces c

  abbrev C2 : ℕ → ℕ → Class → Type 0
  C2 flags this c = (leads_to_super pool this c.super_class ≡ true) × C3 flags this c.super_class c

  abbrev C1 : ℕ → Class → Type 0
  C1 flags c = (is_plain_class pool c.this_class ≡ true) × C2 flags c.this_class c

  abbrev C0 : Class → Type 0
  C0 c = (c.flags < 2 ^ 16) × C1 c.flags c

  abbrev s6 : Class → List ℕ
  s6 c = spelling.counted spelling.attribute c.attributes

  abbrev s5 : Class → List ℕ
  s5 c = spelling.counted spelling.member c.methods ++ s6 c

  abbrev s4 : Class → List ℕ
  s4 c = spelling.counted spelling.member c.fields ++ s5 c

  abbrev s3 : Class → List ℕ
  s3 c = spelling.counted (to_be_bytes w16) c.interfaces ++ s4 c

  abbrev s2 : Class → List ℕ
  s2 c = to_be_bytes w16 c.super_class ++ s3 c

  abbrev s1 : Class → List ℕ
  s1 c = to_be_bytes w16 c.this_class ++ s2 c

  abbrev s0 : Class → List ℕ
  s0 c = to_be_bytes w16 c.flags ++ s1 c

  read6 : IsFew pool → (flags this above : ℕ) (interfaces : List ℕ) (fields methods : List Member) → Reads (class_attributes minor major pool flags this above interfaces fields methods) (C6 flags this above interfaces fields methods) s6
  read6 few flags this above interfaces fields methods =
      made_reads (attributes_at pool in_class false) (IsAttributes pool in_class) (spelling.counted spelling.attribute) (class_made minor major pool flags this above interfaces fields methods) (λ c. c.attributes) (λ xs. refl) (plain_attributes_of pool few in_class)

  read5 : IsFew pool → (flags this above : ℕ) (interfaces : List ℕ) (fields : List Member) → Reads (class_methods minor major pool flags this above interfaces fields) (C5 flags this above interfaces fields) s5
  read5 few flags this above interfaces fields =
      bind_reads (counted_after (method_at pool)) (IsMembers (IsMethod pool) pool) (spelling.counted spelling.member) (class_attributes minor major pool flags this above interfaces fields) (C6 flags this above interfaces fields) (λ ms. s6) (λ c. c.methods) (methods_read pool few)
      (λ ms p. read6 few flags this above interfaces fields ms) (λ ms c q. ap (λ (x : Class). x.methods) q.1)

  read4 : IsFew pool → (flags this above : ℕ) (interfaces : List ℕ) → Reads (class_fields minor major pool flags this above interfaces) (C4 flags this above interfaces) s4
  read4 few flags this above interfaces =
      bind_reads (counted_after (field_at pool)) (IsMembers (IsField pool) pool) (spelling.counted spelling.member) (class_methods minor major pool flags this above interfaces) (C5 flags this above interfaces) (λ fs. s5) (λ c. c.fields) (fields_read pool few)
      (λ fs p. read5 few flags this above interfaces fs) (λ fs c q. ap (λ (x : Class). x.fields) q.1.1)

  read3 : IsFew pool → (flags this above : ℕ) → Reads (class_interfaces minor major pool flags this above) (C3 flags this above) s3
  read3 few flags this above =
      bind_reads (counted_at (index_at (is_plain_class pool))) IsPlain (spelling.counted (to_be_bytes w16)) (class_fields minor major pool flags this above) (C4 flags this above) (λ is. s4) (λ c. c.interfaces)
      (each_counted (index_at (is_plain_class pool)) (λ n. is_plain_class pool n ≡ true) (to_be_bytes w16) (class_numbers few))
      (λ is p. read4 few flags this above is) (λ is c q. ap (λ (x : Class). x.interfaces) q.1.1.1)

  read2 : IsFew pool → (flags this : ℕ) → Reads (class_super minor major pool flags this) (C2 flags this) s2
  read2 few flags this =
      bind_reads (index_at (leads_to_super pool this)) (λ n. leads_to_super pool this n ≡ true) (to_be_bytes w16) (class_interfaces minor major pool flags this) (C3 flags this) (λ n. s3) (λ c. c.super_class) (super_numbers few this)
      (λ n p. read3 few flags this n) (λ n c q. ap (λ (x : Class). x.super_class) q.1.1.1.1)

  read1 : IsFew pool → (flags : ℕ) → Reads (class_this minor major pool flags) (C1 flags) s1
  read1 few flags =
      bind_reads (index_at (is_plain_class pool)) (λ n. is_plain_class pool n ≡ true) (to_be_bytes w16) (class_super minor major pool flags) (C2 flags) (λ n. s2) (λ c. c.this_class) (class_numbers few)
      (λ n p. read2 few flags n) (λ n c q. ap (λ (x : Class). x.this_class) q.1.1.1.1.1)

  pub behind_pool_reads : IsFew pool → Reads (behind_pool_at minor major pool) C0 s0
  unfolding behind_pool_at
  behind_pool_reads few =
      bind_reads u2_at (λ n. n < 2 ^ 16) (to_be_bytes w16) (class_this minor major pool) C1 (λ n. s1) (λ c. c.flags) u2_reads
      (λ n p. read1 few n) (λ n c q. ap (λ (x : Class). x.flags) q.1.1.1.1.1.1)

-- ---- the file

pub few_of : (pool : Pool) → IsPool pool → IsFew pool
few_of pool is = record { few = is.counted }

abbrev B1 : ℕ → ℕ → Class → Type 0
B1 minor major c = IsPool c.pool × C0 minor major c.pool c

abbrev B0 : ℕ → Class → Type 0
B0 minor c = IsMajor c.major × B1 minor c.major c

abbrev B : Class → Type 0
B c = (c.minor < 2 ^ 16) × B0 c.minor c

is_made : (minor major : ℕ) (pool : Pool) (c : Class) → C0 minor major pool c → c ≡ class_made minor major pool c.flags c.this_class c.super_class c.interfaces c.fields c.methods c.attributes
is_made minor major pool c p = p.1.1.1.1.1.1.1

abbrev behind : Class → List ℕ
behind c = s0 c.minor c.major c.pool c

abbrev front : Class → List ℕ
front c = (to_be_bytes w32 spelling.magic ++ to_be_bytes w16 c.minor) ++ (to_be_bytes w16 c.major ++ (spelling.pool c.pool ++ behind c))

class_reads_raw : Reads class_at_front B front
unfolding class_at_front
class_reads_raw =
    bind_reads minor_at (λ n. n < 2 ^ 16) (λ n. to_be_bytes w32 spelling.magic ++ to_be_bytes w16 n) (λ minor. bind major_at (λ major. bind pool_at (λ pool. behind_pool_at minor major pool))) B0 (λ minor c. to_be_bytes w16 c.major ++ (spelling.pool c.pool ++ behind c)) (λ c. c.minor) minor_reads
    (λ minor a. bind_reads major_at IsMajor (to_be_bytes w16) (λ major. bind pool_at (λ pool. behind_pool_at minor major pool)) (B1 minor) (λ major c. spelling.pool c.pool ++ behind c) (λ c. c.major) major_reads
    (λ major b. bind_reads pool_at IsPool spelling.pool (λ pool. behind_pool_at minor major pool) (λ pool c. C0 minor major pool c) (λ pool c. behind c) (λ c. c.pool) pool_reads
    (λ pool is. behind_pool_reads minor major pool (few_of pool is)) (λ pool c q. ap (λ (x : Class). x.pool) (is_made minor major pool c q)))
    (λ major c q. ap (λ (x : Class). x.major) (is_made minor major c.pool c q.1)))
    (λ minor c q. ap (λ (x : Class). x.minor) (is_made minor c.major c.pool c q.1.1))

spelled_class : (m a b p f t u i g h k : List ℕ) → (m ++ a) ++ (b ++ (p ++ (f ++ (t ++ (u ++ (i ++ (g ++ (h ++ k)))))))) ≡ (((((((((m ++ a) ++ b) ++ p) ++ f) ++ t) ++ u) ++ i) ++ g) ++ h) ++ k
spelled_class m a b p f t u i g h k = simp append_assoc

front_spelled : (c : Class) → front c ≡ spelling.class c
unfolding spelling.class
front_spelled c =
    spelled_class (to_be_bytes w32 spelling.magic) (to_be_bytes w16 c.minor) (to_be_bytes w16 c.major) (spelling.pool c.pool) (to_be_bytes w16 c.flags) (to_be_bytes w16 c.this_class) (to_be_bytes w16 c.super_class) (spelling.counted (to_be_bytes w16) c.interfaces) (spelling.counted spelling.member c.fields) (spelling.counted spelling.member c.methods) (spelling.counted spelling.attribute c.attributes)

shaped : (c : Class) → B c → Shaped c
unfolding IsMajor leads_to_super has_super class_name
shaped c p =
    let q = p.1.1.1 in
    record { minor = p.0; oldest = p.1.0.0; newest = p.1.0.1; pool = p.1.1.0; flags = q.0; this_class = q.1.0; super_class = q.1.1.0; interfaces = q.1.1.1.0; fields = q.1.1.1.1.0; methods = q.1.1.1.1.1.0; attributes = q.1.1.1.1.1.1.0 }

parts : (c : Class) → Shaped c → B c
unfolding IsMajor leads_to_super has_super class_name
parts c s =
    (s.minor, ((s.oldest, s.newest), (s.pool, (s.flags, (s.this_class, (s.super_class, (s.interfaces, (s.fields, (s.methods, (s.attributes, refl))))))))))

pub class_reads : Reads class_at_front Shaped spelling.class
class_reads = as_reads class_at_front B front Shaped spelling.class class_reads_raw shaped parts (λ c s. front_spelled c)

-- ---- all bytes of the file

ended : ℕ → Class × List ℕ → Result Class Fault
ended end found = cond (eqb (length found.1) 0) (Ok found.0) (Err (bytes_left (place end found.1)))

no_bytes : (bytes : List ℕ) → eqb (length bytes) 0 ≡ true → bytes ≡ []
no_bytes [] e = refl
no_bytes (b ∷ bytes) e = absurd (let z = eqb-true (length (b ∷ bytes)) 0 e in omega arith)

abbrev whole : {A : Type 0} → A → Result A Fault
whole x = Ok x

whole_is : {A : Type 0} (x y : A) → whole x ≡ whole y → x ≡ y
whole_is x y e = cc

pub class_taken : (bytes : List ℕ) (c : Class) → IsBytes bytes → class_of bytes ≡ Ok c → Shaped c × (bytes ≡ spelling.class c)
unfolding class_of ended
class_taken bytes c are e =
    let found = bind_ok (class_at_front (length bytes) bytes) (ended (length bytes)) c e in
    let t = class_reads.takes (length bytes) bytes found.0.0 found.0.1 are found.1 in
    elim (cases_Bool (eqb (length found.0.1) 0)) [
      | inl y ↦ (let same : found.0.0 ≡ c = whole_is found.0.0 c (rw y at found.2) in
          let none = no_bytes found.0.1 y in
          (subst Shaped same t.0, t.1.parts ∙ ap (λ (l : List ℕ). spelling.class found.0.0 ++ l) none ∙ append-nil (spelling.class found.0.0) ∙ ap spelling.class same))
      | inr f ↦ absurd (let bad : Err (bytes_left (place (length bytes) found.0.1)) ≡ Ok c = rw f at found.2 in cc)
    ]

pub class_again : (c : Class) → Shaped c → class_of (spelling.class c) ≡ Ok c
unfolding class_of ended
class_again c s =
    let bytes = spelling.class c in
    ap (λ (found : Reading Class). found >>= ended (length bytes)) (ap (class_at_front (length bytes)) (sym (append-nil bytes)) ∙ class_reads.again (length bytes) c [] s)

pub class_once : (c d : Class) → Shaped c → Shaped d → spelling.class c ≡ spelling.class d → c ≡ d
class_once c d s t e = whole_is c d (sym (class_again c s) ∙ ap class_of e ∙ class_again d t)

pub class_stays : (bytes more : List ℕ) (f : Fault) → IsBytes bytes → is_cut f ≡ false → class_of bytes ≡ Err f → class_of (bytes ++ more) ≡ Err f
unfolding class_of ended
class_stays bytes more f are plain e = go (bind_err (class_at_front (length bytes) bytes) (ended (length bytes)) f e)
  where
    longer : length (bytes ++ more) ≡ length bytes + length more
    longer = length-append bytes more

    left : (c : Class) (rest : List ℕ) → ended (length bytes) (c, rest) ≡ Err f → ended (length bytes + length more) (c, rest ++ more) ≡ Err f
    left c rest e = elim (cases_Bool (eqb (length rest) 0)) [
      | inl y ↦ absurd (let bad : Ok c ≡ Err f = rw y at e in cc)
      | inr g ↦ (let some : eqb (length (rest ++ more)) 0 ≡ false = still rest g in
          rw (some, place_on (length bytes) rest more) (rw g at e))
    ]
      where
        still : (rest : List ℕ) → eqb (length rest) 0 ≡ false → eqb (length (rest ++ more)) 0 ≡ false
        still [] g = absurd cc
        still (b ∷ rest) g = ne_eqb (length ((b ∷ rest) ++ more)) 0 (λ h. omega (arith, h))

    go : Failed (class_at_front (length bytes) bytes) (ended (length bytes)) f → class_of (bytes ++ more) ≡ Err f
    go (first is) =
        ap (λ (n : ℕ). class_at_front n (bytes ++ more) >>= ended n) longer
        ∙ ap (λ (found : Reading Class). found >>= ended (length bytes + length more)) (class_reads.stays (length bytes) bytes more f are plain is)
    go (later x is is') =
        ap (λ (n : ℕ). class_at_front n (bytes ++ more) >>= ended n) longer
        ∙ ap (λ (found : Reading Class). found >>= ended (length bytes + length more)) (reads_on class_at_front Shaped spelling.class class_reads (length bytes) bytes more x.0 x.1 are is)
        ∙ left x.0 x.1 is'

-- No text of a class begins with bytes that have a fault other than a cut.
pub none_class : (bytes more : List ℕ) (f : Fault) → IsBytes bytes → is_cut f ≡ false → class_of bytes ≡ Err f → (c : Class) → Shaped c → bytes ++ more ≡ spelling.class c → ⊥
none_class bytes more f are plain e c s same =
    let bad = class_stays bytes more f are plain e in
    let good : class_of (bytes ++ more) ≡ Ok c = ap class_of same ∙ class_again c s in
    let h : Err f ≡ Ok c = sym bad ∙ good in cc
