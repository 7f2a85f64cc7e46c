-- Where the faults of a class file lie, and what stands before them.
use Rattle.std.proofs.Common.{◌≡◌, ℕ, suc, eqb, leb, ◌<◌, ◌≤◌, false, cond, ◌&&◌, ◌||◌, List, ◌++◌, length, take, drop, Result, Ok, Err, refl, sym, ap, subst, ◌∙◌, arith, inl, inr}
use Rattle.std.proofs.lemmas.Bool.{cases_Bool, eqb-false}
use Rattle.std.proofs.lemmas.List.{take_at, take-append-drop, length-append, length-take, length-drop}
use Rattle.class_model.specs.declared.constant_pool.Pool.{Pool}
use Rattle.class_model.specs.declared.class_file.Class.{Class}
use Rattle.class_model.specs.declared.class_file.Member.{Member}
use Rattle.class_model.specs.Attributes.{in_class, in_field, in_method}
use Rattle.class_model.specs.Shape.{is_plain_class, has_code}
use Rattle.class_model.specs.Spelling as spelling
use Rattle.class_text.specs.Reading.{Fault, cut_short, bad_magic, bad_major, code_missing, bytes_left, fault_place, is_cut, Reading, ◌>>=◌, place, IsBytes}
use Rattle.class_text.specs.Readers.{u2_at, u4_at, index_at, counted_at, counted_after}
use Rattle.class_text.specs.Pool.{pool_at}
use Rattle.class_text.specs.Attributes.{text_or_empty, attributes_at}
use Rattle.class_text.specs.Classes.{leads_to_field_name, leads_to_method_name, leads_to_field_type, leads_to_method_type, is_barred, field_at, method_at, leads_to_super, minor_at, major_at, behind_pool_at, class_at_front, class_of}
use Rattle.class_text.specs.Places.{IsOnlyCut, IsGoodBefore, IsWithin}
use Rattle.class_text.proofs.Numbers.{IsBytes-take}
use Rattle.class_text.proofs.Places.{Failed, first, later, bind_err, err_is}
use Rattle.class_text.proofs.Readers.{bind}
use Rattle.class_text.proofs.Steps.{member_of, field_attributes, field_type, field_name, method_code, method_attributes, method_type, method_name, class_made, class_attributes, class_methods, class_fields, class_interfaces, class_super, class_this}
use Rattle.class_text.proofs.Inside.{IsInside, Inside, less_inside, give_inside, fail_inside, either_inside, bind_inside, then_inside, made_inside, here_inside, u2_inside, u4_inside, index_inside, counted_inside, each_inside}
use Rattle.class_text.proofs.PoolPlaces.{pool_inside}
use Rattle.class_text.proofs.AttributePlaces.{attributes_inside}
use Rattle.class_text.proofs.ClassLaws.{class_reads, class_taken, class_again, class_stays}

-- ---- members

module _ (pool : Pool) (before : List Member) (low : ℕ) where
  field_inside : Inside low 0 (field_at pool before)
  unfolding field_at
  field_inside =
      less_inside (then_inside low 2 u2_at (field_name pool before) (u2_inside low)
      (λ flags. less_inside (then_inside low 2 (index_at (leads_to_field_name pool)) (field_type pool before flags) (index_inside (leads_to_field_name pool) low)
      (λ name. less_inside (then_inside low 2 (index_at (leads_to_field_type pool before name)) (field_attributes pool before flags name) (index_inside (leads_to_field_type pool before name) low)
      (λ descriptor. made_inside low 0 (attributes_at pool (in_field (text_or_empty pool descriptor)) false) (member_of flags name descriptor) (attributes_inside pool (in_field (text_or_empty pool descriptor)) false low)))))))

  method_inside : Inside low 0 (method_at pool before)
  unfolding method_at
  method_inside =
      less_inside (here_inside low 2 u2_at (method_name pool before) (omega arith) (u2_inside low)
      (λ at up flags. less_inside (then_inside (suc at) 2 (index_at (leads_to_method_name pool)) (method_type pool before at flags) (index_inside (leads_to_method_name pool) (suc at))
      (λ name. less_inside (then_inside (suc at) 2 (index_at (leads_to_method_type pool before flags name)) (method_attributes pool before at flags name) (index_inside (leads_to_method_type pool before flags name) (suc at))
      (λ descriptor. then_inside (suc at) 0 (attributes_at pool in_method (is_barred flags)) (method_code pool before at flags name descriptor) (attributes_inside pool in_method (is_barred flags) (suc at))
      (λ found. either_inside (suc at) 0 (is_barred flags || has_code found) (λ end bytes. Ok (member_of flags name descriptor found, bytes)) (λ end bytes. Err (code_missing at))
      (give_inside (suc at) (member_of flags name descriptor found)) (fail_inside (suc at) 0 (code_missing at) (λ end over. over)))))))))

-- ---- the class

minor_inside : Inside 0 6 minor_at
unfolding minor_at
minor_inside =
    bind_inside 0 4 2 u4_at (λ found end bytes. cond (eqb found spelling.magic) (u2_at end bytes) (Err bad_magic)) (u4_inside 0)
    (λ found. either_inside 4 2 (eqb found spelling.magic) u2_at (λ end bytes. Err bad_magic) (u2_inside 4) (fail_inside 4 2 bad_magic (λ end over. omega (arith, over))))

major_inside : Inside 6 0 major_at
unfolding major_at
major_inside =
    less_inside (bind_inside 6 2 0 u2_at (λ major end bytes. cond (leb 52 major && leb major 65) (Ok (major, bytes)) (Err (bad_major major))) (u2_inside 6)
    (λ major. either_inside 8 0 (leb 52 major && leb major 65) (λ end bytes. Ok (major, bytes)) (λ end bytes. Err (bad_major major)) (give_inside 8 major) (fail_inside 8 0 (bad_major major) (λ end over. omega (arith, over)))))

module _ (minor major : ℕ) (pool : Pool) (low : ℕ) where
  behind_pool_inside : Inside low 0 (behind_pool_at minor major pool)
  unfolding behind_pool_at
  behind_pool_inside =
      less_inside (then_inside low 2 u2_at (class_this minor major pool) (u2_inside low)
      (λ flags. less_inside (then_inside low 2 (index_at (is_plain_class pool)) (class_super minor major pool flags) (index_inside (is_plain_class pool) low)
      (λ this. less_inside (then_inside low 2 (index_at (leads_to_super pool this)) (class_interfaces minor major pool flags this) (index_inside (leads_to_super pool this) low)
      (λ above. then_inside low 0 (counted_at (index_at (is_plain_class pool))) (class_fields minor major pool flags this above) (each_inside low 2 (index_at (is_plain_class pool)) (index_inside (is_plain_class pool) low))
      (λ interfaces. then_inside low 0 (counted_after (field_at pool)) (class_methods minor major pool flags this above interfaces) (counted_inside low (field_at pool) (λ before. field_inside pool before low))
      (λ fields. then_inside low 0 (counted_after (method_at pool)) (class_attributes minor major pool flags this above interfaces fields) (counted_inside low (method_at pool) (λ before. method_inside pool before low))
      (λ methods. made_inside low 0 (attributes_at pool in_class false) (class_made minor major pool flags this above interfaces fields methods) (attributes_inside pool in_class false low))))))))))

front_inside : Inside 0 0 class_at_front
unfolding class_at_front
front_inside =
    less_inside (bind_inside 0 6 0 minor_at (λ minor. bind major_at (λ major. bind pool_at (λ pool. behind_pool_at minor major pool))) minor_inside
    (λ minor. then_inside 6 0 major_at (λ major. bind pool_at (λ pool. behind_pool_at minor major pool)) major_inside
    (λ major. then_inside 6 0 pool_at (λ pool. behind_pool_at minor major pool) (pool_inside 6) (λ pool. behind_pool_inside minor major pool 6))))

-- ---- all bytes of the file

-- a fault of what stands at the front, or bytes behind a class
data Met (bytes : List ℕ) (f : Fault) : Type 0 where
  inside : IsInside (length bytes) f → Met bytes f
  left : (c : Class) (rest : List ℕ) → class_at_front (length bytes) bytes ≡ Ok (c, rest) → 0 < length rest → f ≡ bytes_left (place (length bytes) rest) → Met bytes f

some_bytes : (n : ℕ) → eqb n 0 ≡ false → 0 < n
some_bytes n e = let no = eqb-false n 0 e in omega (arith, no)

met : (bytes : List ℕ) (f : Fault) → IsBytes bytes → class_of bytes ≡ Err f → Met bytes f
unfolding class_of
met bytes f are e = go (bind_err (class_at_front (length bytes) bytes) ended f e)
  where
    ended : Class × List ℕ → Result Class Fault
    ended found = cond (eqb (length found.1) 0) (Ok found.0) (Err (bytes_left (place (length bytes) found.1)))

    go : Failed (class_at_front (length bytes) bytes) ended f → Met bytes f
    go (first is) = inside (front_inside.faults (length bytes) bytes f are (omega arith) is)
    go (later x is is') = elim (cases_Bool (eqb (length x.1) 0)) [
      | inl y ↦ absurd (let bad : Ok x.0 ≡ Err f = rw y at is' in cc)
      | inr g ↦ left x.0 x.1 is (some_bytes (length x.1) g) (sym (err_is {A = Class} (bytes_left (place (length bytes) x.1)) f (rw g at is')))
    ]

inside_within : (end : ℕ) (f : Fault) → IsInside end f → IsWithin end f
inside_within end (cut_short at) is = is
inside_within end (bytes_left at) is = absurd is
inside_within end f is = is

shorter_rest : (bytes : List ℕ) (c : Class) (rest : List ℕ) → IsBytes bytes → class_at_front (length bytes) bytes ≡ Ok (c, rest) → length rest ≤ length bytes
shorter_rest bytes c rest are is = let t = front_inside.rest (length bytes) bytes c rest are (omega arith) is in omega (arith, t.1)

pub class_within : (bytes : List ℕ) (f : Fault) → IsBytes bytes → class_of bytes ≡ Err f → IsWithin (length bytes) f
class_within bytes f are e = go (met bytes f are e)
  where
    go : Met bytes f → IsWithin (length bytes) f
    go (inside is) = inside_within (length bytes) f is
    go (left c rest is some same) = let less = shorter_rest bytes c rest are is in subst (IsWithin (length bytes)) (sym same) (omega (arith, some, less))

-- A front that ends before the place, or at it where no class stands before it, is only cut.
only_cut : (bytes : List ℕ) (f : Fault) (n : ℕ) → IsBytes bytes → n ≤ fault_place f → class_of bytes ≡ Err f → ((c : Class) → class_of (take n bytes) ≡ Ok c → ⊥) → IsOnlyCut n (class_of (take n bytes))
only_cut bytes f n are under e no_class = go (class_of (take n bytes)) refl
  where
    fits : IsBytes (take n bytes)
    fits = IsBytes-take n bytes are

    short : length (take n bytes) ≤ n
    short = omega (arith, length-take n bytes)

    parts : take n bytes ++ drop n bytes ≡ bytes
    parts = take-append-drop n bytes

    -- a fault other than a cut would be that of all bytes, and before its place
    other : (g : Fault) → class_of (take n bytes) ≡ Err g → is_cut g ≡ false → ⊥
    other g is plain =
        let stays : class_of bytes ≡ Err g = ap class_of (sym parts) ∙ class_stays (take n bytes) (drop n bytes) g fits plain is in
        let same : g ≡ f = err_is {A = Class} g f (sym stays ∙ e) in
        let before : fault_place g < length (take n bytes) = strict g plain (class_within (take n bytes) g fits is) in
        let named : fault_place g ≡ fault_place f = ap fault_place same in
        omega (arith, before, short, under, named)
      where
        strict : (g : Fault) → is_cut g ≡ false → IsWithin (length (take n bytes)) g → fault_place g < length (take n bytes)
        strict (cut_short at) plain is = absurd cc
        strict g plain is = is

    cut : (g : Fault) → class_of (take n bytes) ≡ Err g → IsOnlyCut n (class_of (take n bytes))
    cut (cut_short at) is = (at, (let most = class_within (take n bytes) (cut_short at) fits is in omega (arith, most, short)), is)
    cut g is = absurd (other g is refl)

    go : (answer : Result Class Fault) → class_of (take n bytes) ≡ answer → IsOnlyCut n (class_of (take n bytes))
    go (Ok c) is = absurd (no_class c is)
    go (Err g) is = cut g is

-- Where a class stands before bytes, the fault is that they are left.
left_behind : (bytes : List ℕ) (f : Fault) (n : ℕ) (c : Class) → IsBytes bytes → class_of bytes ≡ Err f → class_of (take n bytes) ≡ Ok c → f ≡ bytes_left (place (length bytes) (drop n bytes))
unfolding class_of
left_behind bytes f n c are e is =
    let t = class_taken (take n bytes) c (IsBytes-take n bytes are) is in
    let read : class_at_front (length bytes) bytes ≡ Ok (c, drop n bytes) =
    ap (class_at_front (length bytes)) (sym (take-append-drop n bytes) ∙ ap (λ (l : List ℕ). l ++ drop n bytes) t.1) ∙ class_reads.again (length bytes) c (drop n bytes) t.0 in
    let all : ended (c, drop n bytes) ≡ Err f = ap (λ (found : Reading Class). found >>= ended) (sym read) ∙ e in
    elim (cases_Bool (eqb (length (drop n bytes)) 0)) [
      | inl y ↦ absurd (let bad : Ok c ≡ Err f = rw y at all in cc)
      | inr g ↦ sym (err_is {A = Class} (bytes_left (place (length bytes) (drop n bytes))) f (rw g at all))
    ]
  where
    ended : Class × List ℕ → Result Class Fault
    ended found = cond (eqb (length found.1) 0) (Ok found.0) (Err (bytes_left (place (length bytes) found.1)))

pub class_shorter : (bytes : List ℕ) (f : Fault) (n : ℕ) → IsBytes bytes → n < fault_place f → class_of bytes ≡ Err f → IsOnlyCut n (class_of (take n bytes))
class_shorter bytes f n are under e =
    only_cut bytes f n are (omega (arith, under)) e
    (λ c is. let at : fault_place f ≡ place (length bytes) (drop n bytes) = ap fault_place (left_behind bytes f n c are e is) in omega (arith, at, under, length-drop n bytes))

pub class_good : (bytes : List ℕ) (f : Fault) → IsBytes bytes → class_of bytes ≡ Err f → IsGoodBefore f (class_of (take (fault_place f) bytes))
class_good bytes f are e = go (met bytes f are e)
  where
    front : (g : Fault) (answer : Result Class Fault) → IsInside (length bytes) g → IsOnlyCut (fault_place g) answer → IsGoodBefore g answer
    front (bytes_left at) answer is cut = absurd is
    front g answer is cut = cut

    go : Met bytes f → IsGoodBefore f (class_of (take (fault_place f) bytes))
    go (inside is) =
        front f (class_of (take (fault_place f) bytes)) is
        (only_cut bytes f (fault_place f) are (omega arith) e (λ c read. subst (IsInside (length bytes)) (left_behind bytes f (fault_place f) c are e read) is))
    go (left c rest read some same) =
        let at = place (length bytes) rest in
        let t = class_reads.takes (length bytes) bytes c rest are read in
        let size : length (spelling.class c) ≡ at = omega (arith, ap length t.1.parts ∙ length-append (spelling.class c) rest) in
        let before : take at bytes ≡ spelling.class c = ap (take at) t.1.parts ∙ take_at (spelling.class c) rest at size in
        subst (λ (g : Fault). IsGoodBefore g (class_of (take (fault_place g) bytes))) (sym same) (c, ap class_of before ∙ class_again c t.0)
