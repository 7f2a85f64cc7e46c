-- What the first bad place of a class file says of it.
use Rattle.std.proofs.Common.{◌≡◌, ℕ, eqb, leb, ◌+◌, ◌^◌, ◌<◌, ◌≤◌, Bool, true, false, cond, ◌&&◌, ◌||◌, ◌⊎◌, List, [], ◌++◌, length, drop, Result, Ok, Err, refl, sym, ap, subst, ◌∙◌, append_assoc, arith, inl, inr}
use Rattle.std.specs.Int.{w16, w32, to_be_bytes}
use Rattle.std.proofs.lemmas.Bool.{cases_Bool, eqb-false, leb-false, and_cases}
use Rattle.std.proofs.lemmas.List.{drop_at, length-append}
use Rattle.class_model.specs.declared.constant_pool.Pool.{Pool}
use Rattle.class_model.specs.declared.class_file.Class.{Class}
use Rattle.class_model.specs.declared.class_file.Member.{Member}
use Rattle.class_model.specs.declared.attribute_forms.Attribute.{Attribute}
use Rattle.class_model.specs.Attributes.{in_class, in_field, in_method}
use Rattle.class_model.specs.Shape.{is_plain_class, has_code}
use Rattle.class_model.specs.Spelling as spelling
use Rattle.class_text.specs.Reading.{Fault, cut_short, bad_tag, bad_text, bad_index, astray, bad_magic, bad_major, bad_attribute, second_attribute, code_missing, bytes_left, place, IsBytes}
use Rattle.class_text.specs.Readers.{Reader, u2_at, u4_at, index_at, counted_at, counted_after}
use Rattle.class_text.specs.Pool.{pool_at}
use Rattle.class_text.specs.Attributes.{text_or_empty, attributes_at}
use Rattle.class_text.specs.Classes.{leads_to_field_name, leads_to_method_name, leads_to_field_type, leads_to_method_type, is_barred, field_at, method_at, leads_to_super, minor_at, major_at, behind_pool_at, class_at_front, class_of}
use Rattle.class_text.specs.Meanings.{StandsAt, a_plain_class, a_super_class, a_field_name, a_method_name, a_field_type, a_method_type, IsWithoutCode, IsShort, IsMeantBehind, IsMeantInPool, IsMeant}
use Rattle.class_text.proofs.Places.{Failed, first, later, bind_err, err_is}
use Rattle.class_text.proofs.Readers.{bind}
use Rattle.class_text.proofs.Steps.{member_of, field_attributes, field_type, field_name, method_code, method_attributes, method_type, method_name, class_made, class_attributes, class_methods, class_fields, class_interfaces, class_super, class_this}
use Rattle.class_text.proofs.Parts.{u2_reads, u4_reads}
use Rattle.class_text.proofs.Numbered.{IsFew}
use Rattle.class_text.proofs.AttributeLaws.{four}
use Rattle.class_text.proofs.CodeLaws.{attributes_of}
use Rattle.class_text.proofs.MemberLaws.{method_names, method_types, method_reads}
use Rattle.class_text.proofs.ClassLaws.{minor_reads, major_reads, pool_reads, few_of}
use Rattle.class_text.proofs.ClassPlaces.{class_good, class_within}
use Rattle.class_text.proofs.Tells.{IsIn, is_in_behind, stands, Tells, then_tells, made_tells, u2_tells, u4_tells, counted_tells, each_tells, plain_behind, give_behind, fail_behind, either_behind, bind_behind, here_behind, tells_of}
use Rattle.class_text.proofs.AttributeTells.{Meant, cuts, wanted_tells, number_tells, attributes_tells}
use Rattle.class_text.proofs.PoolTells.{behind_in, pool_meant}

-- ---- behind the pool

module _ (pool : Pool) (few : IsFew pool) (file : List ℕ) (start : ℕ) where
  abbrev Says : {A : Type 0} → Reader A → Type 0
  Says = Tells file start (Meant pool file start)

  field_tells : (before : List Member) → Says (field_at pool before)
  unfolding field_at
  field_tells before =
      then_tells file start (Meant pool file start) u2_at (field_name pool before) (number_tells pool file start)
      (λ flags. then_tells file start (Meant pool file start) (index_at (leads_to_field_name pool)) (field_type pool before flags) (wanted_tells pool file start a_field_name)
      (λ name. then_tells file start (Meant pool file start) (index_at (leads_to_field_type pool before name)) (field_attributes pool before flags name) (wanted_tells pool file start (a_field_type before name))
      (λ descriptor. made_tells file start (Meant pool file start) (attributes_at pool (in_field (text_or_empty pool descriptor)) false) (member_of flags name descriptor) (attributes_tells pool file start few (in_field (text_or_empty pool descriptor)) false))))

  neither : (a b : Bool) → (a || b) ≡ false → (a ≡ false) × (b ≡ false)
  neither true b e = absurd cc
  neither false b e = (refl, e)

  method_tells : (before : List Member) → Says (method_at pool before)
  unfolding method_at spelling.member
  method_tells before =
      tells_of file start M (method_at pool before) _ spelling.member (method_reads pool few before)
      (λ from. let at = from + 0 in
      here_behind file start M [] from (λ p. bind u2_at (method_name pool before p))
      (bind_behind file start M [] from u2_at (λ n. n < 2 ^ 16) (to_be_bytes w16) (method_name pool before at) u2_reads (plain_behind file start M [] from u2_at (number_tells pool file start))
      (λ flags a j. let t1 = to_be_bytes w16 flags in
      bind_behind file start M t1 from (index_at (leads_to_method_name pool)) _ (to_be_bytes w16) (method_type pool before at flags) (method_names pool few before) (plain_behind file start M t1 from (index_at (leads_to_method_name pool)) (wanted_tells pool file start a_method_name))
      (λ name b k. let t2 = t1 ++ to_be_bytes w16 name in
      bind_behind file start M t2 from (index_at (leads_to_method_type pool before flags name)) _ (to_be_bytes w16) (method_attributes pool before at flags name) (method_types pool few before flags name)
      (plain_behind file start M t2 from (index_at (leads_to_method_type pool before flags name)) (wanted_tells pool file start (a_method_type before flags name)))
      (λ descriptor c l. let t3 = t2 ++ to_be_bytes w16 descriptor in
      bind_behind file start M t3 from (attributes_at pool in_method (is_barred flags)) _ (spelling.counted spelling.attribute) (method_code pool before at flags name descriptor) (attributes_of pool few in_method (is_barred flags))
      (plain_behind file start M t3 from (attributes_at pool in_method (is_barred flags)) (attributes_tells pool file start few in_method (is_barred flags)))
      (λ found d m. let t4 = t3 ++ spelling.counted spelling.attribute found in
      either_behind file start M t4 from (is_barred flags || has_code found) (λ end bytes. Ok (member_of flags name descriptor found, bytes)) (λ end bytes. Err (code_missing at))
      (λ y. give_behind file start M t4 from (member_of flags name descriptor found))
      (λ isnt. fail_behind file start M t4 from (code_missing at) (λ end stood low. missing from at flags name descriptor found (omega arith) stood low isnt))))))))
    where
      M : ℕ → Fault → Type 0
      M = Meant pool file start

      missing : (from at flags name descriptor : ℕ) (found : List Attribute) → from ≡ at → StandsAt file from (((to_be_bytes w16 flags ++ to_be_bytes w16 name) ++ to_be_bytes w16 descriptor) ++ spelling.counted spelling.attribute found) → start ≤ from
          → (is_barred flags || has_code found) ≡ false → IsWithoutCode file start at
      missing from at flags name descriptor found same stood low isnt =
          let both = neither (is_barred flags) (has_code found) isnt in
          let text = four (to_be_bytes w16 flags) (to_be_bytes w16 name) (to_be_bytes w16 descriptor) (spelling.counted spelling.attribute found) in
          record {
            method = member_of flags name descriptor found;
            stands = subst (λ (p : ℕ). StandsAt file p (spelling.member (member_of flags name descriptor found))) same (subst (StandsAt file from) (sym text) stood);
            behind = omega (arith, low, same);
            owed = both.0;
            none = both.1;
          }

  behind_pool_tells : (minor major : ℕ) → Says (behind_pool_at minor major pool)
  unfolding behind_pool_at
  behind_pool_tells minor major =
      then_tells file start M u2_at (class_this minor major pool) (number_tells pool file start)
      (λ flags. then_tells file start M (index_at (is_plain_class pool)) (class_super minor major pool flags) plain
      (λ this. then_tells file start M (index_at (leads_to_super pool this)) (class_interfaces minor major pool flags this) (wanted_tells pool file start (a_super_class this))
      (λ above. then_tells file start M (counted_at (index_at (is_plain_class pool))) (class_fields minor major pool flags this above) (each_tells file start M (cuts pool file start) (index_at (is_plain_class pool)) plain)
      (λ interfaces. then_tells file start M (counted_after (field_at pool)) (class_methods minor major pool flags this above interfaces) (counted_tells file start M (cuts pool file start) (field_at pool) field_tells)
      (λ fields. then_tells file start M (counted_after (method_at pool)) (class_attributes minor major pool flags this above interfaces fields) (counted_tells file start M (cuts pool file start) (method_at pool) method_tells)
      (λ methods. made_tells file start M (attributes_at pool in_class false) (class_made minor major pool flags this above interfaces fields methods) (attributes_tells pool file start few in_class false)))))))
    where
      M : ℕ → Fault → Type 0
      M = Meant pool file start

      plain : Says (index_at (is_plain_class pool))
      plain = wanted_tells pool file start a_plain_class

-- ---- the front of a file

-- before the pool numbers are only cut
abbrev IsOnlyShort : ℕ → Fault → Type 0
IsOnlyShort end (cut_short at) = IsShort end at
IsOnlyShort end f = ⊥

short : (file : List ℕ) (f : Fault) → IsOnlyShort (length file) f → IsMeant file f
short file (cut_short at) m = m
short file f m = absurd m

cuts_short : (file : List ℕ) (end : ℕ) (bytes : List ℕ) → IsIn file 0 end bytes → length bytes < 2 ^ 32 → IsOnlyShort end (cut_short (place end bytes))
cuts_short file end bytes i few = omega (arith, i.ends, few)

in_pool : (file : List ℕ) (f : Fault) → IsMeantInPool file 8 (length file) f → IsMeant file f
in_pool file (cut_short at) m = m
in_pool file (bad_tag at tag) m = (m.0, m.1)
in_pool file (bad_text at) m = m
in_pool file (bad_index at) m = m
in_pool file f m = absurd m

behind_pool : (file : List ℕ) (f : Fault) (pool : Pool) (after : List ℕ) → pool_at (length file) (drop 8 file) ≡ Ok (pool, after) → 8 ≤ place (length file) after → IsMeantBehind pool file (place (length file) after) (length file) f → IsMeant file f
behind_pool file (cut_short at) pool after is low m = m.short
behind_pool file (bad_tag at tag) pool after is low m = (m.0, omega (arith, low, m.1))
behind_pool file (astray at numbers) pool after is low m = record { pool = pool; after = after; reads = is; says = m }
behind_pool file (bad_attribute at why) pool after is low m = record { pool = pool; after = after; reads = is; says = m }
behind_pool file (second_attribute at) pool after is low m = record { pool = pool; after = after; reads = is; says = m }
behind_pool file (code_missing at) pool after is low m = record { pool = pool; after = after; reads = is; says = m }
behind_pool file f pool after is low m = absurd m

front_meant : (file : List ℕ) (f : Fault) → IsBytes file → class_at_front (length file) file ≡ Err f → IsMeant file f
unfolding class_at_front minor_at major_at
front_meant file f are e = minors (bind_err (minor_at end file) (λ x. behind_minor x.0 end x.1) f e)
  where
    end : ℕ
    end = length file

    behind_major : ℕ → ℕ → Reader Class
    behind_major minor major = bind pool_at (λ pool. behind_pool_at minor major pool)

    behind_minor : ℕ → Reader Class
    behind_minor minor = bind major_at (behind_major minor)

    whole : IsIn file 0 end file
    whole = behind_in file 0 are (omega arith)

    u2_short : (bytes : List ℕ) → IsIn file 0 end bytes → u2_at end bytes ≡ Err f → IsMeant file f
    u2_short bytes i e = short file f ((u2_tells file 0 IsOnlyShort (cuts_short file)).faults end bytes f i e)

    -- the pool, and what stands behind it
    pools : (minor major : ℕ) (from : List ℕ) → drop 8 file ≡ from → IsBytes from → 8 ≤ place end from → 8 ≤ end → Failed (pool_at end from) (λ x. behind_pool_at minor major x.0 end x.1) f → IsMeant file f
    pools minor major from eight fits low long (first is) = in_pool file f (pool_meant file 8 f are long (ap (pool_at end) eight ∙ is))
    pools minor major from eight fits low long (later x is is') =
        let t = pool_reads.takes end from x.0 x.1 fits is in
        let under : length x.1 ≤ length from = omega (arith, ap length t.1.parts ∙ length-append (spelling.pool x.0) x.1) in
        let there = is_in_behind file 8 end from (spelling.pool x.0) x.1 (subst (IsIn file 8 end) eight (behind_in file 8 are long)) t.1.parts t.1.rest_fits in
        let start = place end x.1 in
        let from_start : IsIn file start end x.1 = record { front = there.front; back = there.back; parts = there.parts; ends = there.ends; low = omega (arith, there.ends); fits = there.fits } in
        behind_pool file f x.0 x.1 (ap (pool_at end) eight ∙ is) (omega (arith, low, under)) ((behind_pool_tells x.0 (few_of x.0 t.0) file start minor major).faults end x.1 f from_start is')

    majors : (minor : ℕ) (from : List ℕ) → IsIn file 0 end from → file ≡ (to_be_bytes w32 spelling.magic ++ to_be_bytes w16 minor) ++ from → Failed (major_at end from) (λ x. behind_major minor x.0 end x.1) f → IsMeant file f
    majors minor from i parts (first is) = major (bind_err (u2_at end from) (λ x. cond (leb 52 x.0 && leb x.0 65) (Ok x) (Err (bad_major x.0))) f is)
      where
        six : place end from ≡ 6
        six = omega (arith, ap length parts ∙ length-append (to_be_bytes w32 spelling.magic ++ to_be_bytes w16 minor) from)

        outside : (v : ℕ) → (leb 52 v && leb v 65) ≡ false → (v < 52) ⊎ (65 < v)
        outside v isnt = elim (and_cases (leb 52 v) (leb v 65) isnt) [ inl low ↦ inl (leb-false 52 v low) | inr high ↦ inr (leb-false v 65 high) ]

        major : Failed (u2_at end from) (λ x. cond (leb 52 x.0 && leb x.0 65) (Ok x) (Err (bad_major x.0))) f → IsMeant file f
        major (first is) = u2_short from i is
        major (later x is is') =
            let t = u2_reads.takes end from x.0 x.1 i.fits is in
            elim (cases_Bool (leb 52 x.0 && leb x.0 65)) [
              | inl y ↦ absurd (let bad : Ok x ≡ Err f = rw y at is' in cc)
              | inr isnt ↦ (let stood : StandsAt file 6 (to_be_bytes w16 x.0) = subst (λ (p : ℕ). StandsAt file p (to_be_bytes w16 x.0)) six (stands file 0 end from (to_be_bytes w16 x.0) x.1 i t.1.parts) in
                  subst (IsMeant file) (err_is {A = ℕ × List ℕ} (bad_major x.0) f (rw isnt at is')) (stood, outside x.0 isnt))
            ]
    majors minor from i parts (later x is is') =
        let t = major_reads.takes end from x.0 x.1 i.fits is in
        let front = to_be_bytes w32 spelling.magic ++ to_be_bytes w16 minor in
        let all : file ≡ (front ++ to_be_bytes w16 x.0) ++ x.1 = parts ∙ ap (λ (l : List ℕ). front ++ l) t.1.parts ∙ sym (append_assoc front (to_be_bytes w16 x.0) x.1) in
        let eight : drop 8 file ≡ x.1 = ap (drop 8) all ∙ drop_at (front ++ to_be_bytes w16 x.0) x.1 8 refl in
        let size = ap length all ∙ length-append (front ++ to_be_bytes w16 x.0) x.1 in
        pools minor x.0 x.1 eight t.1.rest_fits (omega (arith, size)) (omega (arith, size)) (bind_err (pool_at end x.1) (λ y. behind_pool_at minor x.0 y.0 end y.1) f is')

    minors : Failed (minor_at end file) (λ x. behind_minor x.0 end x.1) f → IsMeant file f
    minors (first is) = magic (bind_err (u4_at end file) (λ x. cond (eqb x.0 spelling.magic) (u2_at end x.1) (Err bad_magic)) f is)
      where
        magic : Failed (u4_at end file) (λ x. cond (eqb x.0 spelling.magic) (u2_at end x.1) (Err bad_magic)) f → IsMeant file f
        magic (first is) = short file f ((u4_tells file 0 IsOnlyShort (cuts_short file)).faults end file f whole is)
        magic (later x is is') =
            let t = u4_reads.takes end file x.0 x.1 are is in
            elim (cases_Bool (eqb x.0 spelling.magic)) [
              | inl y ↦ u2_short x.1 (is_in_behind file 0 end file (to_be_bytes w32 x.0) x.1 whole t.1.parts t.1.rest_fits) (rw y at is')
              | inr isnt ↦ (let zero_is : place end file ≡ 0 = omega arith in
                  let stood : StandsAt file 0 (to_be_bytes w32 x.0) = subst (λ (p : ℕ). StandsAt file p (to_be_bytes w32 x.0)) zero_is (stands file 0 end file (to_be_bytes w32 x.0) x.1 whole t.1.parts) in
                  subst (IsMeant file) (err_is {A = ℕ × List ℕ} bad_magic f (rw isnt at is')) (x.0, stood, eqb-false x.0 spelling.magic isnt))
            ]
    minors (later x is is') =
        let t = minor_reads.takes end file x.0 x.1 are is in
        majors x.0 x.1 (is_in_behind file 0 end file (to_be_bytes w32 spelling.magic ++ to_be_bytes w16 x.0) x.1 whole t.1.parts t.1.rest_fits) t.1.parts (bind_err (major_at end x.1) (λ y. behind_major x.0 y.0 end y.1) f is')

-- ---- the whole file

pub class_meant : (file : List ℕ) (f : Fault) → IsBytes file → class_of file ≡ Err f → IsMeant file f
unfolding class_of
class_meant file f are e = go (bind_err (class_at_front (length file) file) ended f e)
  where
    ended : Class × List ℕ → Result Class Fault
    ended found = cond (eqb (length found.1) 0) (Ok found.0) (Err (bytes_left (place (length file) found.1)))

    left : (p : ℕ) → bytes_left p ≡ f → IsMeant file f
    left p same =
        let was : class_of file ≡ Err (bytes_left p) = e ∙ ap (λ (g : Fault). Err g) (sym same) in
        subst (IsMeant file) same (class_within file (bytes_left p) are was, class_good file (bytes_left p) are was)

    go : Failed (class_at_front (length file) file) ended f → IsMeant file f
    go (first is) = front_meant file f are is
    go (later x is is') = elim (cases_Bool (eqb (length x.1) 0)) [
      | inl y ↦ absurd (let bad : Ok x.0 ≡ Err f = rw y at is' in cc)
      | inr isnt ↦ left (place (length file) x.1) (err_is {A = Class} (bytes_left (place (length file) x.1)) f (rw isnt at is'))
    ]

-- Where 2^32 bytes follow a cut, whatever they are, nothing is cut there or before.
pub class_lengthened : (bytes more : List ℕ) (at next : ℕ) → IsBytes bytes → IsBytes (bytes ++ more) → 2 ^ 32 ≤ length more → class_of bytes ≡ Err (cut_short at) → class_of (bytes ++ more) ≡ Err (cut_short next) → at < next
class_lengthened bytes more at next are both long e e' =
    let under = class_within bytes (cut_short at) are e in
    let few = class_meant (bytes ++ more) (cut_short next) both e' in
    omega (arith, under, few, long, length-append bytes more)
