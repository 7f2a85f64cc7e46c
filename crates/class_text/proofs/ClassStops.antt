-- To which place the reading of a class comes before a fault.
use Rattle.std.proofs.Common.{◌≡◌, ℕ, suc, eqb, ltb, leb, ◌+◌, ◌^◌, ◌<◌, ◌≤◌, Bool, true, false, cond, ◌&&◌, ◌||◌, ◌⊎◌, List, [], ◌++◌, length, drop, map, codes, bytes_eq, Result, Ok, Err, refl, sym, ap, ◌∙◌, append_assoc, arith, inl, inr}
use Rattle.std.specs.Int.{w16, w32, to_be_bytes}
use Rattle.std.proofs.lemmas.Bool.{cases_Bool}
use Rattle.std.proofs.lemmas.List.{drop_at, length-append}
use Rattle.class_model.specs.declared.constant_pool.Pool.{Pool}
use Rattle.class_model.specs.declared.class_file.Class.{Class}
use Rattle.class_model.specs.declared.class_file.Member.{Member}
use Rattle.class_model.specs.declared.attribute_forms.Attribute.{Attribute, out-Attribute}
use Rattle.class_model.specs.Constants.{IsPool}
use Rattle.class_model.specs.Attributes.{Place, in_class, in_field, in_method, in_code, is_known, attribute_name, HasForm, IsHandler, IsCodeAttributes}
use Rattle.class_model.specs.Shape.{is_plain_class, has_code}
use Rattle.class_model.specs.Spelling as spelling
use Rattle.class_text.specs.Reading.{Fault, cut_short, bad_magic, bad_major, bad_attribute, bad_length, barred_code, second_attribute, code_missing, bytes_left, is_cut, fault_place, place, IsBytes}
use Rattle.class_text.specs.Readers.{Reader, u2_at, u4_at, index_at, counted_at, counted_after, run_at, within}
use Rattle.class_text.specs.Pool.{pool_at}
use Rattle.class_text.specs.Elements.{leads_to_text}
use Rattle.class_text.specs.Attributes.{text_or_empty, is_first, bootstraps_at, constant_value_at, code_at, stack_map_at, annotations_at, other_at, own_name, own_content_at, content_at, code_content_at, code_attribute_at, code_attributes_at, code_bytes_at, leads_to_caught, handler_at, named_at, attribute_by, attribute_at, attributes_at}
use Rattle.class_text.specs.Classes.{leads_to_field_name, leads_to_method_name, leads_to_field_type, leads_to_method_type, is_barred, field_at, method_at, leads_to_super, minor_at, major_at, behind_pool_at, class_at_front, class_of}
use Rattle.class_text.specs.Places.{IsInContent, IsInCode, Stops, IsInFile, is_left}
use Rattle.class_text.proofs.Places.{Failed, first, later, bind_err, err_is, failed}
use Rattle.class_text.proofs.Readers.{Reads, bind}
use Rattle.class_text.proofs.Steps.{judged, handler_of, handler_caught, handler_start, handler_stop, code_made, code_inner, code_table, code_run, code_locals, member_of, field_attributes, field_type, field_name, method_code, method_attributes, method_type, method_name, class_made, class_attributes, class_methods, class_fields, class_interfaces, class_super, class_this}
use Rattle.class_text.proofs.Parts.{u2_reads, u4_reads, each_counted}
use Rattle.class_text.proofs.Numbered.{IsFew}
use Rattle.class_text.proofs.ElementLaws.{text_reads}
use Rattle.class_text.proofs.AttributeLaws.{handler_reads, code_contents}
use Rattle.class_text.proofs.FramedLaws.{named_reads, attribute_reads}
use Rattle.class_text.proofs.CodeLaws.{form_named, code_bytes_read, contents_read, attributes_of}
use Rattle.class_text.proofs.MemberLaws.{field_names, field_types, field_reads, method_names, method_types, method_reads, fields_read, methods_read}
use Rattle.class_text.proofs.ClassLaws.{class_numbers, super_numbers, minor_reads, major_reads, IsMajor, pool_reads, few_of}
use Rattle.class_text.proofs.Inside.{u2_inside, index_inside}
use Rattle.class_text.proofs.AttributePlaces.{named_inside}
use Rattle.class_text.proofs.Stops.{Tied, NoFault, IsAt, CutsNothing, lift_tied, stops_later, stops_first, stops_here, bind_tied, made_tied, fail_tied, give_tied, either_tied, here_tied, u2_tied, u2_none, u4_tied, index_tied, index_none, counted_tied, run_tied, within_tied}
use Rattle.class_text.proofs.PoolStops.{pool_stops}

-- ---- attributes

pub was_cut : {A : Type 0} (p : ℕ) (f : Fault) → failed {A = A} (cut_short p) ≡ failed {A = A} f → is_cut f ≡ true
was_cut p f e = sym (ap is_cut (err_is (cut_short p) f e))

-- where a content has no bytes it is only cut
content_nothing : (pool : Pool) (stand : Place) (name at end : ℕ) (f : Fault) → content_at pool stand name at end [] ≡ Err f → is_cut f ≡ true
unfolding content_at bootstraps_at constant_value_at code_at stack_map_at annotations_at other_at counted_after index_at u2_at
content_nothing pool stand name at end f e = go (cases_Bool (bytes_eq (own_name stand) (text_or_empty pool name))) (cases_Bool (is_known stand (text_or_empty pool name)))
  where
    own : (s : Place) → own_content_at pool s name at end [] ≡ Err f → is_cut f ≡ true
    own in_class e = was_cut (place end []) f e
    own (in_field d) e = was_cut (place end []) f e
    own in_method e = was_cut (place end []) f e
    own in_code e = was_cut (place end []) f e

    go : (bytes_eq (own_name stand) (text_or_empty pool name) ≡ true) ⊎ (bytes_eq (own_name stand) (text_or_empty pool name) ≡ false) → (is_known stand (text_or_empty pool name) ≡ true) ⊎ (is_known stand (text_or_empty pool name) ≡ false) → is_cut f ≡ true
    go (inl y) k = own stand (rw y at e)
    go (inr n) (inl y) = was_cut (place end []) f (rw (n, y) at e)
    go (inr n) (inr m) = absurd (let bad : other_at name end [] ≡ Err f = rw (n, m) at e in cc)

code_content_nothing : (pool : Pool) (stand : Place) (name at end : ℕ) (f : Fault) → code_content_at pool name at end [] ≡ Err f → is_cut f ≡ true
unfolding code_content_at stack_map_at other_at counted_after u2_at
code_content_nothing pool stand name at end f e = elim (cases_Bool (bytes_eq (codes "StackMapTable") (text_or_empty pool name))) [
  | inl y ↦ was_cut (place end []) f (rw y at e)
  | inr n ↦ absurd (let bad : other_at name end [] ≡ Err f = rw n at e in cc)
]

module _ (pool : Pool) (few : IsFew pool) (stand : Place) (barred : Bool) (before : List Attribute) (contents : Place → ℕ → ℕ → Reader Attribute) where
  abbrev Within : ℕ → List ℕ → Fault → Type 0
  Within = IsInContent contents pool

  judged_tied : (at n : ℕ) → Tied (suc at) (IsAt at) Within (judged pool stand barred before at n)
  judged_tied at n =
      either_tied (suc at) (IsAt at) Within (is_first (is_known stand) bytes_eq (map (attribute_name pool) before) (text_or_empty pool n)) (λ end bytes. cond (barred && bytes_eq (codes "Code") (text_or_empty pool n)) (Err (bad_attribute at barred_code)) (Ok (n, bytes))) (λ end bytes. Err (second_attribute at))
      (either_tied (suc at) (IsAt at) Within (barred && bytes_eq (codes "Code") (text_or_empty pool n)) (λ end bytes. Err (bad_attribute at barred_code)) (λ end bytes. Ok (n, bytes)) (fail_tied (suc at) (IsAt at) Within (bad_attribute at barred_code) refl) (give_tied (suc at) (IsAt at) Within n))
      (fail_tied (suc at) (IsAt at) Within (second_attribute at) refl)

  named_none : CutsNothing (named_at pool stand barred before)
  unfolding named_at index_at u2_at
  named_none end = refl

  named_tied : (low : ℕ) → Tied low NoFault Within (named_at pool stand barred before)
  unfolding named_at
  named_tied low =
      here_tied low 2 Within (index_at (leads_to_text pool)) (λ n. leads_to_text pool n ≡ true) (to_be_bytes w16) (judged pool stand barred before) (omega arith) (index_none (leads_to_text pool)) (text_reads pool few) (index_inside (leads_to_text pool) low) (index_tied low NoFault Within (leads_to_text pool))
      (λ at n p. judged_tied at n)

  -- an attribute, whose content is only cut where it has no bytes
  attribute_tied : (low : ℕ) (IsNamed : ℕ → Type 0) → Reads (named_at pool stand barred before) IsNamed (to_be_bytes w16) → ((name : ℕ) → IsNamed name → leads_to_text pool name ≡ true)
      → ((name at end : ℕ) (f : Fault) → contents stand name at end [] ≡ Err f → is_cut f ≡ true) → Tied low NoFault Within (attribute_by (contents stand) pool stand barred before)
  unfolding attribute_by
  attribute_tied low IsNamed names text nothing =
      here_tied low 2 Within (named_at pool stand barred before) IsNamed (to_be_bytes w16) (λ at name. bind u4_at (λ len. within at len (contents stand name at))) (omega arith) named_none names (named_inside pool stand barred before low) (named_tied low)
      (λ at name p. bind_tied (suc at) (IsAt at) Within u4_at (λ n. n < 2 ^ 32) (to_be_bytes w32) (λ len. within at len (contents stand name at)) u4_reads (u4_tied (suc at) (IsAt at) Within)
      (λ len q. within_tied contents pool stand name at len (text name p) (nothing name at)))

-- ---- code

module _ (pool : Pool) (few : IsFew pool) where
  abbrev InCode : ℕ → List ℕ → Fault → Type 0
  InCode = IsInCode pool

  code_attributes_tied : (low : ℕ) (K : Fault → Type 0) → Tied low K InCode (code_attributes_at pool)
  unfolding code_attributes_at code_attribute_at
  code_attributes_tied low K =
      counted_tied low K InCode (code_attribute_at pool) _ _
      (attribute_reads pool few in_code false (code_content_at pool) (λ a. HasForm (λ inner. ⊥) pool in_code (out-Attribute a)) (λ a. spelling.content_by spelling.no_attribute (out-Attribute a)) (λ name at named. code_contents pool few name named at) (λ a is. form_named (λ inner. ⊥) pool in_code (out-Attribute a) is))
      (λ before. lift_tied low K InCode (code_attribute_at pool before) (attribute_tied pool few in_code false before (λ stand. code_content_at pool) low _
      (named_reads pool few in_code false (code_content_at pool) (λ a. HasForm (λ inner. ⊥) pool in_code (out-Attribute a)) (λ a. spelling.content_by spelling.no_attribute (out-Attribute a)) (λ name at named. code_contents pool few name named at) (λ a is. form_named (λ inner. ⊥) pool in_code (out-Attribute a) is) before)
      (λ name p. p.0) (code_content_nothing pool in_code)))

  code_bytes_tied : (at : ℕ) → Tied (suc at) (IsAt at) InCode (code_bytes_at at)
  unfolding code_bytes_at
  code_bytes_tied at =
      bind_tied (suc at) (IsAt at) InCode u4_at (λ n. n < 2 ^ 32) (to_be_bytes w32) (λ len end bytes. cond (ltb 0 len && leb len 65535) (run_at len end bytes) (Err (bad_attribute at (bad_length len)))) u4_reads (u4_tied (suc at) (IsAt at) InCode)
      (λ len p. either_tied (suc at) (IsAt at) InCode (ltb 0 len && leb len 65535) (run_at len) (λ end bytes. Err (bad_attribute at (bad_length len))) (run_tied (suc at) (IsAt at) InCode len) (fail_tied (suc at) (IsAt at) InCode (bad_attribute at (bad_length len)) refl))

  handler_tied : (low : ℕ) (K : Fault → Type 0) → Tied low K InCode (handler_at pool)
  unfolding handler_at
  handler_tied low K =
      bind_tied low K InCode u2_at (λ n. n < 2 ^ 16) (to_be_bytes w16) (handler_stop pool) u2_reads (u2_tied low K InCode)
      (λ start a. bind_tied low K InCode u2_at (λ n. n < 2 ^ 16) (to_be_bytes w16) (handler_start pool start) u2_reads (u2_tied low K InCode)
      (λ stop b. bind_tied low K InCode u2_at (λ n. n < 2 ^ 16) (to_be_bytes w16) (handler_caught pool start stop) u2_reads (u2_tied low K InCode)
      (λ handler c. made_tied low K InCode (index_at (leads_to_caught pool)) (handler_of start stop handler) (index_tied low K InCode (leads_to_caught pool)))))

  pub code_tied : (name at : ℕ) → Tied (suc at) (IsAt at) InCode (code_at pool name at)
  unfolding code_at
  code_tied name at =
      bind_tied (suc at) (IsAt at) InCode u2_at (λ n. n < 2 ^ 16) (to_be_bytes w16) (code_locals pool name at) u2_reads (u2_tied (suc at) (IsAt at) InCode)
      (λ stack a. bind_tied (suc at) (IsAt at) InCode u2_at (λ n. n < 2 ^ 16) (to_be_bytes w16) (code_run pool name at stack) u2_reads (u2_tied (suc at) (IsAt at) InCode)
      (λ locals b. bind_tied (suc at) (IsAt at) InCode (code_bytes_at at) _ _ (code_table pool name at stack locals) (code_bytes_read pool few at) (code_bytes_tied at)
      (λ code c. bind_tied (suc at) (IsAt at) InCode (counted_at (handler_at pool)) _ _ (code_inner pool name at stack locals code) (each_counted (handler_at pool) (IsHandler pool) spelling.handler (handler_reads pool few))
      (counted_tied (suc at) (IsAt at) InCode (λ before. handler_at pool) (λ before. IsHandler pool) spelling.handler (λ before. handler_reads pool few) (λ before. handler_tied (suc at) (IsAt at)))
      (λ table d. made_tied (suc at) (IsAt at) InCode (code_attributes_at pool) (code_made pool name at stack locals code table) (code_attributes_tied (suc at) (IsAt at))))))

-- ---- the attributes of a class, a field or a method

module _ (pool : Pool) (few : IsFew pool) where
  abbrev There : ℕ → List ℕ → Fault → Type 0
  There = IsInContent (content_at pool) pool

  attributes_tied : (low : ℕ) (K : Fault → Type 0) (stand : Place) (barred : Bool) → Tied low K There (attributes_at pool stand barred)
  unfolding attributes_at attribute_at
  attributes_tied low K stand barred =
      counted_tied low K There (attribute_at pool stand barred) _ _
      (attribute_reads pool few stand barred (content_at pool stand) (λ a. HasForm (IsCodeAttributes pool) pool stand (out-Attribute a)) (λ a. spelling.content_by spelling.code_attribute (out-Attribute a)) (λ name at named. contents_read pool few stand name at named) (λ a is. form_named (IsCodeAttributes pool) pool stand (out-Attribute a) is))
      (λ before. lift_tied low K There (attribute_at pool stand barred before) (attribute_tied pool few stand barred before (content_at pool) low _
      (named_reads pool few stand barred (content_at pool stand) (λ a. HasForm (IsCodeAttributes pool) pool stand (out-Attribute a)) (λ a. spelling.content_by spelling.code_attribute (out-Attribute a)) (λ name at named. contents_read pool few stand name at named) (λ a is. form_named (IsCodeAttributes pool) pool stand (out-Attribute a) is) before)
      (λ name p. p.0) (content_nothing pool stand)))

  -- ---- members

  field_tied : (before : List Member) (low : ℕ) → Tied low NoFault There (field_at pool before)
  unfolding field_at
  field_tied before low =
      bind_tied low NoFault There u2_at (λ n. n < 2 ^ 16) (to_be_bytes w16) (field_name pool before) u2_reads (u2_tied low NoFault There)
      (λ flags a. bind_tied low NoFault There (index_at (leads_to_field_name pool)) _ _ (field_type pool before flags) (field_names pool few before) (index_tied low NoFault There (leads_to_field_name pool))
      (λ name b. bind_tied low NoFault There (index_at (leads_to_field_type pool before name)) _ _ (field_attributes pool before flags name) (field_types pool few before name) (index_tied low NoFault There (leads_to_field_type pool before name))
      (λ descriptor c. made_tied low NoFault There (attributes_at pool (in_field (text_or_empty pool descriptor)) false) (member_of flags name descriptor) (attributes_tied low NoFault (in_field (text_or_empty pool descriptor)) false))))

  method_tied : (before : List Member) (low : ℕ) → Tied low NoFault There (method_at pool before)
  unfolding method_at
  method_tied before low =
      here_tied low 2 There u2_at (λ n. n < 2 ^ 16) (to_be_bytes w16) (method_name pool before) (omega arith) u2_none u2_reads (u2_inside low) (u2_tied low NoFault There)
      (λ at flags a. bind_tied (suc at) (IsAt at) There (index_at (leads_to_method_name pool)) _ _ (method_type pool before at flags) (method_names pool few before) (index_tied (suc at) (IsAt at) There (leads_to_method_name pool))
      (λ name b. bind_tied (suc at) (IsAt at) There (index_at (leads_to_method_type pool before flags name)) _ _ (method_attributes pool before at flags name) (method_types pool few before flags name) (index_tied (suc at) (IsAt at) There (leads_to_method_type pool before flags name))
      (λ descriptor c. bind_tied (suc at) (IsAt at) There (attributes_at pool in_method (is_barred flags)) _ _ (method_code pool before at flags name descriptor) (attributes_of pool few in_method (is_barred flags)) (attributes_tied (suc at) (IsAt at) in_method (is_barred flags))
      (λ found d. either_tied (suc at) (IsAt at) There (is_barred flags || has_code found) (λ end bytes. Ok (member_of flags name descriptor found, bytes)) (λ end bytes. Err (code_missing at))
      (give_tied (suc at) (IsAt at) There (member_of flags name descriptor found)) (fail_tied (suc at) (IsAt at) There (code_missing at) refl)))))

  -- ---- what stands behind the pool

  module _ (minor major : ℕ) where
    behind_pool_tied : (low : ℕ) → Tied low NoFault There (behind_pool_at minor major pool)
    unfolding behind_pool_at
    behind_pool_tied low =
        bind_tied low NoFault There u2_at (λ n. n < 2 ^ 16) (to_be_bytes w16) (class_this minor major pool) u2_reads (u2_tied low NoFault There)
        (λ flags a. bind_tied low NoFault There (index_at (is_plain_class pool)) _ _ (class_super minor major pool flags) numbers (index_tied low NoFault There (is_plain_class pool))
        (λ this b. bind_tied low NoFault There (index_at (leads_to_super pool this)) _ _ (class_interfaces minor major pool flags this) (super_numbers minor major pool few this) (index_tied low NoFault There (leads_to_super pool this))
        (λ above c. bind_tied low NoFault There (counted_at (index_at (is_plain_class pool))) _ _ (class_fields minor major pool flags this above) (each_counted (index_at (is_plain_class pool)) (λ n. is_plain_class pool n ≡ true) (to_be_bytes w16) numbers)
        (counted_tied low NoFault There (λ before. index_at (is_plain_class pool)) (λ before n. is_plain_class pool n ≡ true) (to_be_bytes w16) (λ before. numbers) (λ before. index_tied low NoFault There (is_plain_class pool)))
        (λ interfaces d. bind_tied low NoFault There (counted_after (field_at pool)) _ _ (class_methods minor major pool flags this above interfaces) (fields_read pool few) (counted_tied low NoFault There (field_at pool) _ _ (field_reads pool few) (λ before. field_tied before low))
        (λ fields p. bind_tied low NoFault There (counted_after (method_at pool)) _ _ (class_attributes minor major pool flags this above interfaces fields) (methods_read pool few) (counted_tied low NoFault There (method_at pool) _ _ (method_reads pool few) (λ before. method_tied before low))
        (λ methods q. made_tied low NoFault There (attributes_at pool in_class false) (class_made minor major pool flags this above interfaces fields methods) (attributes_tied low NoFault in_class false)))))))
      where
        numbers : Reads (index_at (is_plain_class pool)) (λ n. is_plain_class pool n ≡ true) (to_be_bytes w16)
        numbers = class_numbers minor major pool few

-- ---- the front of a file

module _ (W : ℕ → List ℕ → Fault → Type 0) where
  minor_tied : Tied 0 (IsAt 0) W minor_at
  unfolding minor_at
  minor_tied =
      bind_tied 0 (IsAt 0) W u4_at (λ n. n < 2 ^ 32) (to_be_bytes w32) (λ found end bytes. cond (eqb found spelling.magic) (u2_at end bytes) (Err bad_magic)) u4_reads (u4_tied 0 (IsAt 0) W)
      (λ found p. either_tied 0 (IsAt 0) W (eqb found spelling.magic) u2_at (λ end bytes. Err bad_magic) (u2_tied 0 (IsAt 0) W) (fail_tied 0 (IsAt 0) W bad_magic refl))

  major_tied : Tied 6 (IsAt 6) W major_at
  unfolding major_at
  major_tied =
      bind_tied 6 (IsAt 6) W u2_at (λ n. n < 2 ^ 16) (to_be_bytes w16) (λ major end bytes. cond (leb 52 major && leb major 65) (Ok (major, bytes)) (Err (bad_major major))) u2_reads (u2_tied 6 (IsAt 6) W)
      (λ major p. either_tied 6 (IsAt 6) W (leb 52 major && leb major 65) (λ end bytes. Ok (major, bytes)) (λ end bytes. Err (bad_major major)) (give_tied 6 (IsAt 6) W major) (fail_tied 6 (IsAt 6) W (bad_major major) refl))

map_stops : {A : Type 0} (read : Reader A) (V W : ℕ → List ℕ → Fault → Type 0) (end : ℕ) (bytes : List ℕ) (f : Fault) → ((rest : List ℕ) → V end rest f → W end rest f) → Stops read V end bytes f → Stops read W end bytes f
map_stops read V W end bytes f on s = record { front = s.front; rest = s.rest; parts = s.parts; cut = s.cut; what = go s.rest s.what }
  where
    go : (rest : List ℕ) → (fault_place f ≡ place end rest) ⊎ V end rest f → (fault_place f ≡ place end rest) ⊎ W end rest f
    go rest (inl h) = inl h
    go rest (inr v) = inr (on rest v)

minor_none : CutsNothing minor_at
unfolding minor_at u4_at
minor_none p = refl

major_none : CutsNothing major_at
unfolding major_at u2_at
major_none p = refl

pub front_stops : (bytes : List ℕ) (f : Fault) → IsBytes bytes → class_at_front (length bytes) bytes ≡ Err f → Stops class_at_front (IsInFile bytes) (length bytes) bytes f
unfolding class_at_front
front_stops bytes f are e = minor (bind_err (minor_at end bytes) (λ x. behind_minor x.0 end x.1) f e)
  where
    end : ℕ
    end = length bytes

    W : ℕ → List ℕ → Fault → Type 0
    W = IsInFile bytes

    behind_major : ℕ → ℕ → Reader Class
    behind_major minor major = bind pool_at (λ pool. behind_pool_at minor major pool)

    behind_minor : ℕ → Reader Class
    behind_minor minor = bind major_at (behind_major minor)

    -- a number at the front of the file, whose own place is that where it begins
    own : {A : Type 0} (read : Reader A) (from : List ℕ) → CutsNothing read → (at : ℕ) → at ≡ place end from → Stops read W end from f ⊎ IsAt at f → Stops read W end from f
    own read from none at here (inl s) = s
    own read from none at here (inr k) = stops_here read W end from f none (k ∙ here)

    behind : (minor major : ℕ) (from : List ℕ) → IsBytes from → length from ≤ end → drop 8 bytes ≡ from → (pool : Pool) (after : List ℕ) → pool_at end from ≡ Ok (pool, after) → behind_pool_at minor major pool end after ≡ Err f → Stops (behind_major minor major) W end from f
    behind minor major from fits small eight pool after is e =
        let t = pool_reads.takes end from pool after fits is in
        let room : 0 + length after ≤ end = omega (arith, ap length t.1.parts ∙ length-append (spelling.pool pool) after, small) in
        stops_later pool_at IsPool spelling.pool (λ pool. behind_pool_at minor major pool) W end from pool after f pool_reads fits is
        (found (behind_pool_tied pool (few_of pool t.0) minor major 0 end after f t.1.rest_fits room e))
      where
        found : Stops (behind_pool_at minor major pool) (IsInContent (content_at pool) pool) end after f ⊎ NoFault f → Stops (behind_pool_at minor major pool) W end after f
        found (inl s) = map_stops (behind_pool_at minor major pool) (IsInContent (content_at pool) pool) W end after f (λ rest there. (pool, after, ap (pool_at end) eight ∙ is, there)) s
        found (inr n) = absurd n

    pools : (minor major : ℕ) (from : List ℕ) → IsBytes from → length from ≤ end → drop 8 bytes ≡ from → Failed (pool_at end from) (λ x. behind_pool_at minor major x.0 end x.1) f → Stops (behind_major minor major) W end from f
    pools minor major from fits small eight (first is) = stops_first pool_at (λ pool. behind_pool_at minor major pool) W end from f (pool_stops W end from f fits small is)
    pools minor major from fits small eight (later x is is') = behind minor major from fits small eight x.0 x.1 is is'

    majors : (minor : ℕ) (from : List ℕ) → IsBytes from → bytes ≡ (to_be_bytes w32 spelling.magic ++ to_be_bytes w16 minor) ++ from → Failed (major_at end from) (λ x. behind_major minor x.0 end x.1) f → Stops (behind_minor minor) W end from f
    majors minor from fits parts (first is) =
        let size = ap length parts ∙ length-append (to_be_bytes w32 spelling.magic ++ to_be_bytes w16 minor) from in
        stops_first major_at (behind_major minor) W end from f (own major_at from major_none 6 (omega (arith, size)) (major_tied W end from f fits (omega (arith, size)) is))
    majors minor from fits parts (later x is is') =
        let t = major_reads.takes end from x.0 x.1 fits is in
        let front = to_be_bytes w32 spelling.magic ++ to_be_bytes w16 minor in
        let all : bytes ≡ (front ++ to_be_bytes w16 x.0) ++ x.1 = parts ∙ ap (λ (l : List ℕ). front ++ l) t.1.parts ∙ sym (append_assoc front (to_be_bytes w16 x.0) x.1) in
        let eight : drop 8 bytes ≡ x.1 = ap (drop 8) all ∙ drop_at (front ++ to_be_bytes w16 x.0) x.1 8 refl in
        let small : length x.1 ≤ end = omega (arith, ap length all ∙ length-append (front ++ to_be_bytes w16 x.0) x.1) in
        stops_later major_at IsMajor (to_be_bytes w16) (behind_major minor) W end from x.0 x.1 f major_reads fits is
        (pools minor x.0 x.1 t.1.rest_fits small eight (bind_err (pool_at end x.1) (λ y. behind_pool_at minor x.0 y.0 end y.1) f is'))

    minor : Failed (minor_at end bytes) (λ x. behind_minor x.0 end x.1) f → Stops class_at_front W end bytes f
    minor (first is) = stops_first minor_at behind_minor W end bytes f (own minor_at bytes minor_none 0 (omega arith) (minor_tied W end bytes f are (omega arith) is))
    minor (later x is is') =
        let t = minor_reads.takes end bytes x.0 x.1 are is in
        stops_later minor_at (λ n. n < 2 ^ 16) (λ n. to_be_bytes w32 spelling.magic ++ to_be_bytes w16 n) behind_minor W end bytes x.0 x.1 f minor_reads are is
        (majors x.0 x.1 t.1.rest_fits t.1.parts (bind_err (major_at end x.1) (λ y. behind_major x.0 y.0 end y.1) f is'))

pub class_stops : (bytes : List ℕ) (f : Fault) → IsBytes bytes → class_of bytes ≡ Err f → is_left f ≡ false → Stops class_at_front (IsInFile bytes) (length bytes) bytes f
unfolding class_of
class_stops bytes f are e plain = go (bind_err (class_at_front (length bytes) bytes) ended f e)
  where
    ended : Class × List ℕ → Result Class Fault
    ended found = cond (eqb (length found.1) 0) (Ok found.0) (Err (bytes_left (place (length bytes) found.1)))

    go : Failed (class_at_front (length bytes) bytes) ended f → Stops class_at_front (IsInFile bytes) (length bytes) bytes f
    go (first is) = front_stops bytes f are is
    go (later x is is') = elim (cases_Bool (eqb (length x.1) 0)) [
      | inl y ↦ absurd (let bad : Ok x.0 ≡ Err f = rw y at is' in cc)
      | inr g ↦ absurd (let same : bytes_left (place (length bytes) x.1) ≡ f = err_is {A = Class} (bytes_left (place (length bytes) x.1)) f (rw g at is') in let bad : true ≡ false = ap is_left same ∙ plain in cc)
    ]
