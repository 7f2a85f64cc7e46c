-- What holds of the readers of fields and methods.
use Rattle.std.proofs.Common.{◌≡◌, ℕ, ◌^◌, ◌<◌, Bool, true, false, not, ◌||◌, ◌⊎◌, List, [], ◌∷◌, ◌++◌, length, codes, bytes_eq, Ok, refl, sym, ap, ◌∙◌, append-nil, inl, inr}
use Rattle.std.specs.List.{AllByRecursion}
use Rattle.std.specs.Int.{w16, to_be_bytes}
use Rattle.std.proofs.lemmas.Bool.{cases_Bool, and_parts, and_from}
use Rattle.class_model.specs.declared.constant_pool.Pool.{Pool}
use Rattle.class_model.specs.declared.class_file.Member.{Member}
use Rattle.class_model.specs.declared.attribute_forms.Attribute.{Attribute, out-Attribute}
use Rattle.class_model.specs.declared.attribute_forms.Attribute.TheOpen.{Attribute-F}
use Rattle.class_model.specs.Layers.{AttributeLayer}
use Rattle.class_model.specs.ClassNames.{is_unqualified, is_method_name}
use Rattle.class_model.specs.Descriptors.{is_field_descriptor, is_method_descriptor}
use Rattle.class_model.specs.Constants.{text_at, is_some_that}
use Rattle.class_model.specs.Attributes.{in_field, in_method, HasForm, IsCodeAttributes, IsAttribute, IsAttributes}
use Rattle.class_model.specs.Shape.{are_same, most_slots, is_code_layer, has_code, IsField, IsMethod, IsMembers}
use Rattle.class_model.specs.Spelling as spelling
use Rattle.class_text.specs.Reading.{code_missing}
use Rattle.class_text.specs.Readers.{Reader, u2_at, index_at, counted_after}
use Rattle.class_text.specs.Elements.{leads_to_text}
use Rattle.class_text.specs.Attributes.{text_or_empty, is_first, attributes_at}
use Rattle.class_text.specs.Classes.{is_new, leads_to_field_name, leads_to_method_name, leads_to_field_type, leads_to_method_type, is_barred, field_at, method_at}
use Rattle.class_text.proofs.Readers.{Reads, as_reads, give_reads, made_reads, bind, bind_reads, unless_reads, here_reads}
use Rattle.class_text.proofs.Steps.{member_of, field_attributes, field_type, field_name, method_code, method_attributes, method_type, method_name}
use Rattle.class_text.proofs.Parts.{u2_reads, index_reads, counted_reads, AllAfter, all_split, all_joined}
use Rattle.class_text.proofs.Once.{once_from, once_after}
use Rattle.class_text.proofs.Numbered.{IsFew, some_that, numbered_text}
use Rattle.class_text.proofs.AttributeLaws.{four, another, is_named_by, not_known, own_known}
use Rattle.class_text.proofs.FramedLaws.{is_code_barred}
use Rattle.class_text.proofs.CodeLaws.{form_named, attributes_of, plain_attributes_of}

abbrev is_other_member : Pool → List Member → Member → Bool
is_other_member pool before m = is_first (λ m. true) (are_same pool) before m

-- ---- fields

module _ (pool : Pool) (few : IsFew pool) (before : List Member) where
  pub field_names : Reads (index_at (leads_to_field_name pool)) (λ n. leads_to_field_name pool n ≡ true) (to_be_bytes w16)
  unfolding leads_to_field_name
  field_names = index_reads (leads_to_field_name pool) (λ n e. numbered_text pool n few (some_that is_unqualified (text_at pool n) e))

  pub field_types : (name : ℕ) → Reads (index_at (leads_to_field_type pool before name)) (λ n. leads_to_field_type pool before name n ≡ true) (to_be_bytes w16)
  unfolding leads_to_field_type
  field_types name = index_reads (leads_to_field_type pool before name) (λ n e. numbered_text pool n few (some_that is_field_descriptor (text_at pool n) (and_parts (is_some_that is_field_descriptor (text_at pool n)) (is_new pool before name n) e).0))

  abbrev F3 : ℕ → ℕ → ℕ → Member → Type 0
  F3 flags name descriptor m = IsAttributes pool (in_field (text_or_empty pool descriptor)) m.attributes × (m ≡ member_of flags name descriptor m.attributes)

  abbrev F2 : ℕ → ℕ → Member → Type 0
  F2 flags name m = (leads_to_field_type pool before name m.descriptor ≡ true) × F3 flags name m.descriptor m

  abbrev F1 : ℕ → Member → Type 0
  F1 flags m = (leads_to_field_name pool m.name ≡ true) × F2 flags m.name m

  abbrev s3 : Member → List ℕ
  s3 m = spelling.counted spelling.attribute m.attributes

  abbrev s2 : Member → List ℕ
  s2 m = to_be_bytes w16 m.descriptor ++ s3 m

  abbrev s1 : Member → List ℕ
  s1 m = to_be_bytes w16 m.name ++ s2 m

  field_reads_raw : Reads (bind u2_at (field_name pool before)) (λ m. (m.flags < 2 ^ 16) × F1 m.flags m) (λ m. to_be_bytes w16 m.flags ++ s1 m)
  field_reads_raw =
      bind_reads u2_at (λ n. n < 2 ^ 16) (to_be_bytes w16) (field_name pool before) F1 (λ flags. s1) (λ m. m.flags) u2_reads
      (λ flags a. bind_reads (index_at (leads_to_field_name pool)) (λ n. leads_to_field_name pool n ≡ true) (to_be_bytes w16) (field_type pool before flags) (F2 flags) (λ name. s2) (λ m. m.name) field_names
      (λ name b. bind_reads (index_at (leads_to_field_type pool before name)) (λ n. leads_to_field_type pool before name n ≡ true) (to_be_bytes w16) (field_attributes pool before flags name) (F3 flags name) (λ descriptor. s3) (λ m. m.descriptor) (field_types name)
      (λ descriptor c. made_reads (attributes_at pool (in_field (text_or_empty pool descriptor)) false) (IsAttributes pool (in_field (text_or_empty pool descriptor))) (spelling.counted spelling.attribute) (member_of flags name descriptor) (λ m. m.attributes) (λ xs. refl) (plain_attributes_of pool few (in_field (text_or_empty pool descriptor))))
      (λ descriptor m q. ap (λ (x : Member). x.descriptor) q.1))
      (λ name m q. ap (λ (x : Member). x.name) q.1.1))
      (λ flags m q. ap (λ (x : Member). x.flags) q.1.1.1)

  pub field_reads : Reads (field_at pool before) (λ m. IsField pool m × (is_other_member pool before m ≡ true)) spelling.member
  unfolding field_at leads_to_field_name leads_to_field_type is_new spelling.member is_first
  field_reads =
      as_reads (field_at pool before) (λ m. (m.flags < 2 ^ 16) × F1 m.flags m) (λ m. to_be_bytes w16 m.flags ++ s1 m) (λ m. IsField pool m × (is_other_member pool before m ≡ true)) spelling.member field_reads_raw
      (λ m p. let both = and_parts (is_some_that is_field_descriptor (text_at pool m.descriptor)) (is_other_member pool before m) p.1.1.0 in
      (record { flags = p.0; name = p.1.0; descriptor = both.0; attributes = p.1.1.1.0 }, both.1))
      (λ m q. (q.0.flags, (q.0.name, (and_from (is_some_that is_field_descriptor (text_at pool m.descriptor)) (is_other_member pool before m) q.0.descriptor q.1, (q.0.attributes, refl)))))
      (λ m q. four (to_be_bytes w16 m.flags) (to_be_bytes w16 m.name) (to_be_bytes w16 m.descriptor) (s3 m))

-- ---- methods and their code

-- Code is what is named so.
code_named : (Inner : List Attribute → Type 0) (pool : Pool) → IsFew pool → (l : AttributeLayer) → HasForm Inner pool in_method l → is_code_layer l ≡ bytes_eq (codes "Code") (text_or_empty pool (spelling.name_of l))
code_named Inner pool few (Attribute-F.Code n a b c d e) is =
    sym (sym (is_named_by pool few n (form_named Inner pool in_method (Attribute-F.Code n a b c d e) is) (codes "Code")) ∙ is.0)
code_named Inner pool few (Attribute-F.Annotations n list) is = sym (not_code (form_named Inner pool in_method (Attribute-F.Annotations n list) is) (cases_Bool (bytes_eq (codes "Code") (text_or_empty pool n))))
  where
    not_code : leads_to_text pool n ≡ true → (bytes_eq (codes "Code") (text_or_empty pool n) ≡ true) ⊎ (bytes_eq (codes "Code") (text_or_empty pool n) ≡ false) → bytes_eq (codes "Code") (text_or_empty pool n) ≡ false
    not_code named (inl y) = another (codes "Code") (codes "RuntimeVisibleAnnotations") (text_or_empty pool n) y (sym (is_named_by pool few n named (codes "RuntimeVisibleAnnotations")) ∙ is.0) refl
    not_code named (inr f) = f
code_named Inner pool few (Attribute-F.Other n bytes) is = sym (not_code (form_named Inner pool in_method (Attribute-F.Other n bytes) is) (cases_Bool (bytes_eq (codes "Code") (text_or_empty pool n))))
  where
    not_code : leads_to_text pool n ≡ true → (bytes_eq (codes "Code") (text_or_empty pool n) ≡ true) ⊎ (bytes_eq (codes "Code") (text_or_empty pool n) ≡ false) → bytes_eq (codes "Code") (text_or_empty pool n) ≡ false
    not_code named (inl y) =
        let known = own_known pool few n named in_method y in
        absurd (let h : false ≡ true = ap not (sym known) ∙ sym (not_known pool few n named in_method) ∙ is.name in cc)
    not_code named (inr f) = f
code_named Inner pool few _ is = absurd is

abbrev IsUnbarred : Pool → Bool → List Attribute → Type 0
IsUnbarred pool barred xs = AllByRecursion (λ a. is_code_barred pool barred a ≡ false) xs

without_code : (pool : Pool) → IsFew pool → (xs : List Attribute) → AllByRecursion (IsAttribute pool in_method) xs → IsUnbarred pool true xs → has_code xs ≡ false
without_code pool few [] all u = refl
without_code pool few (x ∷ xs) all u =
    let this : is_code_layer (out-Attribute x) ≡ false = code_named (IsCodeAttributes pool) pool few (out-Attribute x) all.0.form ∙ u.0 in
    rw (this, without_code pool few xs all.1 u.1) refl

code_unbarred : (pool : Pool) → IsFew pool → (xs : List Attribute) → AllByRecursion (IsAttribute pool in_method) xs → has_code xs ≡ false → IsUnbarred pool true xs
code_unbarred pool few [] all none = tt
code_unbarred pool few (x ∷ xs) all none =
    let parts = neither (is_code_layer (out-Attribute x)) (has_code xs) none in
    (sym (code_named (IsCodeAttributes pool) pool few (out-Attribute x) all.0.form) ∙ parts.0, code_unbarred pool few xs all.1 parts.1)
  where
    neither : (a b : Bool) → (a || b) ≡ false → (a ≡ false) × (b ≡ false)
    neither true b e = absurd cc
    neither false b e = (refl, e)

has_its_code : (pool : Pool) → IsFew pool → (barred : Bool) (xs : List Attribute) → AllByRecursion (IsAttribute pool in_method) xs → IsUnbarred pool barred xs → (barred || has_code xs) ≡ true → has_code xs ≡ not barred
has_its_code pool few true xs all u e = without_code pool few xs all u
has_its_code pool few false xs all u e = e

its_code_unbarred : (pool : Pool) → IsFew pool → (barred : Bool) (xs : List Attribute) → AllByRecursion (IsAttribute pool in_method) xs → has_code xs ≡ not barred → IsUnbarred pool barred xs × ((barred || has_code xs) ≡ true)
its_code_unbarred pool few true xs all e = (code_unbarred pool few xs all e, refl)
its_code_unbarred pool few false xs all e = (free xs, e)
  where
    free : (ys : List Attribute) → IsUnbarred pool false ys
    free [] = tt
    free (y ∷ ys) = (refl, free ys)

module _ (pool : Pool) (few : IsFew pool) (before : List Member) where
  pub method_names : Reads (index_at (leads_to_method_name pool)) (λ n. leads_to_method_name pool n ≡ true) (to_be_bytes w16)
  unfolding leads_to_method_name
  method_names = index_reads (leads_to_method_name pool) (λ n e. numbered_text pool n few (some_that is_method_name (text_at pool n) e))

  pub method_types : (flags name : ℕ) → Reads (index_at (leads_to_method_type pool before flags name)) (λ n. leads_to_method_type pool before flags name n ≡ true) (to_be_bytes w16)
  unfolding leads_to_method_type
  method_types flags name =
      index_reads (leads_to_method_type pool before flags name) (λ n e. numbered_text pool n few (some_that (is_method_descriptor (most_slots flags)) (text_at pool n) (and_parts (is_some_that (is_method_descriptor (most_slots flags)) (text_at pool n)) (is_new pool before name n) e).0))

  abbrev IsList : ℕ → List Attribute → Type 0
  IsList flags xs = IsAttributes pool in_method xs × IsUnbarred pool (is_barred flags) xs

  abbrev M4 : ℕ → ℕ → ℕ → List Attribute → Member → Type 0
  M4 flags name descriptor found m = ((is_barred flags || has_code found) ≡ true) × (m ≡ member_of flags name descriptor found)

  abbrev M3 : ℕ → ℕ → ℕ → Member → Type 0
  M3 flags name descriptor m = IsList flags m.attributes × M4 flags name descriptor m.attributes m

  abbrev M2 : ℕ → ℕ → Member → Type 0
  M2 flags name m = (leads_to_method_type pool before flags name m.descriptor ≡ true) × M3 flags name m.descriptor m

  abbrev M1 : ℕ → Member → Type 0
  M1 flags m = (leads_to_method_name pool m.name ≡ true) × M2 flags m.name m

  abbrev t3 : Member → List ℕ
  t3 m = spelling.counted spelling.attribute m.attributes ++ []

  abbrev t2 : Member → List ℕ
  t2 m = to_be_bytes w16 m.descriptor ++ t3 m

  abbrev t1 : Member → List ℕ
  t1 m = to_be_bytes w16 m.name ++ t2 m

  method_reads_raw : (at : ℕ) → Reads (bind u2_at (method_name pool before at)) (λ m. (m.flags < 2 ^ 16) × M1 m.flags m) (λ m. to_be_bytes w16 m.flags ++ t1 m)
  method_reads_raw at =
      bind_reads u2_at (λ n. n < 2 ^ 16) (to_be_bytes w16) (method_name pool before at) M1 (λ flags. t1) (λ m. m.flags) u2_reads
      (λ flags a. bind_reads (index_at (leads_to_method_name pool)) (λ n. leads_to_method_name pool n ≡ true) (to_be_bytes w16) (method_type pool before at flags) (M2 flags) (λ name. t2) (λ m. m.name) method_names
      (λ name b. bind_reads (index_at (leads_to_method_type pool before flags name)) (λ n. leads_to_method_type pool before flags name n ≡ true) (to_be_bytes w16) (method_attributes pool before at flags name) (M3 flags name) (λ descriptor. t3) (λ m. m.descriptor) (method_types flags name)
      (λ descriptor c. bind_reads (attributes_at pool in_method (is_barred flags)) (IsList flags) (spelling.counted spelling.attribute) (method_code pool before at flags name descriptor) (M4 flags name descriptor) (λ found m. []) (λ m. m.attributes) (attributes_of pool few in_method (is_barred flags))
      (λ found d. unless_reads (is_barred flags || has_code found) (code_missing at) (λ end bytes. Ok (member_of flags name descriptor found, bytes)) (λ m. m ≡ member_of flags name descriptor found) (λ m. []) (λ y. give_reads (member_of flags name descriptor found)))
      (λ found m q. ap (λ (x : Member). x.attributes) q.1))
      (λ descriptor m q. ap (λ (x : Member). x.descriptor) q.1.1))
      (λ name m q. ap (λ (x : Member). x.name) q.1.1.1))
      (λ flags m q. ap (λ (x : Member). x.flags) q.1.1.1.1)

  method_spelled : (a b c d : List ℕ) → a ++ (b ++ (c ++ (d ++ []))) ≡ ((a ++ b) ++ c) ++ d
  method_spelled a b c d = ap (λ (l : List ℕ). a ++ (b ++ (c ++ l))) (append-nil d) ∙ four a b c d

  pub method_reads : Reads (method_at pool before) (λ m. IsMethod pool m × (is_other_member pool before m ≡ true)) spelling.member
  unfolding method_at leads_to_method_name leads_to_method_type is_new spelling.member is_first
  method_reads =
      here_reads (λ at. bind u2_at (method_name pool before at)) (λ m. IsMethod pool m × (is_other_member pool before m ≡ true)) spelling.member (λ at.
      as_reads (bind u2_at (method_name pool before at)) (λ m. (m.flags < 2 ^ 16) × M1 m.flags m) (λ m. to_be_bytes w16 m.flags ++ t1 m) (λ m. IsMethod pool m × (is_other_member pool before m ≡ true)) spelling.member (method_reads_raw at)
      (λ m p. let both = and_parts (is_some_that (is_method_descriptor (most_slots m.flags)) (text_at pool m.descriptor)) (is_other_member pool before m) p.1.1.0 in
      let listed = p.1.1.1.0 in
      (record { flags = p.0; name = p.1.0; descriptor = both.0; attributes = listed.0; code = has_its_code pool few (is_barred m.flags) m.attributes listed.0.each.1 listed.1 p.1.1.1.1.0 }, both.1))
      (λ m q. let code = its_code_unbarred pool few (is_barred m.flags) m.attributes q.0.attributes.each.1 q.0.code in
      (q.0.flags, (q.0.name, (and_from (is_some_that (is_method_descriptor (most_slots m.flags)) (text_at pool m.descriptor)) (is_other_member pool before m) q.0.descriptor q.1, ((q.0.attributes, code.0), (code.1, refl))))))
      (λ m q. method_spelled (to_be_bytes w16 m.flags) (to_be_bytes w16 m.name) (to_be_bytes w16 m.descriptor) (spelling.counted spelling.attribute m.attributes)))

-- ---- counted members

members_reads : (pool : Pool) (one : List Member → Reader Member) (Each : Member → Type 0) → ((before : List Member) → Reads (one before) (λ m. Each m × (is_other_member pool before m ≡ true)) spelling.member)
    → Reads (counted_after one) (IsMembers Each pool) (spelling.counted spelling.member)
members_reads pool one Each r =
    as_reads (counted_after one) (λ ms. (length ms < 2 ^ 16) × AllAfter (λ b m. Each m × (is_other_member pool b m ≡ true)) [] ms) (spelling.counted spelling.member) (IsMembers Each pool) (spelling.counted spelling.member)
    (counted_reads one (λ b m. Each m × (is_other_member pool b m ≡ true)) spelling.member r)
    (λ ms p. let parts = all_split Each (λ b m. is_other_member pool b m ≡ true) [] ms p.1 in record { each = (p.0, parts.0); once = (once_from (λ m. true) (are_same pool) [] ms parts.1).0 })
    (λ ms q. (q.each.0, all_joined Each (λ b m. is_other_member pool b m ≡ true) [] ms q.each.1 (once_after (λ m. true) (are_same pool) [] ms q.once tt)))
    (λ ms q. refl)

pub fields_read : (pool : Pool) → IsFew pool → Reads (counted_after (field_at pool)) (IsMembers (IsField pool) pool) (spelling.counted spelling.member)
fields_read pool few = members_reads pool (field_at pool) (IsField pool) (field_reads pool few)

pub methods_read : (pool : Pool) → IsFew pool → Reads (counted_after (method_at pool)) (IsMembers (IsMethod pool) pool) (spelling.counted spelling.member)
methods_read pool few = members_reads pool (method_at pool) (IsMethod pool) (method_reads pool few)
