-- What holds of the readers of annotations.
use Rattle.std.proofs.Common.{◌≡◌, ℕ, zero, suc, eqb, ◌^◌, ◌<◌, true, false, List, [], ◌∷◌, ◌++◌, length, Option, Some, None, ◌-◌, Ok, Err, refl, sym, ap, subst, ◌∙◌, arith}
use Rattle.std.specs.Str.{byte}
use Rattle.std.specs.Int.{w16, to_be_bytes}
use Rattle.std.proofs.lemmas.Bool.{eqb-true}
use Rattle.std.proofs.lemmas.Bool.Decides.{nat_tests}
use Rattle.class_model.specs.declared.constant_pool.Constant.{Constant}
use Rattle.class_model.specs.declared.constant_pool.Constant.TheVariants.{Utf8, Integer, Float, Long, Double}
use Rattle.class_model.specs.declared.constant_pool.Pool.{Pool}
use Rattle.class_model.specs.declared.annotation.Element.{Element, out-Element, roll-Element, out-roll-Element, roll-out-Element}
use Rattle.class_model.specs.declared.annotation.Element.TheOpen.{Element-F}
use Rattle.class_model.specs.declared.annotation.Note.{Note, out-Note, roll-Note, out-roll-Note, roll-out-Note}
use Rattle.class_model.specs.declared.annotation.Pair.{Pair, out-Pair, roll-Pair, out-roll-Pair, roll-out-Pair}
use Rattle.class_model.specs.Layers.{ElementLayer}
use Rattle.class_model.specs.Constants.{constant_at, text_at, is_some_that}
use Rattle.class_model.specs.Descriptors.{is_field_descriptor, is_return_descriptor}
use Rattle.class_model.specs.Annotations.{IsCounted, is_value_of, IsPairBy, IsNoteBy, IsElementBy, IsElement, IsAnnotation}
use Rattle.class_model.specs.Spelling as spelling
use Rattle.class_text.specs.Reading.{bad_tag, bad_attribute, too_deep}
use Rattle.class_text.specs.Readers.{Reader, u1_at, index_at, counted_at}
use Rattle.class_text.specs.Elements.{leads_to_text, leads_to_type, leads_to_result, leads_to_value_of, is_constant_tag, pair_by, note_by, enum_at, tagged_by, element_at, note_at}
use Rattle.class_text.proofs.Steps.{constant_value, class_value, note_value, array_value, not_note, not_class, not_enum, not_constant}
use Rattle.class_text.proofs.Readers.{Reads, as_reads, no_reads, made_reads, layer_reads, bind, bind_reads, either_reads, here_reads}
use Rattle.class_text.proofs.Parts.{u1_reads, index_reads, each_counted}
use Rattle.class_text.proofs.Numbered.{IsFew, some_that, numbered, numbered_text}

pub text_reads : (pool : Pool) → IsFew pool → Reads (index_at (leads_to_text pool)) (λ n. leads_to_text pool n ≡ true) (to_be_bytes w16)
unfolding leads_to_text
text_reads pool few = index_reads (leads_to_text pool) (λ n e. numbered_text pool n few e)

type_reads : (pool : Pool) → IsFew pool → Reads (index_at (leads_to_type pool)) (λ n. leads_to_type pool n ≡ true) (to_be_bytes w16)
unfolding leads_to_type
type_reads pool few = index_reads (leads_to_type pool) (λ n e. numbered_text pool n few (some_that is_field_descriptor (text_at pool n) e))

result_reads : (pool : Pool) → IsFew pool → Reads (index_at (leads_to_result pool)) (λ n. leads_to_result pool n ≡ true) (to_be_bytes w16)
unfolding leads_to_result
result_reads pool few = index_reads (leads_to_result pool) (λ n e. numbered_text pool n few (some_that is_return_descriptor (text_at pool n) e))

value_reads : (pool : Pool) → IsFew pool → (tag : ℕ) → Reads (index_at (leads_to_value_of pool tag)) (λ n. leads_to_value_of pool tag n ≡ true) (to_be_bytes w16)
unfolding leads_to_value_of
value_reads pool few tag = index_reads (leads_to_value_of pool tag) (λ n e. numbered pool n few (some_that (is_value_of tag) (constant_at pool n) e))

module _ (pool : Pool) (few : IsFew pool) (value : Reader Element) (W : Element → Type 0) (s : Element → List ℕ) (values : Reads value W s) where
  pair_reads : Reads (pair_by value pool) (IsPairBy W pool) (spelling.pair_by s)
  unfolding pair_by leads_to_text spelling.pair_by
  pair_reads =
      as_reads (pair_by value pool) (λ p. (leads_to_text pool (out-Pair p).name ≡ true) × (W (out-Pair p).value × (p ≡ roll-Pair (record { name = (out-Pair p).name; value = (out-Pair p).value })))) (λ p. to_be_bytes w16 (out-Pair p).name ++ s (out-Pair p).value) (IsPairBy W pool) (spelling.pair_by s)
      (bind_reads (index_at (leads_to_text pool)) (λ n. leads_to_text pool n ≡ true) (to_be_bytes w16) (λ name. bind value (λ v end bytes. Ok (roll-Pair (record { name = name; value = v }), bytes)))
      (λ name p. W (out-Pair p).value × (p ≡ roll-Pair (record { name = name; value = (out-Pair p).value }))) (λ name p. s (out-Pair p).value) (λ p. (out-Pair p).name) (text_reads pool few)
      (λ name h. made_reads value W s (λ v. roll-Pair (record { name = name; value = v })) (λ p. (out-Pair p).value) (λ v. ap (λ r. r.value) (out-roll-Pair (record { name = name; value = v }))) values)
      (λ name p q. ap (λ (x : Pair). (out-Pair x).name) q.1 ∙ ap (λ r. r.name) (out-roll-Pair (record { name = name; value = (out-Pair p).value }))))
      (λ p q. record { name = q.0; value = q.1.0 }) (λ p q. (q.name, (q.value, sym (roll-out-Pair p)))) (λ p q. refl)

  pub note_reads : Reads (note_by value pool) (IsNoteBy W pool) (spelling.note_by s)
  unfolding note_by leads_to_type spelling.note_by
  note_reads =
      as_reads (note_by value pool) (λ n. (leads_to_type pool (out-Note n).kind ≡ true) × (IsCounted (IsPairBy W pool) (out-Note n).pairs × (n ≡ roll-Note (record { kind = (out-Note n).kind; pairs = (out-Note n).pairs })))) (λ n. to_be_bytes w16 (out-Note n).kind ++ spelling.counted (spelling.pair_by s) (out-Note n).pairs) (IsNoteBy W pool) (spelling.note_by s)
      (bind_reads (index_at (leads_to_type pool)) (λ n. leads_to_type pool n ≡ true) (to_be_bytes w16) (λ kind. bind (counted_at (pair_by value pool)) (λ v end bytes. Ok (roll-Note (record { kind = kind; pairs = v }), bytes)))
      (λ kind n. IsCounted (IsPairBy W pool) (out-Note n).pairs × (n ≡ roll-Note (record { kind = kind; pairs = (out-Note n).pairs }))) (λ kind n. spelling.counted (spelling.pair_by s) (out-Note n).pairs) (λ n. (out-Note n).kind) (type_reads pool few)
      (λ kind h. made_reads (counted_at (pair_by value pool)) (IsCounted (IsPairBy W pool)) (spelling.counted (spelling.pair_by s)) (λ v. roll-Note (record { kind = kind; pairs = v })) (λ n. (out-Note n).pairs) (λ v. ap (λ r. r.pairs) (out-roll-Note (record { kind = kind; pairs = v })))
      (each_counted (pair_by value pool) (IsPairBy W pool) (spelling.pair_by s) pair_reads))
      (λ kind n q. ap (λ (x : Note). (out-Note x).kind) q.1 ∙ ap (λ r. r.kind) (out-roll-Note (record { kind = kind; pairs = (out-Note n).pairs }))))
      (λ n q. record { kind = q.0; pairs = q.1.0 }) (λ n q. (q.kind, (q.pairs, sym (roll-out-Note n)))) (λ n q. refl)

-- the tag of a value, and what stands behind it
tag_of : ElementLayer → ℕ
tag_of (Element-F.Const tag index) = tag
tag_of (Element-F.Enum kind name) = byte "e"
tag_of (Element-F.OfClass class) = byte "c"
tag_of (Element-F.Nested note) = byte "@"
tag_of (Element-F.Many values) = byte "["

rest_of : (Element → List ℕ) → ElementLayer → List ℕ
rest_of s (Element-F.Const tag index) = to_be_bytes w16 index
rest_of s (Element-F.Enum kind name) = to_be_bytes w16 kind ++ to_be_bytes w16 name
rest_of s (Element-F.OfClass class) = to_be_bytes w16 class
rest_of s (Element-F.Nested note) = spelling.note_by s note
rest_of s (Element-F.Many values) = spelling.counted s values

spelled : (s : Element → List ℕ) (l : ElementLayer) → (tag_of l ∷ []) ++ rest_of s l ≡ spelling.element_by s l
unfolding tag_of rest_of
spelled s (Element-F.Const tag index) = refl
spelled s (Element-F.Enum kind name) = refl
spelled s (Element-F.OfClass class) = refl
spelled s (Element-F.Nested note) = refl
spelled s (Element-F.Many values) = refl

IsTagged : (Element → Type 0) → Pool → ℕ → ElementLayer → Type 0
IsTagged W pool tag l = (tag_of l ≡ tag) × IsElementBy W pool l

constant_fits : (tag : ℕ) → is_constant_tag tag ≡ true → tag < 2 ^ 8
constant_fits tag e = grind (arith, nat_tests)

value_tag : (tag : ℕ) (c : Constant) → is_value_of tag c ≡ true → is_constant_tag tag ≡ true
value_tag tag (Integer n) e = grind (arith, nat_tests)
value_tag tag (Float n) e = grind (arith, nat_tests)
value_tag tag (Long n) e = grind (arith, nat_tests)
value_tag tag (Double n) e = grind (arith, nat_tests)
value_tag tag (Utf8 n) e = grind (arith, nat_tests)
value_tag tag _ e = cc

value_tag_some : (pool : Pool) (tag n : ℕ) → is_some_that (is_value_of tag) (constant_at pool n) ≡ true → is_constant_tag tag ≡ true
value_tag_some pool tag n e = go (constant_at pool n) e
  where
    go : (found : Option Constant) → is_some_that (is_value_of tag) found ≡ true → is_constant_tag tag ≡ true
    go None e = absurd cc
    go (Some c) e = value_tag tag c e

module _ (pool : Pool) (few : IsFew pool) (value : Reader Element) (W : Element → Type 0) (s : Element → List ℕ) (values : Reads value W s) where
  abbrev Q : ℕ → Element → Type 0
  Q tag e = IsTagged W pool tag (out-Element e)

  abbrev t : Element → List ℕ
  t e = rest_of s (out-Element e)

  -- the parts of a level, where it has them
  index_of : ElementLayer → ℕ
  index_of (Element-F.Const tag index) = index
  index_of (Element-F.Enum kind name) = kind
  index_of (Element-F.OfClass class) = class
  index_of (Element-F.Nested note) = 0
  index_of (Element-F.Many values) = 0

  name_of : ElementLayer → ℕ
  name_of (Element-F.Enum kind name) = name
  name_of _ = 0

  note_of : ElementLayer → Note
  note_of (Element-F.Nested note) = note
  note_of _ = roll-Note (record { kind = 0; pairs = [] })

  values_of : ElementLayer → List Element
  values_of (Element-F.Many values) = values
  values_of _ = []

  -- no constant has the tag of another form
  other_tag : {P : Type 0} (tag k : ℕ) → is_constant_tag tag ≡ true → is_constant_tag k ≡ false → k ≡ tag → P
  other_tag tag k y n e = absurd (let h : false ≡ true = sym n ∙ ap is_constant_tag e ∙ y in cc)

  apart : {P : Type 0} (tag k m : ℕ) → eqb tag k ≡ true → eqb m k ≡ false → m ≡ tag → P
  apart tag k m y n e = absurd (let h : false ≡ true = sym n ∙ ap (λ x. eqb x k) e ∙ y in cc)

  constants : (tag : ℕ) → is_constant_tag tag ≡ true → Reads (bind (index_at (leads_to_value_of pool tag)) (λ n end bytes. Ok (roll-Element (Element-F.Const tag n), bytes))) (Q tag) t
  unfolding IsTagged tag_of rest_of leads_to_value_of index_of
  constants tag is =
      layer_reads roll-Element out-Element out-roll-Element roll-out-Element (index_at (leads_to_value_of pool tag)) (λ n. leads_to_value_of pool tag n ≡ true) (to_be_bytes w16) (Element-F.Const tag) index_of (λ n. refl) (IsTagged W pool tag) (rest_of s) (value_reads pool few tag)
      (λ n h. (refl, h)) from (λ n h. refl)
    where
      from : (l : ElementLayer) → IsTagged W pool tag l → (leads_to_value_of pool tag (index_of l) ≡ true) × (l ≡ Element-F.Const tag (index_of l))
      from (Element-F.Const k index) q = (subst (λ (n : ℕ). leads_to_value_of pool n index ≡ true) q.0 q.1, ap (λ (n : ℕ). Element-F.Const n index) q.0)
      from (Element-F.Enum kind name) q = other_tag tag (byte "e") is refl q.0
      from (Element-F.OfClass class) q = other_tag tag (byte "c") is refl q.0
      from (Element-F.Nested note) q = other_tag tag (byte "@") is refl q.0
      from (Element-F.Many vs) q = other_tag tag (byte "[") is refl q.0

  classes : (tag : ℕ) → is_constant_tag tag ≡ false → eqb tag (byte "c") ≡ true → Reads (bind (index_at (leads_to_result pool)) (λ n end bytes. Ok (roll-Element (Element-F.OfClass n), bytes))) (Q tag) t
  unfolding IsTagged tag_of rest_of leads_to_result index_of
  classes tag no_constant is =
      layer_reads roll-Element out-Element out-roll-Element roll-out-Element (index_at (leads_to_result pool)) (λ n. leads_to_result pool n ≡ true) (to_be_bytes w16) Element-F.OfClass index_of (λ n. refl) (IsTagged W pool tag) (rest_of s) (result_reads pool few)
      (λ n h. (sym (eqb-true tag (byte "c") is), h)) from (λ n h. refl)
    where
      from : (l : ElementLayer) → IsTagged W pool tag l → (leads_to_result pool (index_of l) ≡ true) × (l ≡ Element-F.OfClass (index_of l))
      from (Element-F.Const k index) q = absurd (let h : false ≡ true = sym no_constant ∙ ap is_constant_tag (sym q.0) ∙ value_tag_some pool k index q.1 in cc)
      from (Element-F.Enum kind name) q = apart tag (byte "c") (byte "e") is refl q.0
      from (Element-F.OfClass class) q = (q.1, refl)
      from (Element-F.Nested note) q = apart tag (byte "c") (byte "@") is refl q.0
      from (Element-F.Many vs) q = apart tag (byte "c") (byte "[") is refl q.0

  notes : (tag : ℕ) → is_constant_tag tag ≡ false → eqb tag (byte "@") ≡ true → Reads (bind (note_by value pool) (λ n end bytes. Ok (roll-Element (Element-F.Nested n), bytes))) (Q tag) t
  unfolding IsTagged tag_of rest_of note_of
  notes tag no_constant is =
      layer_reads roll-Element out-Element out-roll-Element roll-out-Element (note_by value pool) (IsNoteBy W pool) (spelling.note_by s) Element-F.Nested note_of (λ n. refl) (IsTagged W pool tag) (rest_of s) (note_reads pool few value W s values)
      (λ n h. (sym (eqb-true tag (byte "@") is), h)) from (λ n h. refl)
    where
      from : (l : ElementLayer) → IsTagged W pool tag l → IsNoteBy W pool (note_of l) × (l ≡ Element-F.Nested (note_of l))
      from (Element-F.Const k index) q = absurd (let h : false ≡ true = sym no_constant ∙ ap is_constant_tag (sym q.0) ∙ value_tag_some pool k index q.1 in cc)
      from (Element-F.Enum kind name) q = apart tag (byte "@") (byte "e") is refl q.0
      from (Element-F.OfClass class) q = apart tag (byte "@") (byte "c") is refl q.0
      from (Element-F.Nested note) q = (q.1, refl)
      from (Element-F.Many vs) q = apart tag (byte "@") (byte "[") is refl q.0

  arrays : (tag : ℕ) → is_constant_tag tag ≡ false → eqb tag (byte "[") ≡ true → Reads (bind (counted_at value) (λ vs end bytes. Ok (roll-Element (Element-F.Many vs), bytes))) (Q tag) t
  unfolding IsTagged tag_of rest_of values_of
  arrays tag no_constant is =
      layer_reads roll-Element out-Element out-roll-Element roll-out-Element (counted_at value) (IsCounted W) (spelling.counted s) Element-F.Many values_of (λ n. refl) (IsTagged W pool tag) (rest_of s) (each_counted value W s values)
      (λ n h. (sym (eqb-true tag (byte "[") is), h)) from (λ n h. refl)
    where
      from : (l : ElementLayer) → IsTagged W pool tag l → IsCounted W (values_of l) × (l ≡ Element-F.Many (values_of l))
      from (Element-F.Const k index) q = absurd (let h : false ≡ true = sym no_constant ∙ ap is_constant_tag (sym q.0) ∙ value_tag_some pool k index q.1 in cc)
      from (Element-F.Enum kind name) q = apart tag (byte "[") (byte "e") is refl q.0
      from (Element-F.OfClass class) q = apart tag (byte "[") (byte "c") is refl q.0
      from (Element-F.Nested note) q = apart tag (byte "[") (byte "@") is refl q.0
      from (Element-F.Many vs) q = (q.1, refl)

  enums : (tag : ℕ) → is_constant_tag tag ≡ false → eqb tag (byte "e") ≡ true → Reads (enum_at pool) (Q tag) t
  unfolding IsTagged tag_of rest_of leads_to_type leads_to_text enum_at index_of name_of
  enums tag no_constant is =
      as_reads (enum_at pool) (λ e. (leads_to_type pool (index_of (out-Element e)) ≡ true) × ((leads_to_text pool (name_of (out-Element e)) ≡ true) × (e ≡ roll-Element (Element-F.Enum (index_of (out-Element e)) (name_of (out-Element e)))))) (λ e. to_be_bytes w16 (index_of (out-Element e)) ++ to_be_bytes w16 (name_of (out-Element e))) (Q tag) t
      (bind_reads (index_at (leads_to_type pool)) (λ n. leads_to_type pool n ≡ true) (to_be_bytes w16) (λ kind. bind (index_at (leads_to_text pool)) (λ name end bytes. Ok (roll-Element (Element-F.Enum kind name), bytes)))
      (λ kind e. (leads_to_text pool (name_of (out-Element e)) ≡ true) × (e ≡ roll-Element (Element-F.Enum kind (name_of (out-Element e))))) (λ kind e. to_be_bytes w16 (name_of (out-Element e))) (λ e. index_of (out-Element e)) (type_reads pool few)
      (λ kind h. made_reads (index_at (leads_to_text pool)) (λ n. leads_to_text pool n ≡ true) (to_be_bytes w16) (λ name. roll-Element (Element-F.Enum kind name)) (λ e. name_of (out-Element e)) (λ name. ap name_of (out-roll-Element (Element-F.Enum kind name))) (text_reads pool few))
      (λ kind e q. ap (λ (x : Element). index_of (out-Element x)) q.1 ∙ ap index_of (out-roll-Element (Element-F.Enum kind (name_of (out-Element e))))))
      (λ e p. let opened = ap out-Element p.1.1 ∙ out-roll-Element (Element-F.Enum (index_of (out-Element e)) (name_of (out-Element e))) in
      subst (IsTagged W pool tag) (sym opened) (sym (eqb-true tag (byte "e") is), (p.0, p.1.0)))
      (λ e q. let f = from (out-Element e) q in (f.0, (f.1, sym (roll-out-Element e) ∙ ap roll-Element f.2)))
      (λ e q. let f = from (out-Element e) q in ap (rest_of s) (sym f.2))
    where
      from : (l : ElementLayer) → IsTagged W pool tag l → (leads_to_type pool (index_of l) ≡ true) × (leads_to_text pool (name_of l) ≡ true) × (l ≡ Element-F.Enum (index_of l) (name_of l))
      from (Element-F.Const k index) q = absurd (let h : false ≡ true = sym no_constant ∙ ap is_constant_tag (sym q.0) ∙ value_tag_some pool k index q.1 in cc)
      from (Element-F.Enum kind name) q = (q.1.0, q.1.1, refl)
      from (Element-F.OfClass class) q = apart tag (byte "e") (byte "c") is refl q.0
      from (Element-F.Nested note) q = apart tag (byte "e") (byte "@") is refl q.0
      from (Element-F.Many vs) q = apart tag (byte "e") (byte "[") is refl q.0

  untagged : (tag : ℕ) (l : ElementLayer) → is_constant_tag tag ≡ false → eqb tag (byte "e") ≡ false → eqb tag (byte "c") ≡ false → eqb tag (byte "@") ≡ false → eqb tag (byte "[") ≡ false → IsTagged W pool tag l → ⊥
  unfolding IsTagged tag_of
  untagged tag (Element-F.Const k index) a b c d e q = let h : false ≡ true = sym a ∙ ap is_constant_tag (sym q.0) ∙ value_tag_some pool k index q.1 in cc
  untagged tag (Element-F.Enum kind name) a b c d e q = let h : false ≡ true = sym b ∙ ap (λ x. eqb x (byte "e")) (sym q.0) in cc
  untagged tag (Element-F.OfClass class) a b c d e q = let h : false ≡ true = sym c ∙ ap (λ x. eqb x (byte "c")) (sym q.0) in cc
  untagged tag (Element-F.Nested note) a b c d e q = let h : false ≡ true = sym d ∙ ap (λ x. eqb x (byte "@")) (sym q.0) in cc
  untagged tag (Element-F.Many vs) a b c d e q = let h : false ≡ true = sym e ∙ ap (λ x. eqb x (byte "[")) (sym q.0) in cc

  tagged_reads : (at tag : ℕ) → Reads (tagged_by value pool at tag) (Q tag) t
  unfolding tagged_by
  tagged_reads at tag =
      either_reads (is_constant_tag tag) (constant_value pool tag) (not_constant pool value at tag) (Q tag) t (constants tag)
      (λ a. either_reads (eqb tag (byte "e")) (enum_at pool) (not_enum pool value at tag) (Q tag) t (enums tag a)
      (λ b. either_reads (eqb tag (byte "c")) (class_value pool) (not_class pool value at tag) (Q tag) t (classes tag a)
      (λ c. either_reads (eqb tag (byte "@")) (note_value pool value) (not_note pool value at tag) (Q tag) t (notes tag a)
      (λ d. either_reads (eqb tag (byte "[")) (array_value value) (λ end bytes. Err (bad_tag at tag)) (Q tag) t (arrays tag a)
      (λ e. no_reads (bad_tag at tag) (Q tag) t (λ x q. untagged tag (out-Element x) a b c d e q))))))

  tag_fits : (l : ElementLayer) → IsElementBy W pool l → tag_of l < 2 ^ 8
  unfolding tag_of
  tag_fits (Element-F.Const k index) is = constant_fits k (value_tag_some pool k index is)
  tag_fits (Element-F.Enum kind name) is = omega arith
  tag_fits (Element-F.OfClass class) is = omega arith
  tag_fits (Element-F.Nested note) is = omega arith
  tag_fits (Element-F.Many vs) is = omega arith

  pub value_by_reads : Reads (λ end bytes. bind u1_at (tagged_by value pool (end - length bytes)) end bytes) (λ e. IsElementBy W pool (out-Element e)) (λ e. spelling.element_by s (out-Element e))
  unfolding IsTagged
  value_by_reads =
      here_reads (λ at. bind u1_at (tagged_by value pool at)) (λ e. IsElementBy W pool (out-Element e)) (λ e. spelling.element_by s (out-Element e)) (λ at.
      as_reads (bind u1_at (tagged_by value pool at)) (λ e. (tag_of (out-Element e) < 2 ^ 8) × Q (tag_of (out-Element e)) e) (λ e. (tag_of (out-Element e) ∷ []) ++ t e) (λ e. IsElementBy W pool (out-Element e)) (λ e. spelling.element_by s (out-Element e))
      (bind_reads u1_at (λ n. n < 2 ^ 8) (λ n. n ∷ []) (tagged_by value pool at) Q (λ tag. t) (λ e. tag_of (out-Element e)) u1_reads (λ tag low. tagged_reads at tag) (λ tag e q. q.0))
      (λ e p. p.1.1) (λ e is. (tag_fits (out-Element e) is, (refl, is))) (λ e is. spelled s (out-Element e)))

pub element_reads : (at : ℕ) (pool : Pool) → IsFew pool → (depth : ℕ) → Reads (element_at at pool depth) (IsElement pool depth) (spelling.element depth)
unfolding element_at IsElement spelling.element
element_reads at pool few zero = no_reads (bad_attribute at too_deep) (λ e. ⊥) (λ e. []) (λ e is. is)
element_reads at pool few (suc depth) = value_by_reads pool few (element_at at pool depth) (IsElement pool depth) (spelling.element depth) (element_reads at pool few depth)

pub annotation_reads : (at : ℕ) (pool : Pool) → IsFew pool → Reads (note_at at pool) (IsAnnotation pool) (spelling.note_by (spelling.element spelling.greatest_depth))
unfolding note_at
annotation_reads at pool few = note_reads pool few (element_at at pool spelling.greatest_depth) (IsElement pool spelling.greatest_depth) (spelling.element spelling.greatest_depth) (element_reads at pool few spelling.greatest_depth)
