-- What holds of the readers of attributes.
use Rattle.std.proofs.Common.{◌≡◌, ℕ, suc, eqb, ◌^◌, ◌<◌, Bool, true, false, not, ◌||◌, List, [], ◌∷◌, ◌++◌, codes, bytes_eq, unwrap_or, is_some, Option, Some, None, Ok, refl, sym, ap, subst, ◌∙◌, append_assoc, arith, inl, inr}
use Rattle.std.specs.Int.{w16, to_be_bytes}
use Rattle.std.proofs.lemmas.Bool.{cases_Bool, eqb-true, or_left, or_right}
use Rattle.std.proofs.lemmas.Cmp.{nat_list_eq_equiv}
use Rattle.std.proofs.lemmas.Slice.Eq.{bytes_eq-Decides}
use Rattle.class_model.specs.declared.constant_pool.Pool.{Pool}
use Rattle.class_model.specs.declared.annotation.Note.{Note}
use Rattle.class_model.specs.declared.stack_map.StackFrame.{StackFrame}
use Rattle.class_model.specs.declared.attribute_forms.Attribute.{Attribute, out-Attribute, roll-Attribute, out-roll-Attribute, roll-out-Attribute}
use Rattle.class_model.specs.declared.attribute_forms.Attribute.TheOpen.{Attribute-F}
use Rattle.class_model.specs.declared.attribute_forms.Handler.{Handler}
use Rattle.class_model.specs.declared.attribute_forms.Bootstrap.{Bootstrap}
use Rattle.class_model.specs.Layers.{AttributeLayer}
use Rattle.class_model.specs.Constants.{constant_at, text_at, is_some_that, is_class_constant}
use Rattle.class_model.specs.Annotations.{IsCounted, IsAnnotation}
use Rattle.class_model.specs.Attributes.{Place, in_class, in_field, in_method, in_code, is_known, is_named, is_value_for, is_loadable, is_handle, attribute_name, once_each, IsHandler, IsBootstrap, IsFrame, IsOther, IsCode, HasForm, IsAttributesBy, IsCodeAttribute, IsCodeAttributes, IsAttribute, IsAttributes}
use Rattle.class_model.specs.Attributes as model
use Rattle.class_model.specs.Spelling as spelling
use Rattle.class_text.specs.Reading.{IsBytes}
use Rattle.class_text.specs.Readers.{u2_at, index_at, counted_at}
use Rattle.class_text.specs.Frames.{leads_to_class, frame_at}
use Rattle.class_text.specs.Elements.{leads_to_text, note_at}
use Rattle.class_text.specs.Attributes.{text_or_empty, leads_to_caught, handler_at, leads_to_handle, leads_to_loadable, bootstrap_at, other_at, stack_map_at, leads_to_value_for, constant_value_at, bootstraps_at, annotations_at, code_content_at, own_name}
use Rattle.class_text.proofs.Numbers.{ok_is}
use Rattle.class_text.proofs.Readers.{Reads, ReadsAll, all_reads, as_reads, made_reads, layer_reads, bind, bind_reads, either_reads_all}
use Rattle.class_text.proofs.Parts.{u2_reads, index_reads, each_counted}
use Rattle.class_text.proofs.Numbered.{IsFew, some_that, numbered}
use Rattle.class_text.proofs.FrameLaws.{frame_reads}
use Rattle.class_text.proofs.ElementLaws.{annotation_reads}

pub four : (a b c d : List ℕ) → a ++ (b ++ (c ++ d)) ≡ ((a ++ b) ++ c) ++ d
four a b c d = sym (append_assoc (a ++ b) c d ∙ append_assoc a b (c ++ d))

-- ---- handlers and bootstrap methods

caught_reads : (pool : Pool) → IsFew pool → Reads (index_at (leads_to_caught pool)) (λ n. leads_to_caught pool n ≡ true) (to_be_bytes w16)
unfolding leads_to_caught leads_to_class
caught_reads pool few = index_reads (leads_to_caught pool) low
  where
    low : (n : ℕ) → (eqb n 0 || is_some_that is_class_constant (constant_at pool n)) ≡ true → n < 2 ^ 16
    low n e = elim (cases_Bool (eqb n 0)) [
      | inl y ↦ (let z = eqb-true n 0 y in omega (arith, z))
      | inr f ↦ numbered pool n few (some_that is_class_constant (constant_at pool n) (rw f at e))
    ]

abbrev handler_of : ℕ → ℕ → ℕ → ℕ → Handler
handler_of start end handler caught = record { start = start; end = end; handler = handler; catch_type = caught }

pub handler_reads : (pool : Pool) → IsFew pool → Reads (handler_at pool) (IsHandler pool) spelling.handler
unfolding handler_at leads_to_caught leads_to_class spelling.handler
handler_reads pool few =
    as_reads (handler_at pool) _ _ (IsHandler pool) spelling.handler
    (bind_reads u2_at (λ n. n < 2 ^ 16) (to_be_bytes w16) (λ start. bind u2_at (λ end. bind u2_at (λ handler. bind (index_at (leads_to_caught pool)) (λ caught end' bytes. Ok (handler_of start end handler caught, bytes)))))
    (λ start h. (h.end < 2 ^ 16) × ((h.handler < 2 ^ 16) × ((leads_to_caught pool h.catch_type ≡ true) × (h ≡ handler_of start h.end h.handler h.catch_type))))
    (λ start h. to_be_bytes w16 h.end ++ (to_be_bytes w16 h.handler ++ to_be_bytes w16 h.catch_type)) (λ h. h.start) u2_reads
    (λ start a. bind_reads u2_at (λ n. n < 2 ^ 16) (to_be_bytes w16) (λ end. bind u2_at (λ handler. bind (index_at (leads_to_caught pool)) (λ caught end' bytes. Ok (handler_of start end handler caught, bytes))))
    (λ end h. (h.handler < 2 ^ 16) × ((leads_to_caught pool h.catch_type ≡ true) × (h ≡ handler_of start end h.handler h.catch_type)))
    (λ end h. to_be_bytes w16 h.handler ++ to_be_bytes w16 h.catch_type) (λ h. h.end) u2_reads
    (λ end b. bind_reads u2_at (λ n. n < 2 ^ 16) (to_be_bytes w16) (λ handler. bind (index_at (leads_to_caught pool)) (λ caught end' bytes. Ok (handler_of start end handler caught, bytes)))
    (λ handler h. (leads_to_caught pool h.catch_type ≡ true) × (h ≡ handler_of start end handler h.catch_type))
    (λ handler h. to_be_bytes w16 h.catch_type) (λ h. h.handler) u2_reads
    (λ handler c. made_reads (index_at (leads_to_caught pool)) (λ n. leads_to_caught pool n ≡ true) (to_be_bytes w16) (handler_of start end handler) (λ h. h.catch_type) (λ n. refl) (caught_reads pool few))
    (λ handler h q. ap (λ (x : Handler). x.handler) q.1))
    (λ end h q. ap (λ (x : Handler). x.end) q.1.1))
    (λ start h q. ap (λ (x : Handler). x.start) q.1.1.1))
    (λ h p. record { start = p.0; ends = p.1.0; handler = p.1.1.0; catch_type = p.1.1.1.0 })
    (λ h q. (q.start, (q.ends, (q.handler, (q.catch_type, refl)))))
    (λ h q. four (to_be_bytes w16 h.start) (to_be_bytes w16 h.end) (to_be_bytes w16 h.handler) (to_be_bytes w16 h.catch_type))

handle_reads : (pool : Pool) → IsFew pool → Reads (index_at (leads_to_handle pool)) (λ n. leads_to_handle pool n ≡ true) (to_be_bytes w16)
unfolding leads_to_handle
handle_reads pool few = index_reads (leads_to_handle pool) (λ n e. numbered pool n few (some_that is_handle (constant_at pool n) e))

loadable_reads : (pool : Pool) → IsFew pool → Reads (index_at (leads_to_loadable pool)) (λ n. leads_to_loadable pool n ≡ true) (to_be_bytes w16)
unfolding leads_to_loadable
loadable_reads pool few = index_reads (leads_to_loadable pool) (λ n e. numbered pool n few (some_that is_loadable (constant_at pool n) e))

abbrev bootstrap_of : ℕ → List ℕ → Bootstrap
bootstrap_of handle arguments = record { handle = handle; arguments = arguments }

bootstrap_reads : (pool : Pool) → IsFew pool → Reads (bootstrap_at pool) (IsBootstrap pool) spelling.bootstrap
unfolding bootstrap_at leads_to_handle leads_to_loadable spelling.bootstrap
bootstrap_reads pool few =
    as_reads (bootstrap_at pool) _ _ (IsBootstrap pool) spelling.bootstrap
    (bind_reads (index_at (leads_to_handle pool)) (λ n. leads_to_handle pool n ≡ true) (to_be_bytes w16) (λ handle. bind (counted_at (index_at (leads_to_loadable pool))) (λ arguments end bytes. Ok (bootstrap_of handle arguments, bytes)))
    (λ handle b. IsCounted (λ n. leads_to_loadable pool n ≡ true) b.arguments × (b ≡ bootstrap_of handle b.arguments)) (λ handle b. spelling.counted (to_be_bytes w16) b.arguments) (λ b. b.handle) (handle_reads pool few)
    (λ handle a. made_reads (counted_at (index_at (leads_to_loadable pool))) (IsCounted (λ n. leads_to_loadable pool n ≡ true)) (spelling.counted (to_be_bytes w16)) (bootstrap_of handle) (λ b. b.arguments) (λ n. refl)
    (each_counted (index_at (leads_to_loadable pool)) (λ n. leads_to_loadable pool n ≡ true) (to_be_bytes w16) (loadable_reads pool few)))
    (λ handle b q. ap (λ (x : Bootstrap). x.handle) q.1))
    (λ b p. record { handle = p.0; arguments = p.1.0 }) (λ b q. (q.handle, (q.arguments, refl))) (λ b q. refl)

-- ---- bytes

pub bytes_all : (bytes : List ℕ) → IsBytes bytes → model.IsBytes bytes
bytes_all [] are = tt
bytes_all (b ∷ bytes) are = (are 0, bytes_all bytes (λ i. are (suc i)))

-- ---- names

text_is : (pool : Pool) (name : ℕ) (test : List ℕ → Bool) → leads_to_text pool name ≡ true → is_some_that test (text_at pool name) ≡ test (text_or_empty pool name)
unfolding leads_to_text
text_is pool name test named = go (text_at pool name) named
  where
    go : (found : Option (List ℕ)) → is_some found ≡ true → is_some_that test found ≡ test (unwrap_or found [])
    go None e = absurd cc
    go (Some text) e = refl

-- a name that is another is no name of a text
pub another : {P : Type 0} (a b text : List ℕ) → bytes_eq a text ≡ true → bytes_eq b text ≡ true → bytes_eq a b ≡ false → P
another a b text e f n =
    let one = (bytes_eq-Decides a text).0 e in
    let two = (bytes_eq-Decides b text).0 f in
    absurd (let h : true ≡ false = sym ((bytes_eq-Decides a b).1 (one ∙ sym two)) ∙ n in cc)

module _ (pool : Pool) (few : IsFew pool) (name : ℕ) (named : leads_to_text pool name ≡ true) where
  abbrev pub text : List ℕ
  text = text_or_empty pool name

  pub is_named_by : (a : List ℕ) → is_named pool a name ≡ bytes_eq a text
  unfolding is_named
  is_named_by a = text_is pool name (bytes_eq a) named

  pub not_known : (stand : Place) → is_some_that (λ t. not (is_known stand t)) (text_at pool name) ≡ not (is_known stand text)
  not_known stand = text_is pool name (λ t. not (is_known stand t)) named

  pub own_known : (stand : Place) → bytes_eq (own_name stand) text ≡ true → is_known stand text ≡ true
  unfolding is_known
  own_known in_class e = or_left (bytes_eq text (codes "BootstrapMethods")) _ (nat_list_eq_equiv.symm text (codes "BootstrapMethods") ∙ e)
  own_known (in_field d) e = or_left (bytes_eq text (codes "ConstantValue")) _ (nat_list_eq_equiv.symm text (codes "ConstantValue") ∙ e)
  own_known in_method e = or_left (bytes_eq text (codes "Code")) _ (nat_list_eq_equiv.symm text (codes "Code") ∙ e)
  own_known in_code e = or_left (bytes_eq text (codes "StackMapTable")) _ (nat_list_eq_equiv.symm text (codes "StackMapTable") ∙ e)

  annotations_known : (stand : Place) → bytes_eq (codes "RuntimeVisibleAnnotations") text ≡ true → (stand ≡ in_code → ⊥) → is_known stand text ≡ true
  unfolding is_known
  annotations_known in_class e n = or_right (bytes_eq text (codes "BootstrapMethods")) _ (or_left (bytes_eq text (codes "RuntimeVisibleAnnotations")) false (nat_list_eq_equiv.symm text (codes "RuntimeVisibleAnnotations") ∙ e))
  annotations_known (in_field d) e n = or_right (bytes_eq text (codes "ConstantValue")) _ (or_left (bytes_eq text (codes "RuntimeVisibleAnnotations")) false (nat_list_eq_equiv.symm text (codes "RuntimeVisibleAnnotations") ∙ e))
  annotations_known in_method e n = or_right (bytes_eq text (codes "Code")) _ (or_left (bytes_eq text (codes "RuntimeVisibleAnnotations")) false (nat_list_eq_equiv.symm text (codes "RuntimeVisibleAnnotations") ∙ e))
  annotations_known in_code e n = absurd (n refl)

  -- a known name that isn't the place's own
  pub left_known : (a b : List ℕ) → (bytes_eq text a || (bytes_eq text b || false)) ≡ true → bytes_eq a text ≡ false → bytes_eq b text ≡ true
  left_known a b k o = elim (cases_Bool (bytes_eq text a)) [
    | inl y ↦ absurd (let h : true ≡ false = sym (nat_list_eq_equiv.symm a text ∙ y) ∙ o in cc)
    | inr f ↦ elim (cases_Bool (bytes_eq text b)) [
      | inl y ↦ nat_list_eq_equiv.symm b text ∙ y
      | inr g ↦ absurd (let h : false ≡ true = rw (f, g) at k in cc)
    ]
  ]

  pub none_left : (a : List ℕ) → (bytes_eq text a || false) ≡ true → bytes_eq a text ≡ false → ⊥
  none_left a k o = elim (cases_Bool (bytes_eq text a)) [
    | inl y ↦ (let h : true ≡ false = sym (nat_list_eq_equiv.symm a text ∙ y) ∙ o in cc)
    | inr f ↦ (let h : false ≡ true = rw f at k in cc)
  ]

  abbrev Q : (List Attribute → Type 0) → Place → AttributeLayer → Type 0
  Q Inner stand l = (spelling.name_of l ≡ name) × HasForm Inner pool stand l

  -- the parts of a level, where it has them
  frames_of : AttributeLayer → List StackFrame
  frames_of (Attribute-F.StackMap n frames) = frames
  frames_of _ = []

  entries_of : AttributeLayer → List Bootstrap
  entries_of (Attribute-F.Bootstrap n entries) = entries
  entries_of _ = []

  list_of : AttributeLayer → List Note
  list_of (Attribute-F.Annotations n list) = list
  list_of _ = []

  value_of : AttributeLayer → ℕ
  value_of (Attribute-F.ConstantValue n value) = value
  value_of _ = 0

  bytes_of : AttributeLayer → List ℕ
  bytes_of (Attribute-F.Other n bytes) = bytes
  bytes_of _ = []

  -- another attribute has no known name
  pub is_no_other : {P : Type 0} (stand : Place) (n : ℕ) (bytes : List ℕ) → is_known stand text ≡ true → n ≡ name → IsOther pool stand n bytes → P
  is_no_other stand n bytes k same is =
      let h : is_some_that (λ t. not (is_known stand t)) (text_at pool name) ≡ true = subst (λ (m : ℕ). is_some_that (λ t. not (is_known stand t)) (text_at pool m) ≡ true) same is.name in
      absurd (let bad : false ≡ true = ap not (sym k) ∙ sym (not_known stand) ∙ h in cc)

  -- an attribute of one name has no other
  pub is_no_named : {P : Type 0} (a b : List ℕ) (n : ℕ) → bytes_eq a text ≡ true → bytes_eq a b ≡ false → n ≡ name → is_named pool b n ≡ true → P
  is_no_named a b n e apart same is = another a b text e (sym (is_named_by b) ∙ subst (λ (m : ℕ). is_named pool b m ≡ true) same is) apart

  pub stack_maps : (Inner : List Attribute → Type 0) (inner : Attribute → List ℕ) → bytes_eq (codes "StackMapTable") text ≡ true
      → Reads (stack_map_at pool name) (λ a. Q Inner in_code (out-Attribute a)) (λ a. spelling.content_by inner (out-Attribute a))
  unfolding stack_map_at spelling.content_by frames_of
  stack_maps Inner inner e =
      layer_reads roll-Attribute out-Attribute out-roll-Attribute roll-out-Attribute (counted_at (frame_at pool)) (IsCounted (IsFrame pool)) (spelling.counted spelling.frame) (Attribute-F.StackMap name) frames_of (λ x. refl) (Q Inner in_code) (spelling.content_by inner)
      (each_counted (frame_at pool) (IsFrame pool) spelling.frame (frame_reads pool few))
      (λ frames p. (refl, (is_named_by (codes "StackMapTable") ∙ e, p))) from (λ frames p. refl)
    where
      from : (l : AttributeLayer) → Q Inner in_code l → IsCounted (IsFrame pool) (frames_of l) × (l ≡ Attribute-F.StackMap name (frames_of l))
      from (Attribute-F.StackMap n frames) q = (q.1.1, ap (λ (m : ℕ). Attribute-F.StackMap m frames) q.0)
      from (Attribute-F.Other n bytes) q = is_no_other in_code n bytes (own_known in_code e) q.0 q.1
      from _ q = absurd q.1

  pub bootstraps : (Inner : List Attribute → Type 0) (inner : Attribute → List ℕ) → bytes_eq (codes "BootstrapMethods") text ≡ true
      → Reads (bootstraps_at pool name) (λ a. Q Inner in_class (out-Attribute a)) (λ a. spelling.content_by inner (out-Attribute a))
  unfolding bootstraps_at spelling.content_by entries_of
  bootstraps Inner inner e =
      layer_reads roll-Attribute out-Attribute out-roll-Attribute roll-out-Attribute (counted_at (bootstrap_at pool)) (IsCounted (IsBootstrap pool)) (spelling.counted spelling.bootstrap) (Attribute-F.Bootstrap name) entries_of (λ x. refl) (Q Inner in_class) (spelling.content_by inner)
      (each_counted (bootstrap_at pool) (IsBootstrap pool) spelling.bootstrap (bootstrap_reads pool few))
      (λ entries p. (refl, (is_named_by (codes "BootstrapMethods") ∙ e, p))) from (λ entries p. refl)
    where
      from : (l : AttributeLayer) → Q Inner in_class l → IsCounted (IsBootstrap pool) (entries_of l) × (l ≡ Attribute-F.Bootstrap name (entries_of l))
      from (Attribute-F.Bootstrap n entries) q = (q.1.1, ap (λ (m : ℕ). Attribute-F.Bootstrap m entries) q.0)
      from (Attribute-F.Other n bytes) q = is_no_other in_class n bytes (own_known in_class e) q.0 q.1
      from (Attribute-F.Annotations n list) q = is_no_named (codes "BootstrapMethods") (codes "RuntimeVisibleAnnotations") n e refl q.0 q.1.0
      from _ q = absurd q.1

  values_read : (descriptor : List ℕ) → Reads (index_at (leads_to_value_for pool descriptor)) (λ n. leads_to_value_for pool descriptor n ≡ true) (to_be_bytes w16)
  unfolding leads_to_value_for
  values_read descriptor = index_reads (leads_to_value_for pool descriptor) (λ n e. numbered pool n few (some_that (is_value_for descriptor) (constant_at pool n) e))

  pub constant_values : (Inner : List Attribute → Type 0) (inner : Attribute → List ℕ) (d : List ℕ) → bytes_eq (codes "ConstantValue") text ≡ true
      → Reads (constant_value_at pool d name) (λ a. Q Inner (in_field d) (out-Attribute a)) (λ a. spelling.content_by inner (out-Attribute a))
  unfolding constant_value_at spelling.content_by value_of leads_to_value_for
  constant_values Inner inner d e =
      layer_reads roll-Attribute out-Attribute out-roll-Attribute roll-out-Attribute (index_at (leads_to_value_for pool d)) (λ n. leads_to_value_for pool d n ≡ true) (to_be_bytes w16) (Attribute-F.ConstantValue name) value_of (λ x. refl) (Q Inner (in_field d)) (spelling.content_by inner)
      (values_read d) (λ n p. (refl, (is_named_by (codes "ConstantValue") ∙ e, p))) from (λ n p. refl)
    where
      from : (l : AttributeLayer) → Q Inner (in_field d) l → (leads_to_value_for pool d (value_of l) ≡ true) × (l ≡ Attribute-F.ConstantValue name (value_of l))
      from (Attribute-F.ConstantValue n value) q = (q.1.1, ap (λ (m : ℕ). Attribute-F.ConstantValue m value) q.0)
      from (Attribute-F.Other n bytes) q = is_no_other (in_field d) n bytes (own_known (in_field d) e) q.0 q.1
      from (Attribute-F.Annotations n list) q = is_no_named (codes "ConstantValue") (codes "RuntimeVisibleAnnotations") n e refl q.0 q.1.0
      from _ q = absurd q.1

  pub others : (Inner : List Attribute → Type 0) (inner : Attribute → List ℕ) (stand : Place) → is_known stand text ≡ false
      → ReadsAll (other_at name) (λ a. Q Inner stand (out-Attribute a)) (λ a. spelling.content_by inner (out-Attribute a))
  unfolding other_at spelling.content_by bytes_of
  others Inner inner stand k = record {
    takes = λ end bytes x are e.
        let same : roll-Attribute (Attribute-F.Other name bytes) ≡ x = ap (λ (p : Attribute × List ℕ). p.0) (ok_is (roll-Attribute (Attribute-F.Other name bytes), []) (x, []) e) in
        let opened : out-Attribute x ≡ Attribute-F.Other name bytes = ap out-Attribute (sym same) ∙ out-roll-Attribute (Attribute-F.Other name bytes) in
        (subst (Q Inner stand) (sym opened) (is_one stand bytes are k), ap (spelling.content_by inner) (sym opened));
    again = λ end x q.
        let is = is_other stand (out-Attribute x) q k in
        ap (λ (l : AttributeLayer). other_at name end (spelling.content_by inner l)) is
        ∙ ap (λ (a : Attribute). Ok (a, [])) (ap roll-Attribute (sym is) ∙ roll-out-Attribute x);
  }
    where
      form_other : (s : Place) (bytes : List ℕ) → IsOther pool s name bytes → HasForm Inner pool s (Attribute-F.Other name bytes)
      form_other in_class bytes is = is
      form_other (in_field d) bytes is = is
      form_other in_method bytes is = is
      form_other in_code bytes is = is

      is_one : (s : Place) (bytes : List ℕ) → IsBytes bytes → is_known s text ≡ false → Q Inner s (Attribute-F.Other name bytes)
      is_one s bytes are k = (refl, form_other s bytes (record { name = not_known s ∙ ap not k; bytes = bytes_all bytes are }))

      -- an attribute of a known name isn't one of an unknown name
      unknown : {P : Type 0} (s : Place) (a : List ℕ) (n : ℕ) → is_known s text ≡ false → n ≡ name → is_named pool a n ≡ true → (bytes_eq a text ≡ true → is_known s text ≡ true) → P
      unknown s a n k same is known = absurd (let h : false ≡ true = sym k ∙ known (sym (is_named_by a) ∙ subst (λ (m : ℕ). is_named pool a m ≡ true) same is) in cc)

      is_other : (s : Place) (l : AttributeLayer) → Q Inner s l → is_known s text ≡ false → l ≡ Attribute-F.Other name (bytes_of l)
      is_other in_class (Attribute-F.Other n bytes) q k = ap (λ (m : ℕ). Attribute-F.Other m bytes) q.0
      is_other in_class (Attribute-F.Bootstrap n entries) q k = unknown in_class (codes "BootstrapMethods") n k q.0 q.1.0 (own_known in_class)
      is_other in_class (Attribute-F.Annotations n list) q k = unknown in_class (codes "RuntimeVisibleAnnotations") n k q.0 q.1.0 (λ e. annotations_known in_class e (λ h. cc))
      is_other in_class _ q k = absurd q.1
      is_other (in_field d) (Attribute-F.Other n bytes) q k = ap (λ (m : ℕ). Attribute-F.Other m bytes) q.0
      is_other (in_field d) (Attribute-F.ConstantValue n value) q k = unknown (in_field d) (codes "ConstantValue") n k q.0 q.1.0 (own_known (in_field d))
      is_other (in_field d) (Attribute-F.Annotations n list) q k = unknown (in_field d) (codes "RuntimeVisibleAnnotations") n k q.0 q.1.0 (λ e. annotations_known (in_field d) e (λ h. cc))
      is_other (in_field d) _ q k = absurd q.1
      is_other in_method (Attribute-F.Other n bytes) q k = ap (λ (m : ℕ). Attribute-F.Other m bytes) q.0
      is_other in_method (Attribute-F.Code n a b c d e) q k = unknown in_method (codes "Code") n k q.0 q.1.0 (own_known in_method)
      is_other in_method (Attribute-F.Annotations n list) q k = unknown in_method (codes "RuntimeVisibleAnnotations") n k q.0 q.1.0 (λ e. annotations_known in_method e (λ h. cc))
      is_other in_method _ q k = absurd q.1
      is_other in_code (Attribute-F.Other n bytes) q k = ap (λ (m : ℕ). Attribute-F.Other m bytes) q.0
      is_other in_code (Attribute-F.StackMap n frames) q k = unknown in_code (codes "StackMapTable") n k q.0 q.1.0 (own_known in_code)
      is_other in_code _ q k = absurd q.1

  -- annotations stand in classes, fields and methods
  pub annotated : (Inner : List Attribute → Type 0) (inner : Attribute → List ℕ) (stand : Place) (at : ℕ) → bytes_eq (own_name stand) text ≡ false → is_known stand text ≡ true
      → Reads (annotations_at pool name at) (λ a. Q Inner stand (out-Attribute a)) (λ a. spelling.content_by inner (out-Attribute a))
  unfolding annotations_at spelling.content_by list_of is_known
  annotated Inner inner stand at o k =
      layer_reads roll-Attribute out-Attribute out-roll-Attribute roll-out-Attribute (counted_at (note_at at pool)) (IsCounted (IsAnnotation pool)) (spelling.counted (spelling.note_by (spelling.element spelling.greatest_depth))) (Attribute-F.Annotations name) list_of (λ x. refl) (Q Inner stand) (spelling.content_by inner)
      (each_counted (note_at at pool) (IsAnnotation pool) (spelling.note_by (spelling.element spelling.greatest_depth)) (annotation_reads at pool few))
      (λ list p. (refl, form stand list o k p)) (λ l q. from stand l q o k) (λ list p. refl)
    where
      form : (s : Place) (list : List Note) → bytes_eq (own_name s) text ≡ false → is_known s text ≡ true → IsCounted (IsAnnotation pool) list → HasForm Inner pool s (Attribute-F.Annotations name list)
      form in_class list o k p = (is_named_by (codes "RuntimeVisibleAnnotations") ∙ left_known (codes "BootstrapMethods") (codes "RuntimeVisibleAnnotations") k o, p)
      form (in_field d) list o k p = (is_named_by (codes "RuntimeVisibleAnnotations") ∙ left_known (codes "ConstantValue") (codes "RuntimeVisibleAnnotations") k o, p)
      form in_method list o k p = (is_named_by (codes "RuntimeVisibleAnnotations") ∙ left_known (codes "Code") (codes "RuntimeVisibleAnnotations") k o, p)
      form in_code list o k p = absurd (none_left (codes "StackMapTable") k o)

      -- an attribute of the place's own name has this name
      not_own : {P : Type 0} (a : List ℕ) (n : ℕ) → bytes_eq a text ≡ false → n ≡ name → is_named pool a n ≡ true → P
      not_own a n o same is = absurd (let h : false ≡ true = sym o ∙ sym (is_named_by a) ∙ subst (λ (m : ℕ). is_named pool a m ≡ true) same is in cc)

      from : (s : Place) (l : AttributeLayer) → Q Inner s l → bytes_eq (own_name s) text ≡ false → is_known s text ≡ true → IsCounted (IsAnnotation pool) (list_of l) × (l ≡ Attribute-F.Annotations name (list_of l))
      from in_class (Attribute-F.Annotations n list) q o k = (q.1.1, ap (λ (m : ℕ). Attribute-F.Annotations m list) q.0)
      from in_class (Attribute-F.Other n bytes) q o k = is_no_other in_class n bytes k q.0 q.1
      from in_class (Attribute-F.Bootstrap n entries) q o k = not_own (codes "BootstrapMethods") n o q.0 q.1.0
      from in_class _ q o k = absurd q.1
      from (in_field d) (Attribute-F.Annotations n list) q o k = (q.1.1, ap (λ (m : ℕ). Attribute-F.Annotations m list) q.0)
      from (in_field d) (Attribute-F.Other n bytes) q o k = is_no_other (in_field d) n bytes k q.0 q.1
      from (in_field d) (Attribute-F.ConstantValue n value) q o k = not_own (codes "ConstantValue") n o q.0 q.1.0
      from (in_field d) _ q o k = absurd q.1
      from in_method (Attribute-F.Annotations n list) q o k = (q.1.1, ap (λ (m : ℕ). Attribute-F.Annotations m list) q.0)
      from in_method (Attribute-F.Other n bytes) q o k = is_no_other in_method n bytes k q.0 q.1
      from in_method (Attribute-F.Code n a b c d e) q o k = not_own (codes "Code") n o q.0 q.1.0
      from in_method _ q o k = absurd q.1
      from in_code l q o k = absurd (none_left (codes "StackMapTable") k o)

  -- the content of an attribute of code
  pub code_contents : (at : ℕ) → ReadsAll (code_content_at pool name at) (λ a. Q (λ inner. ⊥) in_code (out-Attribute a)) (λ a. spelling.content_by spelling.no_attribute (out-Attribute a))
  unfolding code_content_at is_known
  code_contents at =
      either_reads_all (bytes_eq (codes "StackMapTable") text) (stack_map_at pool name) (other_at name) _ _
      (λ e. all_reads (stack_map_at pool name) _ _ (stack_maps (λ inner. ⊥) spelling.no_attribute e))
      (λ o. others (λ inner. ⊥) spelling.no_attribute in_code (not_so (is_known in_code text) (λ k. none_left (codes "StackMapTable") k o)))
    where
      not_so : (b : Bool) → (b ≡ true → ⊥) → b ≡ false
      not_so true n = absurd (n refl)
      not_so false n = refl
