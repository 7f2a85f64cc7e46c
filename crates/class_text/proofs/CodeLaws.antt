-- What holds of the readers of code, and of the attributes of classes, fields and methods.
use Rattle.std.proofs.Common.{◌≡◌, ℕ, zero, suc, ltb, leb, ◌^◌, ◌<◌, ◌≤◌, Bool, true, false, cond, not, ◌&&◌, List, [], ◌∷◌, ◌++◌, length, codes, bytes_eq, Err, refl, sym, ap, subst, ◌∙◌, append_assoc, arith}
use Rattle.std.specs.List.{AllByRecursion}
use Rattle.std.specs.Int.{w16, w32, to_be_bytes}
use Rattle.std.proofs.lemmas.Bool.{and_parts, and_from, ltb-true, lt-ltb, leb-true, le-leb}
use Rattle.class_model.specs.declared.constant_pool.Pool.{Pool}
use Rattle.class_model.specs.declared.attribute_forms.Attribute.{Attribute, out-Attribute, roll-Attribute, out-roll-Attribute, roll-out-Attribute}
use Rattle.class_model.specs.declared.attribute_forms.Attribute.TheOpen.{Attribute-F}
use Rattle.class_model.specs.declared.attribute_forms.Handler.{Handler}
use Rattle.class_model.specs.Layers.{AttributeLayer}
use Rattle.class_model.specs.Constants.{text_at, is_some_that}
use Rattle.class_model.specs.Annotations.{IsCounted}
use Rattle.class_model.specs.Attributes.{Place, in_class, in_field, in_method, in_code, is_known, is_named, attribute_name, IsHandler, IsOther, IsCode, HasForm, IsCodeAttribute, IsCodeAttributes, IsAttribute, IsAttributes}
use Rattle.class_model.specs.Attributes as model
use Rattle.class_model.specs.Spelling as spelling
use Rattle.class_text.specs.Reading.{bad_attribute, bad_length, IsBytes}
use Rattle.class_text.specs.Readers.{u2_at, u4_at, counted_at, run_at}
use Rattle.class_text.specs.Elements.{leads_to_text}
use Rattle.class_text.specs.Attributes.{text_or_empty, handler_at, code_content_at, code_attribute_at, code_attributes_at, code_bytes_at, code_at, own_name, own_content_at, content_at, annotations_at, other_at, attribute_at, attributes_at, bootstraps_at, constant_value_at, stack_map_at}
use Rattle.class_text.proofs.Readers.{Reads, ReadsAll, all_reads, as_reads, made_reads, bind, bind_reads, unless_reads, either_reads_all}
use Rattle.class_text.proofs.Steps.{code_made, code_inner, code_table, code_run, code_locals}
use Rattle.class_text.proofs.Parts.{u2_reads, u4_reads, run_reads, each_counted}
use Rattle.class_text.proofs.Numbered.{IsFew, some_that}
use Rattle.class_text.proofs.AttributeLaws.{handler_reads, code_contents, stack_maps, bootstraps, constant_values, annotated, others, own_known, is_named_by, is_no_other, is_no_named, bytes_all}
use Rattle.class_text.proofs.FramedLaws.{is_code_barred, attributes_read}

-- Each form has a name that is a text.
named_text : (pool : Pool) (test : List ℕ → Bool) (n : ℕ) → is_some_that test (text_at pool n) ≡ true → leads_to_text pool n ≡ true
unfolding leads_to_text
named_text pool test n e = some_that test (text_at pool n) e

pub form_named : (Inner : List Attribute → Type 0) (pool : Pool) (stand : Place) (l : AttributeLayer) → HasForm Inner pool stand l → leads_to_text pool (spelling.name_of l) ≡ true
unfolding is_named
form_named Inner pool in_method (Attribute-F.Code n a b c d e) is = named_text pool (bytes_eq (codes "Code")) n is.0
form_named Inner pool in_code (Attribute-F.StackMap n frames) is = named_text pool (bytes_eq (codes "StackMapTable")) n is.0
form_named Inner pool (in_field d) (Attribute-F.ConstantValue n value) is = named_text pool (bytes_eq (codes "ConstantValue")) n is.0
form_named Inner pool in_class (Attribute-F.Bootstrap n entries) is = named_text pool (bytes_eq (codes "BootstrapMethods")) n is.0
form_named Inner pool in_class (Attribute-F.Annotations n list) is = named_text pool (bytes_eq (codes "RuntimeVisibleAnnotations")) n is.0
form_named Inner pool (in_field d) (Attribute-F.Annotations n list) is = named_text pool (bytes_eq (codes "RuntimeVisibleAnnotations")) n is.0
form_named Inner pool in_method (Attribute-F.Annotations n list) is = named_text pool (bytes_eq (codes "RuntimeVisibleAnnotations")) n is.0
form_named Inner pool in_class (Attribute-F.Other n bytes) is = named_text pool (λ t. not (is_known in_class t)) n is.name
form_named Inner pool (in_field d) (Attribute-F.Other n bytes) is = named_text pool (λ t. not (is_known (in_field d) t)) n is.name
form_named Inner pool in_method (Attribute-F.Other n bytes) is = named_text pool (λ t. not (is_known in_method t)) n is.name
form_named Inner pool in_code (Attribute-F.Other n bytes) is = named_text pool (λ t. not (is_known in_code t)) n is.name
form_named Inner pool _ _ is = absurd is

-- ---- the attributes of code

never_barred : (pool : Pool) (xs : List Attribute) → AllByRecursion (λ a. is_code_barred pool false a ≡ false) xs
never_barred pool [] = tt
never_barred pool (x ∷ xs) = (refl, never_barred pool xs)

pub code_attributes_read : (pool : Pool) → IsFew pool → Reads (code_attributes_at pool) (IsCodeAttributes pool) (spelling.counted spelling.code_attribute)
unfolding code_attributes_at code_attribute_at spelling.code_attribute
code_attributes_read pool few =
    as_reads (code_attributes_at pool) _ _ (IsCodeAttributes pool) (spelling.counted spelling.code_attribute)
    (attributes_read pool few in_code false (code_content_at pool) (λ a. HasForm (λ inner. ⊥) pool in_code (out-Attribute a)) (λ a. spelling.content_by spelling.no_attribute (out-Attribute a))
    (λ name at named. code_contents pool few name named at) (λ a is. form_named (λ inner. ⊥) pool in_code (out-Attribute a) is)
    (IsCodeAttribute pool) (λ a p. record { form = p.0; short = p.1 }) (λ a q. (q.form, q.short)) spelling.code_attribute (λ a. refl))
    (λ xs p. p.0) (λ xs p. (p, never_barred pool xs)) (λ xs p. refl)

-- ---- code

bytes_each : (bytes : List ℕ) → model.IsBytes bytes → IsBytes bytes
bytes_each [] are i = omega arith
bytes_each (b ∷ bytes) are zero = are.0
bytes_each (b ∷ bytes) are (suc i) = bytes_each bytes are.1 i

pub record IsCodeBytes (code : List ℕ) : Type 0 where
  some : 0 < length code
  short : length code ≤ 65535
  bytes : model.IsBytes code

pub code_bytes_read : (pool : Pool) → IsFew pool → (at : ℕ) → Reads (code_bytes_at at) IsCodeBytes (λ code. to_be_bytes w32 (length code) ++ code)
unfolding code_bytes_at
code_bytes_read pool few at =
    as_reads (code_bytes_at at) _ _ IsCodeBytes (λ code. to_be_bytes w32 (length code) ++ code)
    (bind_reads u4_at (λ n. n < 2 ^ 32) (to_be_bytes w32) (λ len end bytes. cond (ltb 0 len && leb len 65535) (run_at len end bytes) (Err (bad_attribute at (bad_length len))))
    (λ len code. ((ltb 0 len && leb len 65535) ≡ true) × ((length code ≡ len) × IsBytes code)) (λ len code. code) length u4_reads
    (λ len low. unless_reads (ltb 0 len && leb len 65535) (bad_attribute at (bad_length len)) (run_at len) (λ code. (length code ≡ len) × IsBytes code) (λ code. code) (λ y. run_reads len))
    (λ len code q. q.1.0))
    (λ code p. let parts = and_parts (ltb 0 (length code)) (leb (length code) 65535) p.1.0 in
    record { some = ltb-true 0 (length code) parts.0; short = leb-true (length code) 65535 parts.1; bytes = bytes_all code p.1.1.1 })
    (λ code q. let short = q.short in (omega (arith, short), (and_from (ltb 0 (length code)) (leb (length code) 65535) (lt-ltb 0 (length code) q.some) (le-leb (length code) 65535 q.short), (refl, bytes_each code q.bytes))))
    (λ code q. refl)

-- the parts of code, where it is code
stack_of : AttributeLayer → ℕ
stack_of (Attribute-F.Code n stack locals code table inner) = stack
stack_of _ = 0

locals_of : AttributeLayer → ℕ
locals_of (Attribute-F.Code n stack locals code table inner) = locals
locals_of _ = 0

code_of : AttributeLayer → List ℕ
code_of (Attribute-F.Code n stack locals code table inner) = code
code_of _ = []

table_of : AttributeLayer → List Handler
table_of (Attribute-F.Code n stack locals code table inner) = table
table_of _ = []

inner_of : AttributeLayer → List Attribute
inner_of (Attribute-F.Code n stack locals code table inner) = inner
inner_of _ = []

spelled_code : (a b c d e f : List ℕ) → a ++ (b ++ ((c ++ d) ++ (e ++ f))) ≡ ((((a ++ b) ++ c) ++ d) ++ e) ++ f
spelled_code a b c d e f = simp append_assoc

module _ (pool : Pool) (few : IsFew pool) (name : ℕ) (named : leads_to_text pool name ≡ true) (at : ℕ) where
  abbrev layer : Attribute → AttributeLayer
  layer a = out-Attribute a

  opened : (a : Attribute) (stack locals : ℕ) (code : List ℕ) (table : List Handler) (inner : List Attribute) → a ≡ code_made pool name at stack locals code table inner → out-Attribute a ≡ Attribute-F.Code name stack locals code table inner
  opened a stack locals code table inner e = ap out-Attribute e ∙ out-roll-Attribute (Attribute-F.Code name stack locals code table inner)

  -- what was read from each part on
  abbrev P4 : ℕ → ℕ → List ℕ → List Handler → Attribute → Type 0
  P4 stack locals code table a = IsCodeAttributes pool (inner_of (layer a)) × (a ≡ code_made pool name at stack locals code table (inner_of (layer a)))

  abbrev P3 : ℕ → ℕ → List ℕ → Attribute → Type 0
  P3 stack locals code a = IsCounted (IsHandler pool) (table_of (layer a)) × P4 stack locals code (table_of (layer a)) a

  abbrev P2 : ℕ → ℕ → Attribute → Type 0
  P2 stack locals a = IsCodeBytes (code_of (layer a)) × P3 stack locals (code_of (layer a)) a

  abbrev P1 : ℕ → Attribute → Type 0
  P1 stack a = (locals_of (layer a) < 2 ^ 16) × P2 stack (locals_of (layer a)) a

  abbrev P0 : Attribute → Type 0
  P0 a = (stack_of (layer a) < 2 ^ 16) × P1 (stack_of (layer a)) a

  abbrev s4 : Attribute → List ℕ
  s4 a = spelling.counted spelling.code_attribute (inner_of (layer a))

  abbrev s3 : Attribute → List ℕ
  s3 a = spelling.counted spelling.handler (table_of (layer a)) ++ s4 a

  abbrev s2 : Attribute → List ℕ
  s2 a = (to_be_bytes w32 (length (code_of (layer a))) ++ code_of (layer a)) ++ s3 a

  abbrev s1 : Attribute → List ℕ
  s1 a = to_be_bytes w16 (locals_of (layer a)) ++ s2 a

  abbrev s0 : Attribute → List ℕ
  s0 a = to_be_bytes w16 (stack_of (layer a)) ++ s1 a

  read4 : (stack locals : ℕ) (code : List ℕ) (table : List Handler) → Reads (code_inner pool name at stack locals code table) (P4 stack locals code table) s4
  unfolding inner_of
  read4 stack locals code table =
      made_reads (code_attributes_at pool) (IsCodeAttributes pool) (spelling.counted spelling.code_attribute) (code_made pool name at stack locals code table) (λ a. inner_of (layer a))
      (λ inner. ap inner_of (out-roll-Attribute (Attribute-F.Code name stack locals code table inner))) (code_attributes_read pool few)

  read3 : (stack locals : ℕ) (code : List ℕ) → Reads (code_table pool name at stack locals code) (P3 stack locals code) s3
  unfolding table_of
  read3 stack locals code =
      bind_reads (counted_at (handler_at pool)) (IsCounted (IsHandler pool)) (spelling.counted spelling.handler) (code_inner pool name at stack locals code) (P4 stack locals code) (λ table. s4) (λ a. table_of (layer a))
      (each_counted (handler_at pool) (IsHandler pool) spelling.handler (handler_reads pool few)) (λ table p. read4 stack locals code table)
      (λ table a q. ap table_of (opened a stack locals code table (inner_of (layer a)) q.1))

  read2 : (stack locals : ℕ) → Reads (code_run pool name at stack locals) (P2 stack locals) s2
  unfolding code_of
  read2 stack locals =
      bind_reads (code_bytes_at at) IsCodeBytes (λ code. to_be_bytes w32 (length code) ++ code) (code_table pool name at stack locals) (P3 stack locals) (λ code. s3) (λ a. code_of (layer a))
      (code_bytes_read pool few at) (λ code p. read3 stack locals code)
      (λ code a q. ap code_of (opened a stack locals code (table_of (layer a)) (inner_of (layer a)) q.1.1))

  read1 : (stack : ℕ) → Reads (code_locals pool name at stack) (P1 stack) s1
  unfolding locals_of
  read1 stack =
      bind_reads u2_at (λ n. n < 2 ^ 16) (to_be_bytes w16) (code_run pool name at stack) (P2 stack) (λ locals. s2) (λ a. locals_of (layer a)) u2_reads (λ locals p. read2 stack locals)
      (λ locals a q. ap locals_of (opened a stack locals (code_of (layer a)) (table_of (layer a)) (inner_of (layer a)) q.1.1.1))

  read0 : Reads (bind u2_at (code_locals pool name at)) P0 s0
  unfolding stack_of
  read0 =
      bind_reads u2_at (λ n. n < 2 ^ 16) (to_be_bytes w16) (code_locals pool name at) P1 (λ stack. s1) (λ a. stack_of (layer a)) u2_reads (λ stack p. read1 stack)
      (λ stack a q. ap stack_of (opened a stack (locals_of (layer a)) (code_of (layer a)) (table_of (layer a)) (inner_of (layer a)) q.1.1.1.1))

  abbrev IsCodeLayer : AttributeLayer → Type 0
  IsCodeLayer l = (spelling.name_of l ≡ name) × HasForm (IsCodeAttributes pool) pool in_method l

  code_form : bytes_eq (codes "Code") (text_or_empty pool name) ≡ true → (a : Attribute) → P0 a → IsCodeLayer (layer a)
  code_form e a p =
      let is = opened a (stack_of (layer a)) (locals_of (layer a)) (code_of (layer a)) (table_of (layer a)) (inner_of (layer a)) p.1.1.1.1.1 in
      let b = p.1.1.0 in
      subst IsCodeLayer (sym is) (refl, (is_named_by pool few name named (codes "Code") ∙ e, record { max_stack = p.0; max_locals = p.1.0; some = b.some; short = b.short; bytes = b.bytes; handlers = p.1.1.1.0; attributes = p.1.1.1.1.0 }))

  -- the same of a level, which is that of an attribute
  record Parts (l : AttributeLayer) : Type 0 where
    stack : stack_of l < 2 ^ 16
    locals : locals_of l < 2 ^ 16
    code : IsCodeBytes (code_of l)
    table : IsCounted (IsHandler pool) (table_of l)
    inner : IsCodeAttributes pool (inner_of l)
    is : l ≡ Attribute-F.Code name (stack_of l) (locals_of l) (code_of l) (table_of l) (inner_of l)

  parts : bytes_eq (codes "Code") (text_or_empty pool name) ≡ true → (l : AttributeLayer) → IsCodeLayer l → Parts l
  unfolding stack_of locals_of code_of table_of inner_of
  parts e (Attribute-F.Code n a b c d f) q =
      let k = q.1.1 in
      record { stack = k.max_stack; locals = k.max_locals; code = record { some = k.some; short = k.short; bytes = k.bytes }; table = k.handlers; inner = k.attributes; is = ap (λ (m : ℕ). Attribute-F.Code m a b c d f) q.0 }
  parts e (Attribute-F.Other n bytes) q = is_no_other pool few name named in_method n bytes (own_known pool few name named in_method e) q.0 q.1
  parts e (Attribute-F.Annotations n list) q = is_no_named pool few name named (codes "Code") (codes "RuntimeVisibleAnnotations") n e refl q.0 q.1.0
  parts e _ q = absurd q.1

  form_code : bytes_eq (codes "Code") (text_or_empty pool name) ≡ true → (a : Attribute) → IsCodeLayer (layer a) → P0 a
  form_code e a q =
      let k = parts e (layer a) q in
      (k.stack, (k.locals, (k.code, (k.table, (k.inner, sym (roll-out-Attribute a) ∙ ap roll-Attribute k.is)))))

  code_spelled : bytes_eq (codes "Code") (text_or_empty pool name) ≡ true → (a : Attribute) → IsCodeLayer (layer a) → s0 a ≡ spelling.content_by spelling.code_attribute (layer a)
  unfolding spelling.content_by
  code_spelled e a q =
      let k = parts e (layer a) q in
      let l = layer a in
      spelled_code (to_be_bytes w16 (stack_of l)) (to_be_bytes w16 (locals_of l)) (to_be_bytes w32 (length (code_of l))) (code_of l) (spelling.counted spelling.handler (table_of l)) (spelling.counted spelling.code_attribute (inner_of l))
      ∙ ap (spelling.content_by spelling.code_attribute) (sym k.is)

  pub code_reads : bytes_eq (codes "Code") (text_or_empty pool name) ≡ true → Reads (code_at pool name at) (λ a. IsCodeLayer (layer a)) (λ a. spelling.content_by spelling.code_attribute (layer a))
  unfolding code_at
  code_reads e =
      as_reads (code_at pool name at) P0 s0 (λ a. IsCodeLayer (layer a)) (λ a. spelling.content_by spelling.code_attribute (layer a)) read0 (code_form e) (form_code e) (code_spelled e)

-- ---- the content of an attribute of a class, a field or a method

not_so : (b : Bool) → (b ≡ true → ⊥) → b ≡ false
not_so true n = absurd (n refl)
not_so false n = refl

pub contents_read : (pool : Pool) → IsFew pool → (stand : Place) (name at : ℕ) → leads_to_text pool name ≡ true
    → ReadsAll (content_at pool stand name at) (λ a. (spelling.name_of (out-Attribute a) ≡ name) × HasForm (IsCodeAttributes pool) pool stand (out-Attribute a)) (λ a. spelling.content_by spelling.code_attribute (out-Attribute a))
unfolding content_at
contents_read pool few stand name at named =
    either_reads_all (bytes_eq (own_name stand) (text_or_empty pool name)) (own_content_at pool stand name at) (λ end bytes. cond (is_known stand (text_or_empty pool name)) (annotations_at pool name at end bytes) (other_at name end bytes)) _ _
    (own stand)
    (λ o. either_reads_all (is_known stand (text_or_empty pool name)) (annotations_at pool name at) (other_at name) _ _
    (λ k. all_reads (annotations_at pool name at) _ _ (annotated pool few name named (IsCodeAttributes pool) spelling.code_attribute stand at o k))
    (λ k. others pool few name named (IsCodeAttributes pool) spelling.code_attribute stand k))
  where
    own : (s : Place) → bytes_eq (own_name s) (text_or_empty pool name) ≡ true → ReadsAll (own_content_at pool s name at) (λ a. (spelling.name_of (out-Attribute a) ≡ name) × HasForm (IsCodeAttributes pool) pool s (out-Attribute a)) (λ a. spelling.content_by spelling.code_attribute (out-Attribute a))
    own in_class e = all_reads (bootstraps_at pool name) _ _ (bootstraps pool few name named (IsCodeAttributes pool) spelling.code_attribute e)
    own (in_field d) e = all_reads (constant_value_at pool d name) _ _ (constant_values pool few name named (IsCodeAttributes pool) spelling.code_attribute d e)
    own in_method e = all_reads (code_at pool name at) _ _ (code_reads pool few name named at e)
    own in_code e = all_reads (stack_map_at pool name) _ _ (stack_maps pool few name named (IsCodeAttributes pool) spelling.code_attribute e)

-- attributes of a place; where code is barred none of them is named so
pub attributes_of : (pool : Pool) → IsFew pool → (stand : Place) (barred : Bool)
    → Reads (attributes_at pool stand barred) (λ xs. IsAttributes pool stand xs × AllByRecursion (λ a. is_code_barred pool barred a ≡ false) xs) (spelling.counted spelling.attribute)
unfolding attributes_at attribute_at spelling.attribute
attributes_of pool few stand barred =
    attributes_read pool few stand barred (content_at pool stand) (λ a. HasForm (IsCodeAttributes pool) pool stand (out-Attribute a)) (λ a. spelling.content_by spelling.code_attribute (out-Attribute a))
    (λ name at named. contents_read pool few stand name at named) (λ a is. form_named (IsCodeAttributes pool) pool stand (out-Attribute a) is)
    (IsAttribute pool stand) (λ a p. record { form = p.0; short = p.1 }) (λ a q. (q.form, q.short)) spelling.attribute (λ a. refl)

pub plain_attributes_of : (pool : Pool) → IsFew pool → (stand : Place) → Reads (attributes_at pool stand false) (IsAttributes pool stand) (spelling.counted spelling.attribute)
plain_attributes_of pool few stand =
    as_reads (attributes_at pool stand false) _ _ (IsAttributes pool stand) (spelling.counted spelling.attribute) (attributes_of pool few stand false) (λ xs p. p.0) (λ xs q. (q, never_barred pool xs)) (λ xs q. refl)
