-- What the faults of attributes say of the file.
use Rattle.std.proofs.Common.{◌≡◌, ℕ, zero, suc, eqb, ltb, leb, ◌+◌, ◌-◌, ◌^◌, ◌<◌, ◌≤◌, Bool, true, false, cond, ◌&&◌, ◌∷◌, List, [], length, map, flat_map, codes, bytes_eq, ◌++◌, ◌⊎◌, Ok, Err, refl, sym, ap, subst, append-nil, arith, inl, inr}
use Rattle.std.specs.Int.{w16, w32, to_be_bytes}
use Rattle.std.specs.Str.{byte}
use Rattle.std.proofs.lemmas.Bool.{and_parts, and_cases, ltb-false, leb-false}
use Rattle.std.proofs.lemmas.Slice.Eq.{bytes_eq-Decides}
use Rattle.class_model.specs.declared.constant_pool.Pool.{Pool}
use Rattle.class_model.specs.declared.annotation.Element.{Element, roll-Element}
use Rattle.class_model.specs.declared.annotation.Element.TheOpen.{Element-F}
use Rattle.class_model.specs.declared.annotation.Note.{roll-Note}
use Rattle.class_model.specs.declared.annotation.Pair.{roll-Pair}
use Rattle.class_model.specs.declared.attribute_forms.Attribute.{Attribute, roll-Attribute, out-Attribute}
use Rattle.class_model.specs.declared.attribute_forms.Attribute.TheOpen.{Attribute-F}
use Rattle.class_model.specs.declared.attribute_forms.Bootstrap.{Bootstrap}
use Rattle.class_model.specs.Attributes.{Place, in_class, in_field, in_method, in_code, is_known, attribute_name, HasForm, IsCodeAttributes}
use Rattle.class_model.specs.Spelling as spelling
use Rattle.class_model.specs.Spelling.{greatest_depth}
use Rattle.class_text.specs.Reading.{Fault, cut_short, bad_tag, bad_attribute, bad_length, barred_code, too_deep, second_attribute, place}
use Rattle.class_text.specs.Readers.{Reader, u1_at, u2_at, u4_at, index_at, many_at, counted_at, run_at, within}
use Rattle.class_text.specs.Frames.{leads_to_class, frame_type_of, typed_at, frame_type_at, frame_of, with_item_at, with_locals_at, full_at, behind_delta_at, framed_at, frame_at}
use Rattle.class_text.specs.Elements.{leads_to_text, leads_to_type, leads_to_result, leads_to_value_of, is_constant_tag, pair_by, note_by, enum_at, tagged_by, element_at, note_at}
use Rattle.class_text.specs.Attributes.{text_or_empty, is_first, leads_to_caught, handler_at, leads_to_handle, leads_to_loadable, bootstrap_at, other_at, stack_map_at, leads_to_value_for, constant_value_at, bootstraps_at, annotations_at, code_content_at, named_at, attribute_by, code_attribute_at, code_attributes_at, code_bytes_at, code_at, own_name, own_content_at, content_at, attribute_at, attributes_at}
use Rattle.class_text.specs.Meanings.{StandsAt, Wanted, a_text, a_type, a_result, a_value, a_class, a_caught_class, a_handle, a_loadable_constant, a_field_value, leads, IsNameAt, IsMeantBehind}
use Rattle.class_text.proofs.Numbers.{ok_is}
use Rattle.class_text.proofs.Readers.{Reads, bind}
use Rattle.class_text.proofs.Numbered.{IsFew}
use Rattle.class_text.proofs.Parts.{u1_reads, u4_reads}
use Rattle.class_text.proofs.ElementLaws.{text_reads}
use Rattle.class_text.proofs.AttributeLaws.{left_known, none_left, code_contents}
use Rattle.class_text.proofs.FramedLaws.{named_reads, attribute_reads}
use Rattle.class_text.proofs.CodeLaws.{form_named, code_attributes_read, contents_read, attributes_of}
use Rattle.class_text.proofs.Steps.{class_type, new_type, not_chop, not_far_item, not_item, not_same, constant_value, class_value, note_value, array_value, not_note, not_class, not_enum, not_constant, judged, handler_of, handler_caught, handler_start, handler_stop, code_made, code_inner, code_table, code_run, code_locals}
use Rattle.class_text.proofs.Tells.{IsIn, is_in_behind, Tells, TellsBehind, Cuts, Anywhere, Cut, Left, give_tells, fail_tells, either_tells, then_tells, made_tells, here_tells, bind_tells, u1_tells, u2_tells, u4_tells, index_tells, many_tells, each_tells, run_tells, within_tells, plain_behind, give_behind, fail_behind, either_behind, bind_behind, here_behind, counted_behind}

is_same : (a text : List ℕ) → bytes_eq a text ≡ true → text ≡ a
is_same a text e = sym ((bytes_eq-Decides a text).0 e)

-- a length that code may not have
outside : (len : ℕ) → (ltb 0 len && leb len 65535) ≡ false → (len ≡ 0) ⊎ (65535 < len)
outside len isnt = elim (and_cases (ltb 0 len) (leb len 65535) isnt) [
  | inl low ↦ inl (let none = ltb-false 0 len low in omega (arith, none))
  | inr high ↦ inr (leb-false len 65535 high)
]

module _ (pool : Pool) (file : List ℕ) (start : ℕ) where
  abbrev pub Meant : ℕ → Fault → Type 0
  Meant = IsMeantBehind pool file start

  pub cuts : Cuts file start Meant
  cuts end bytes i short = record { behind = omega (arith, i.ends, i.low); before = omega (arith, i.ends); short = omega (arith, i.ends, short) }

  anywhere : Anywhere file start Meant
  anywhere low high (cut_short at) plain m = absurd cc
  anywhere low high g plain m = m

  pub wanted_tells : (wanted : Wanted) → Tells file start Meant (index_at (leads pool wanted))
  wanted_tells wanted = index_tells file start Meant cuts (leads pool wanted) (λ end at n stood behind astray. record { number = n; wanted = wanted; asked = refl; stands = stood; behind = behind; astray = astray })

  pub number_tells : Tells file start Meant u2_at
  number_tells = u2_tells file start Meant cuts

  -- a tag that was read at a place
  abbrev IsTag : ℕ → ℕ → Type 0
  IsTag at tag = StandsAt file at (tag ∷ []) × (start ≤ at)

  no_tag : (at tag : ℕ) {A : Type 0} → IsTag at tag → Tells {A = A} file start Meant (λ end bytes. Err (bad_tag at tag))
  no_tag at tag {A} stood = fail_tells file start Meant (bad_tag at tag) (λ end. stood)

  -- ---- stack maps

  typed_tells : (at tag : ℕ) → IsTag at tag → Tells file start Meant (typed_at pool at tag)
  unfolding typed_at
  typed_tells at tag stood =
      either_tells file start Meant (ltb tag 7) (λ end bytes. Ok (frame_type_of tag 0, bytes)) (λ end bytes. cond (eqb tag 7) (class_type pool tag end bytes) (cond (eqb tag 8) (new_type tag end bytes) (Err (bad_tag at tag))))
      (λ y. give_tells file start Meant (frame_type_of tag 0))
      (λ n. either_tells file start Meant (eqb tag 7) (class_type pool tag) (λ end bytes. cond (eqb tag 8) (new_type tag end bytes) (Err (bad_tag at tag)))
      (λ y. made_tells file start Meant (index_at (leads_to_class pool)) (frame_type_of tag) (wanted_tells a_class))
      (λ m. either_tells file start Meant (eqb tag 8) (new_type tag) (λ end bytes. Err (bad_tag at tag)) (λ y. made_tells file start Meant u2_at (frame_type_of tag) number_tells) (λ o. no_tag at tag stood)))

  -- what stands behind a tag
  tagged : {A : Type 0} (next : ℕ → ℕ → Reader A) → ((at tag : ℕ) → IsTag at tag → Tells file start Meant (next at tag)) → Tells file start Meant (λ end bytes. bind u1_at (next (place end bytes)) end bytes)
  tagged next ts = here_tells file start Meant u1_at (λ n. n < 2 ^ 8) (λ n. n ∷ []) next u1_reads (u1_tells file start Meant cuts) (λ at tag k. ts at tag (k.1, k.2))

  frame_type_tells : Tells file start Meant (frame_type_at pool)
  unfolding frame_type_at
  frame_type_tells = tagged (typed_at pool) typed_tells

  types_tells : (many : ℕ) → Tells file start Meant (many_at (frame_type_at pool) many)
  types_tells many = many_tells file start Meant (λ before. frame_type_at pool) (λ before. frame_type_tells) many []

  with_item_tells : (tag delta : ℕ) → Tells file start Meant (with_item_at pool tag delta)
  unfolding with_item_at
  with_item_tells tag delta = made_tells file start Meant (many_at (frame_type_at pool) 1) (frame_of tag delta []) (types_tells 1)

  with_locals_tells : (tag delta many : ℕ) → Tells file start Meant (with_locals_at pool tag delta many)
  unfolding with_locals_at
  with_locals_tells tag delta many = made_tells file start Meant (many_at (frame_type_at pool) many) (λ locals. frame_of tag delta locals []) (types_tells many)

  full_tells : (tag delta : ℕ) → Tells file start Meant (full_at pool tag delta)
  unfolding full_at
  full_tells tag delta =
      then_tells file start Meant (counted_at (frame_type_at pool)) (λ locals. bind (counted_at (frame_type_at pool)) (λ stack end bytes. Ok (frame_of tag delta locals stack, bytes))) types
      (λ locals. made_tells file start Meant (counted_at (frame_type_at pool)) (frame_of tag delta locals) types)
    where
      types : Tells file start Meant (counted_at (frame_type_at pool))
      types = each_tells file start Meant cuts (frame_type_at pool) frame_type_tells

  behind_delta_tells : (tag delta : ℕ) → Tells file start Meant (behind_delta_at pool tag delta)
  unfolding behind_delta_at
  behind_delta_tells tag delta =
      either_tells file start Meant (eqb tag 247) (with_item_at pool tag delta) (not_far_item pool tag delta) (λ y. with_item_tells tag delta)
      (λ n. either_tells file start Meant (ltb tag 252) (λ end bytes. Ok (frame_of tag delta [] [], bytes)) (not_chop pool tag delta) (λ y. give_tells file start Meant (frame_of tag delta [] []))
      (λ m. either_tells file start Meant (ltb tag 255) (with_locals_at pool tag delta (tag - 251)) (full_at pool tag delta) (λ y. with_locals_tells tag delta (tag - 251)) (λ o. full_tells tag delta)))

  framed_tells : (at tag : ℕ) → IsTag at tag → Tells file start Meant (framed_at pool at tag)
  unfolding framed_at
  framed_tells at tag stood =
      either_tells file start Meant (ltb tag 64) (λ end bytes. Ok (frame_of tag tag [] [], bytes)) (not_same pool at tag) (λ y. give_tells file start Meant (frame_of tag tag [] []))
      (λ n. either_tells file start Meant (ltb tag 128) (with_item_at pool tag (tag - 64)) (not_item pool at tag) (λ y. with_item_tells tag (tag - 64))
      (λ m. either_tells file start Meant (ltb tag 247) (λ end bytes. Err (bad_tag at tag)) (bind u2_at (behind_delta_at pool tag)) (λ y. no_tag at tag stood)
      (λ o. then_tells file start Meant u2_at (behind_delta_at pool tag) number_tells (λ delta. behind_delta_tells tag delta))))

  frame_tells : Tells file start Meant (frame_at pool)
  unfolding frame_at
  frame_tells = tagged (framed_at pool) framed_tells

  -- ---- annotations

  module _ (value : Reader Element) (values : Tells file start Meant value) where
    pair_tells : Tells file start Meant (pair_by value pool)
    unfolding pair_by
    pair_tells =
        then_tells file start Meant (index_at (leads_to_text pool)) (λ name. bind value (λ v end bytes. Ok (roll-Pair (record { name = name; value = v }), bytes))) (wanted_tells a_text)
        (λ name. made_tells file start Meant value (λ v. roll-Pair (record { name = name; value = v })) values)

    note_tells : Tells file start Meant (note_by value pool)
    unfolding note_by
    note_tells =
        then_tells file start Meant (index_at (leads_to_type pool)) (λ kind. bind (counted_at (pair_by value pool)) (λ pairs end bytes. Ok (roll-Note (record { kind = kind; pairs = pairs }), bytes))) (wanted_tells a_type)
        (λ kind. made_tells file start Meant (counted_at (pair_by value pool)) (λ pairs. roll-Note (record { kind = kind; pairs = pairs })) (each_tells file start Meant cuts (pair_by value pool) pair_tells))

    enum_tells : Tells file start Meant (enum_at pool)
    unfolding enum_at
    enum_tells =
        then_tells file start Meant (index_at (leads_to_type pool)) (λ kind. bind (index_at (leads_to_text pool)) (λ name end bytes. Ok (roll-Element (Element-F.Enum kind name), bytes))) (wanted_tells a_type)
        (λ kind. made_tells file start Meant (index_at (leads_to_text pool)) (λ name. roll-Element (Element-F.Enum kind name)) (wanted_tells a_text))

    tagged_tells : (at tag : ℕ) → IsTag at tag → Tells file start Meant (tagged_by value pool at tag)
    unfolding tagged_by
    tagged_tells at tag stood =
        either_tells file start Meant (is_constant_tag tag) (constant_value pool tag) (not_constant pool value at tag) (λ y. made_tells file start Meant (index_at (leads_to_value_of pool tag)) (λ n. roll-Element (Element-F.Const tag n)) (wanted_tells (a_value tag)))
        (λ n. either_tells file start Meant (eqb tag (byte "e")) (enum_at pool) (not_enum pool value at tag) (λ y. enum_tells)
        (λ m. either_tells file start Meant (eqb tag (byte "c")) (class_value pool) (not_class pool value at tag) (λ y. made_tells file start Meant (index_at (leads_to_result pool)) (λ n. roll-Element (Element-F.OfClass n)) (wanted_tells a_result))
        (λ o. either_tells file start Meant (eqb tag (byte "@")) (note_value pool value) (not_note pool value at tag) (λ y. made_tells file start Meant (note_by value pool) (λ n. roll-Element (Element-F.Nested n)) note_tells)
        (λ p. either_tells file start Meant (eqb tag (byte "[")) (array_value value) (λ end bytes. Err (bad_tag at tag)) (λ y. made_tells file start Meant (counted_at value) (λ vs. roll-Element (Element-F.Many vs)) (each_tells file start Meant cuts value values))
        (λ q. no_tag at tag stood)))))

  element_tells : (at name : ℕ) → IsNameAt pool file start at name → text_or_empty pool name ≡ codes "RuntimeVisibleAnnotations" → (depth : ℕ) → Tells file start Meant (element_at at pool depth)
  unfolding element_at
  element_tells at name named text zero = fail_tells file start Meant (bad_attribute at too_deep) (λ end. record { name = name; named = named; reason = text })
  element_tells at name named text (suc depth) = tagged (tagged_by (element_at at pool depth) pool) (λ place tag stood. tagged_tells (element_at at pool depth) (element_tells at name named text depth) place tag stood)

  annotation_tells : (at name : ℕ) → IsNameAt pool file start at name → text_or_empty pool name ≡ codes "RuntimeVisibleAnnotations" → Tells file start Meant (note_at at pool)
  unfolding note_at
  annotation_tells at name named text = note_tells (element_at at pool greatest_depth) (element_tells at name named text greatest_depth)

  -- ---- the contents of attributes

  handler_tells : Tells file start Meant (handler_at pool)
  unfolding handler_at
  handler_tells =
      then_tells file start Meant u2_at (handler_stop pool) number_tells
      (λ first. then_tells file start Meant u2_at (handler_start pool first) number_tells
      (λ stop. then_tells file start Meant u2_at (handler_caught pool first stop) number_tells
      (λ handler. made_tells file start Meant (index_at (leads_to_caught pool)) (handler_of first stop handler) (wanted_tells a_caught_class))))

  bootstrap_tells : Tells file start Meant (bootstrap_at pool)
  unfolding bootstrap_at
  bootstrap_tells =
      then_tells file start Meant (index_at (leads_to_handle pool)) (λ handle. bind (counted_at (index_at (leads_to_loadable pool))) (λ arguments end bytes. Ok (made handle arguments, bytes))) (wanted_tells a_handle)
      (λ handle. made_tells file start Meant (counted_at (index_at (leads_to_loadable pool))) (made handle) (each_tells file start Meant cuts (index_at (leads_to_loadable pool)) (wanted_tells a_loadable_constant)))
    where
      made : ℕ → List ℕ → Bootstrap
      made handle arguments = record { handle = handle; arguments = arguments }

  other_tells : (name : ℕ) → Tells file start Meant (other_at name)
  unfolding other_at
  other_tells name = record {
    faults = λ end bytes f i e. absurd cc;
    rest = λ end bytes x after i e.
        let same : [] ≡ after = ap (λ (p : Attribute × List ℕ). p.1) (ok_is (roll-Attribute (Attribute-F.Other name bytes), []) (x, after) e) in
        subst (IsIn file start end) same (is_in_behind file start end bytes bytes [] i (sym (append-nil bytes)) (λ k. omega arith));
  }

  module _ (name at : ℕ) (named : IsNameAt pool file start at name) where
    stack_map_tells : Tells file start Meant (stack_map_at pool name)
    unfolding stack_map_at
    stack_map_tells = made_tells file start Meant (counted_at (frame_at pool)) (λ frames. roll-Attribute (Attribute-F.StackMap name frames)) (each_tells file start Meant cuts (frame_at pool) frame_tells)

    constant_value_tells : (descriptor : List ℕ) → Tells file start Meant (constant_value_at pool descriptor name)
    unfolding constant_value_at
    constant_value_tells descriptor = made_tells file start Meant (index_at (leads_to_value_for pool descriptor)) (λ value. roll-Attribute (Attribute-F.ConstantValue name value)) (wanted_tells (a_field_value descriptor))

    bootstraps_tells : Tells file start Meant (bootstraps_at pool name)
    unfolding bootstraps_at
    bootstraps_tells = made_tells file start Meant (counted_at (bootstrap_at pool)) (λ entries. roll-Attribute (Attribute-F.Bootstrap name entries)) (each_tells file start Meant cuts (bootstrap_at pool) bootstrap_tells)

    annotations_tells : text_or_empty pool name ≡ codes "RuntimeVisibleAnnotations" → Tells file start Meant (annotations_at pool name at)
    unfolding annotations_at
    annotations_tells text = made_tells file start Meant (counted_at (note_at at pool)) (λ list. roll-Attribute (Attribute-F.Annotations name list)) (each_tells file start Meant cuts (note_at at pool) (annotation_tells at name named text))

    code_content_tells : Tells file start Meant (code_content_at pool name at)
    unfolding code_content_at
    code_content_tells = either_tells file start Meant (bytes_eq (codes "StackMapTable") (text_or_empty pool name)) (stack_map_at pool name) (other_at name) (λ y. stack_map_tells) (λ n. other_tells name)

  -- ---- attributes

  module _ (at name : ℕ) (named : IsNameAt pool file start at name) where
    cut_tells : Cut file start Meant at
    cut_tells end stop (cut_short p) is within m = record { name = name; named = named; reason = (m, within) }
    cut_tells end stop g is within m = absurd cc

    left_tells : Left file start Meant at
    left_tells end from stop over = record { name = name; named = named; reason = over }

  abbrev Behind : {A : Type 0} → List ℕ → ℕ → Reader A → Type 0
  Behind = TellsBehind file start Meant

  -- an attribute right behind the text of those before it, as `s` spells them
  module _ (few : IsFew pool) (stand : Place) (barred : Bool) (before : List Attribute) (text : List ℕ) (spelled : (text ≡ flat_map spelling.attribute before) ⊎ (text ≡ flat_map spelling.code_attribute before)) (from : ℕ) where
    abbrev at : ℕ
    at = from + length text

    judged_tells : (n : ℕ) → leads_to_text pool n ≡ true → StandsAt file at (to_be_bytes w16 n) × (start ≤ at) → Behind (text ++ to_be_bytes w16 n) from (judged pool stand barred before at n)
    judged_tells n named k =
        either_behind file start Meant (text ++ to_be_bytes w16 n) from (is_first (is_known stand) bytes_eq (map (attribute_name pool) before) (text_or_empty pool n)) (λ end bytes. cond (barred && bytes_eq (codes "Code") (text_or_empty pool n)) (Err (bad_attribute at barred_code)) (Ok (n, bytes))) (λ end bytes. Err (second_attribute at))
        (λ y. either_behind file start Meant (text ++ to_be_bytes w16 n) from (barred && bytes_eq (codes "Code") (text_or_empty pool n)) (λ end bytes. Err (bad_attribute at barred_code)) (λ end bytes. Ok (n, bytes))
        (λ c. fail_behind file start Meant (text ++ to_be_bytes w16 n) from (bad_attribute at barred_code) (λ end all low. record { name = n; named = record { stands = k.0; behind = k.1; text = named }; reason = is_same (codes "Code") (text_or_empty pool n) (and_parts barred (bytes_eq (codes "Code") (text_or_empty pool n)) c).1 })) (λ o. give_behind file start Meant (text ++ to_be_bytes w16 n) from n))
        (λ twice. fail_behind file start Meant (text ++ to_be_bytes w16 n) from (second_attribute at) (λ end all low. record { name = n; place = stand; before = before; from = from; text = text; spelled = spelled; stands = all; here = refl; behind = low; twice = twice }))

    named_tells : Behind text from (named_at pool stand barred before)
    unfolding named_at
    named_tells =
        here_behind file start Meant text from (λ p. bind (index_at (leads_to_text pool)) (judged pool stand barred before p))
        (bind_behind file start Meant text from (index_at (leads_to_text pool)) (λ n. leads_to_text pool n ≡ true) (to_be_bytes w16) (judged pool stand barred before at) (text_reads pool few) (plain_behind file start Meant text from (index_at (leads_to_text pool)) (wanted_tells a_text)) judged_tells)

    attribute_tells : (IsNamed : ℕ → Type 0) → Reads (named_at pool stand barred before) IsNamed (to_be_bytes w16) → ((name : ℕ) → IsNamed name → leads_to_text pool name ≡ true)
        → (content : ℕ → ℕ → Reader Attribute) → ((name place : ℕ) → IsNameAt pool file start place name → Tells file start Meant (content name place)) → Behind text from (attribute_by content pool stand barred before)
    unfolding attribute_by
    attribute_tells IsNamed names named content contents =
        here_behind file start Meant text from (λ p. bind (named_at pool stand barred before) (λ name. bind u4_at (λ len. within p len (content name p))))
        (bind_behind file start Meant text from (named_at pool stand barred before) IsNamed (to_be_bytes w16) (λ name. bind u4_at (λ len. within at len (content name at))) names named_tells
        (λ name p k. let there : IsNameAt pool file start at name = record { stands = k.0; behind = k.1; text = named name p } in
        plain_behind file start Meant (text ++ to_be_bytes w16 name) from (bind u4_at (λ len. within at len (content name at)))
        (bind_tells file start Meant u4_at (λ n. n < 2 ^ 32) (to_be_bytes w32) (λ len. within at len (content name at)) u4_reads (u4_tells file start Meant cuts)
        (λ len small. within_tells file start Meant cuts anywhere at len (content name at) small (cut_tells at name there) (left_tells at name there) (contents name at there)))))

  -- ---- code

  code_bytes_tells : (at name : ℕ) → IsNameAt pool file start at name → text_or_empty pool name ≡ codes "Code" → Tells file start Meant (code_bytes_at at)
  unfolding code_bytes_at
  code_bytes_tells at name named text =
      here_tells file start Meant u4_at (λ n. n < 2 ^ 32) (to_be_bytes w32) (λ from len end bytes. cond (ltb 0 len && leb len 65535) (run_at len end bytes) (Err (bad_attribute at (bad_length len)))) u4_reads (u4_tells file start Meant cuts)
      (λ from len k. either_tells file start Meant (ltb 0 len && leb len 65535) (run_at len) (λ end bytes. Err (bad_attribute at (bad_length len))) (λ y. run_tells file start Meant cuts len k.0)
      (λ n. fail_tells file start Meant (bad_attribute at (bad_length len)) (λ end. record { name = name; named = named; reason = (record { at = from; stands = k.1; behind = k.2; outside = outside len n }, text) })))

  module _ (few : IsFew pool) where
    code_attributes_tells : Tells file start Meant (code_attributes_at pool)
    unfolding code_attributes_at code_attribute_at spelling.code_attribute
    code_attributes_tells =
        counted_behind file start Meant cuts (code_attribute_at pool) _ spelling.code_attribute _ _
        (attribute_reads pool few in_code false (code_content_at pool) (λ a. HasForm (λ inner. ⊥) pool in_code (out-Attribute a)) (λ a. spelling.content_by spelling.no_attribute (out-Attribute a)) (λ name at named. code_contents pool few name named at) (λ a is. form_named (λ inner. ⊥) pool in_code (out-Attribute a) is))
        (λ before from. attribute_tells few in_code false before (flat_map spelling.code_attribute before) (inr refl) from _
        (named_reads pool few in_code false (code_content_at pool) (λ a. HasForm (λ inner. ⊥) pool in_code (out-Attribute a)) (λ a. spelling.content_by spelling.no_attribute (out-Attribute a)) (λ name at named. code_contents pool few name named at) (λ a is. form_named (λ inner. ⊥) pool in_code (out-Attribute a) is) before)
        (λ name p. p.0) (code_content_at pool) code_content_tells)
        (code_attributes_read pool few)

    code_tells : (name at : ℕ) → IsNameAt pool file start at name → text_or_empty pool name ≡ codes "Code" → Tells file start Meant (code_at pool name at)
    unfolding code_at
    code_tells name at there text =
        then_tells file start Meant u2_at (code_locals pool name at) number_tells
        (λ stack. then_tells file start Meant u2_at (code_run pool name at stack) number_tells
        (λ locals. then_tells file start Meant (code_bytes_at at) (code_table pool name at stack locals) (code_bytes_tells at name there text)
        (λ code. then_tells file start Meant (counted_at (handler_at pool)) (code_inner pool name at stack locals code) (each_tells file start Meant cuts (handler_at pool) handler_tells)
        (λ table. made_tells file start Meant (code_attributes_at pool) (code_made pool name at stack locals code table) code_attributes_tells))))

    own_tells : (stand : Place) (name at : ℕ) → IsNameAt pool file start at name → text_or_empty pool name ≡ own_name stand → Tells file start Meant (own_content_at pool stand name at)
    own_tells in_class name at there text = bootstraps_tells name at there
    own_tells (in_field descriptor) name at there text = constant_value_tells name at there descriptor
    own_tells in_method name at there text = code_tells name at there text
    own_tells in_code name at there text = stack_map_tells name at there

    -- a known name that isn't the place's own
    annotations_text : (stand : Place) (name : ℕ) → leads_to_text pool name ≡ true → bytes_eq (own_name stand) (text_or_empty pool name) ≡ false → is_known stand (text_or_empty pool name) ≡ true → text_or_empty pool name ≡ codes "RuntimeVisibleAnnotations"
    unfolding is_known
    annotations_text in_class name named other known = is_same _ (text_or_empty pool name) (left_known pool few name named (codes "BootstrapMethods") (codes "RuntimeVisibleAnnotations") known other)
    annotations_text (in_field d) name named other known = is_same _ (text_or_empty pool name) (left_known pool few name named (codes "ConstantValue") (codes "RuntimeVisibleAnnotations") known other)
    annotations_text in_method name named other known = is_same _ (text_or_empty pool name) (left_known pool few name named (codes "Code") (codes "RuntimeVisibleAnnotations") known other)
    annotations_text in_code name named other known = absurd (none_left pool few name named (codes "StackMapTable") known other)

    content_tells : (stand : Place) (name at : ℕ) → IsNameAt pool file start at name → Tells file start Meant (content_at pool stand name at)
    unfolding content_at
    content_tells stand name at there =
        either_tells file start Meant (bytes_eq (own_name stand) (text_or_empty pool name)) (own_content_at pool stand name at) (λ end bytes. cond (is_known stand (text_or_empty pool name)) (annotations_at pool name at end bytes) (other_at name end bytes))
        (λ y. own_tells stand name at there (is_same (own_name stand) (text_or_empty pool name) y))
        (λ n. either_tells file start Meant (is_known stand (text_or_empty pool name)) (annotations_at pool name at) (other_at name) (λ y. annotations_tells name at there (annotations_text stand name there.text n y)) (λ m. other_tells name))

    pub attributes_tells : (stand : Place) (barred : Bool) → Tells file start Meant (attributes_at pool stand barred)
    unfolding attributes_at attribute_at spelling.attribute
    attributes_tells stand barred =
        counted_behind file start Meant cuts (attribute_at pool stand barred) _ spelling.attribute _ _
        (attribute_reads pool few stand barred (content_at pool stand) (λ a. HasForm (IsCodeAttributes pool) pool stand (out-Attribute a)) (λ a. spelling.content_by spelling.code_attribute (out-Attribute a)) (λ name at named. contents_read pool few stand name at named) (λ a is. form_named (IsCodeAttributes pool) pool stand (out-Attribute a) is))
        (λ before from. attribute_tells few stand barred before (flat_map spelling.attribute before) (inl refl) from _
        (named_reads pool few stand barred (content_at pool stand) (λ a. HasForm (IsCodeAttributes pool) pool stand (out-Attribute a)) (λ a. spelling.content_by spelling.code_attribute (out-Attribute a)) (λ name at named. contents_read pool few stand name at named) (λ a is. form_named (IsCodeAttributes pool) pool stand (out-Attribute a) is) before)
        (λ name p. p.0) (content_at pool stand) (content_tells stand))
        (attributes_of pool few stand barred)
