-- Where the faults of attributes lie.
use Rattle.std.proofs.Common.{◌≡◌, ℕ, zero, suc, eqb, ltb, leb, ◌+◌, ◌-◌, ◌≤◌, Bool, false, cond, ◌&&◌, List, [], length, map, codes, bytes_eq, Ok, Err, ap, subst, arith}
use Rattle.std.specs.Str.{byte}
use Rattle.class_model.specs.declared.constant_pool.Pool.{Pool}
use Rattle.class_model.specs.declared.annotation.Element.{Element, roll-Element}
use Rattle.class_model.specs.declared.annotation.Element.TheOpen.{Element-F}
use Rattle.class_model.specs.declared.annotation.Note.{roll-Note}
use Rattle.class_model.specs.declared.annotation.Pair.{roll-Pair}
use Rattle.class_model.specs.declared.attribute_forms.Attribute.{Attribute, roll-Attribute}
use Rattle.class_model.specs.declared.attribute_forms.Attribute.TheOpen.{Attribute-F}
use Rattle.class_model.specs.declared.attribute_forms.Bootstrap.{Bootstrap}
use Rattle.class_model.specs.Attributes.{Place, in_class, in_field, in_method, in_code, is_known, attribute_name}
use Rattle.class_model.specs.Spelling.{greatest_depth}
use Rattle.class_text.specs.Reading.{bad_tag, bad_attribute, bad_length, barred_code, too_deep, second_attribute, IsBytes}
use Rattle.class_text.specs.Readers.{Reader, u1_at, u2_at, u4_at, index_at, many_at, counted_at, run_at, within}
use Rattle.class_text.specs.Frames.{leads_to_class, frame_type_of, typed_at, frame_type_at, frame_of, with_item_at, with_locals_at, full_at, behind_delta_at, framed_at, frame_at}
use Rattle.class_text.specs.Elements.{leads_to_text, leads_to_type, leads_to_result, leads_to_value_of, is_constant_tag, pair_by, note_by, enum_at, tagged_by, element_at, note_at}
use Rattle.class_text.specs.Attributes.{text_or_empty, is_first, leads_to_caught, handler_at, leads_to_handle, leads_to_loadable, bootstrap_at, other_at, stack_map_at, leads_to_value_for, constant_value_at, bootstraps_at, annotations_at, code_content_at, named_at, attribute_by, code_attribute_at, code_attributes_at, code_bytes_at, code_at, own_name, own_content_at, content_at, attribute_at, attributes_at}
use Rattle.class_text.proofs.Numbers.{ok_is}
use Rattle.class_text.proofs.Readers.{bind}
use Rattle.class_text.proofs.Steps.{class_type, new_type, not_chop, not_far_item, not_item, not_same, constant_value, class_value, note_value, array_value, not_note, not_class, not_enum, not_constant, judged, handler_of, handler_caught, handler_start, handler_stop, code_made, code_inner, code_table, code_run, code_locals}
use Rattle.class_text.proofs.Inside.{Inside, raise_inside, less_inside, give_inside, fail_inside, either_inside, then_inside, made_inside, here_inside, u1_inside, u2_inside, u4_inside, index_inside, many_inside, counted_inside, each_inside, run_inside, within_inside}

-- a fault at a place before the bytes
tag_before : (at tag : ℕ) {A : Type 0} → Inside {A = A} (suc at) 0 (λ end bytes. Err (bad_tag at tag))
tag_before at tag = fail_inside (suc at) 0 (bad_tag at tag) (λ end over. over)

-- ---- stack maps

typed_inside : (pool : Pool) (at tag : ℕ) → Inside (suc at) 0 (typed_at pool at tag)
unfolding typed_at
typed_inside pool at tag =
    either_inside (suc at) 0 (ltb tag 7) (λ end bytes. Ok (frame_type_of tag 0, bytes)) (λ end bytes. cond (eqb tag 7) (class_type pool tag end bytes) (cond (eqb tag 8) (new_type tag end bytes) (Err (bad_tag at tag))))
    (give_inside (suc at) (frame_type_of tag 0))
    (either_inside (suc at) 0 (eqb tag 7) (class_type pool tag) (λ end bytes. cond (eqb tag 8) (new_type tag end bytes) (Err (bad_tag at tag)))
    (less_inside (made_inside (suc at) 2 (index_at (leads_to_class pool)) (frame_type_of tag) (index_inside (leads_to_class pool) (suc at))))
    (either_inside (suc at) 0 (eqb tag 8) (new_type tag) (λ end bytes. Err (bad_tag at tag)) (less_inside (made_inside (suc at) 2 u2_at (frame_type_of tag) (u2_inside (suc at)))) (tag_before at tag)))

frame_type_inside : (pool : Pool) (low : ℕ) → Inside low 0 (frame_type_at pool)
unfolding frame_type_at
frame_type_inside pool low = less_inside (here_inside low 1 u1_at (typed_at pool) (omega arith) (u1_inside low) (λ at up tag. typed_inside pool at tag))

types_inside : (pool : Pool) (many low : ℕ) → Inside low 0 (many_at (frame_type_at pool) many)
types_inside pool many low = many_inside low (λ before. frame_type_at pool) (λ before. frame_type_inside pool low) many []

with_item_inside : (pool : Pool) (tag delta low : ℕ) → Inside low 0 (with_item_at pool tag delta)
unfolding with_item_at
with_item_inside pool tag delta low = made_inside low 0 (many_at (frame_type_at pool) 1) (frame_of tag delta []) (types_inside pool 1 low)

with_locals_inside : (pool : Pool) (tag delta many low : ℕ) → Inside low 0 (with_locals_at pool tag delta many)
unfolding with_locals_at
with_locals_inside pool tag delta many low = made_inside low 0 (many_at (frame_type_at pool) many) (λ locals. frame_of tag delta locals []) (types_inside pool many low)

full_inside : (pool : Pool) (tag delta low : ℕ) → Inside low 0 (full_at pool tag delta)
unfolding full_at
full_inside pool tag delta low =
    then_inside low 0 (counted_at (frame_type_at pool)) (λ locals. bind (counted_at (frame_type_at pool)) (λ stack end bytes. Ok (frame_of tag delta locals stack, bytes))) types
    (λ locals. made_inside low 0 (counted_at (frame_type_at pool)) (frame_of tag delta locals) types)
  where
    types : Inside low 0 (counted_at (frame_type_at pool))
    types = each_inside low 0 (frame_type_at pool) (frame_type_inside pool low)

behind_delta_inside : (pool : Pool) (tag delta low : ℕ) → Inside low 0 (behind_delta_at pool tag delta)
unfolding behind_delta_at
behind_delta_inside pool tag delta low =
    either_inside low 0 (eqb tag 247) (with_item_at pool tag delta) (not_far_item pool tag delta) (with_item_inside pool tag delta low)
    (either_inside low 0 (ltb tag 252) (λ end bytes. Ok (frame_of tag delta [] [], bytes)) (not_chop pool tag delta) (give_inside low (frame_of tag delta [] []))
    (either_inside low 0 (ltb tag 255) (with_locals_at pool tag delta (tag - 251)) (full_at pool tag delta) (with_locals_inside pool tag delta (tag - 251) low) (full_inside pool tag delta low)))

framed_inside : (pool : Pool) (at tag : ℕ) → Inside (suc at) 0 (framed_at pool at tag)
unfolding framed_at
framed_inside pool at tag =
    either_inside (suc at) 0 (ltb tag 64) (λ end bytes. Ok (frame_of tag tag [] [], bytes)) (not_same pool at tag) (give_inside (suc at) (frame_of tag tag [] []))
    (either_inside (suc at) 0 (ltb tag 128) (with_item_at pool tag (tag - 64)) (not_item pool at tag) (with_item_inside pool tag (tag - 64) (suc at))
    (either_inside (suc at) 0 (ltb tag 247) (λ end bytes. Err (bad_tag at tag)) (bind u2_at (behind_delta_at pool tag)) (tag_before at tag)
    (less_inside (then_inside (suc at) 2 u2_at (behind_delta_at pool tag) (u2_inside (suc at)) (λ delta. behind_delta_inside pool tag delta (suc at))))))

frame_inside : (pool : Pool) (low : ℕ) → Inside low 0 (frame_at pool)
unfolding frame_at
frame_inside pool low = less_inside (here_inside low 1 u1_at (framed_at pool) (omega arith) (u1_inside low) (λ at up tag. framed_inside pool at tag))

-- ---- annotations

module _ (pool : Pool) (low : ℕ) (value : Reader Element) (values : Inside low 0 value) where
  pair_inside : Inside low 0 (pair_by value pool)
  unfolding pair_by
  pair_inside =
      less_inside (then_inside low 2 (index_at (leads_to_text pool)) (λ name. bind value (λ v end bytes. Ok (roll-Pair (record { name = name; value = v }), bytes))) (index_inside (leads_to_text pool) low)
      (λ name. made_inside low 0 value (λ v. roll-Pair (record { name = name; value = v })) values))

  note_inside : Inside low 0 (note_by value pool)
  unfolding note_by
  note_inside =
      less_inside (then_inside low 2 (index_at (leads_to_type pool)) (λ kind. bind (counted_at (pair_by value pool)) (λ pairs end bytes. Ok (roll-Note (record { kind = kind; pairs = pairs }), bytes))) (index_inside (leads_to_type pool) low)
      (λ kind. made_inside low 0 (counted_at (pair_by value pool)) (λ pairs. roll-Note (record { kind = kind; pairs = pairs })) (each_inside low 0 (pair_by value pool) pair_inside)))

  enum_inside : Inside low 0 (enum_at pool)
  unfolding enum_at
  enum_inside =
      less_inside (then_inside low 2 (index_at (leads_to_type pool)) (λ kind. bind (index_at (leads_to_text pool)) (λ name end bytes. Ok (roll-Element (Element-F.Enum kind name), bytes))) (index_inside (leads_to_type pool) low)
      (λ kind. less_inside (made_inside low 2 (index_at (leads_to_text pool)) (λ name. roll-Element (Element-F.Enum kind name)) (index_inside (leads_to_text pool) low))))

  tagged_inside : (at tag : ℕ) → suc at ≤ low → Inside low 0 (tagged_by value pool at tag)
  unfolding tagged_by
  tagged_inside at tag under =
      either_inside low 0 (is_constant_tag tag) (constant_value pool tag) (not_constant pool value at tag) (less_inside (made_inside low 2 (index_at (leads_to_value_of pool tag)) (λ n. roll-Element (Element-F.Const tag n)) (index_inside (leads_to_value_of pool tag) low)))
      (either_inside low 0 (eqb tag (byte "e")) (enum_at pool) (not_enum pool value at tag) enum_inside
      (either_inside low 0 (eqb tag (byte "c")) (class_value pool) (not_class pool value at tag) (less_inside (made_inside low 2 (index_at (leads_to_result pool)) (λ n. roll-Element (Element-F.OfClass n)) (index_inside (leads_to_result pool) low)))
      (either_inside low 0 (eqb tag (byte "@")) (note_value pool value) (not_note pool value at tag) (made_inside low 0 (note_by value pool) (λ n. roll-Element (Element-F.Nested n)) note_inside)
      (either_inside low 0 (eqb tag (byte "[")) (array_value value) (λ end bytes. Err (bad_tag at tag)) (made_inside low 0 (counted_at value) (λ vs. roll-Element (Element-F.Many vs)) (each_inside low 0 value values))
      (raise_inside (suc at) 0 low 0 (λ end bytes. Err (bad_tag at tag)) under (omega arith) (tag_before at tag))))))

element_inside : (at : ℕ) (pool : Pool) (depth : ℕ) → Inside (suc at) 0 (element_at at pool depth)
unfolding element_at
element_inside at pool zero = fail_inside (suc at) 0 (bad_attribute at too_deep) (λ end over. over)
element_inside at pool (suc depth) =
    less_inside (here_inside (suc at) 1 u1_at (tagged_by (element_at at pool depth) pool) (omega arith) (u1_inside (suc at))
    (λ tag_place up tag. tagged_inside pool (suc tag_place) (element_at at pool depth) (raise_inside (suc at) 0 (suc tag_place) 0 (element_at at pool depth) (omega (arith, up)) (omega arith) (element_inside at pool depth)) tag_place tag (omega arith)))

annotation_inside : (at : ℕ) (pool : Pool) → Inside (suc at) 0 (note_at at pool)
unfolding note_at
annotation_inside at pool = note_inside pool (suc at) (element_at at pool greatest_depth) (element_inside at pool greatest_depth)

-- ---- the contents of attributes

handler_inside : (pool : Pool) (low : ℕ) → Inside low 0 (handler_at pool)
unfolding handler_at
handler_inside pool low =
    less_inside (then_inside low 2 u2_at (handler_stop pool) (u2_inside low)
    (λ start. less_inside (then_inside low 2 u2_at (handler_start pool start) (u2_inside low)
    (λ stop. less_inside (then_inside low 2 u2_at (handler_caught pool start stop) (u2_inside low)
    (λ handler. less_inside (made_inside low 2 (index_at (leads_to_caught pool)) (handler_of start stop handler) (index_inside (leads_to_caught pool) low))))))))

bootstrap_inside : (pool : Pool) (low : ℕ) → Inside low 0 (bootstrap_at pool)
unfolding bootstrap_at
bootstrap_inside pool low =
    less_inside (then_inside low 2 (index_at (leads_to_handle pool)) (λ handle. bind (counted_at (index_at (leads_to_loadable pool))) (λ arguments end bytes. Ok (made handle arguments, bytes))) (index_inside (leads_to_handle pool) low)
    (λ handle. made_inside low 0 (counted_at (index_at (leads_to_loadable pool))) (made handle) (each_inside low 2 (index_at (leads_to_loadable pool)) (index_inside (leads_to_loadable pool) low))))
  where
    made : ℕ → List ℕ → Bootstrap
    made handle arguments = record { handle = handle; arguments = arguments }

other_inside : (name low : ℕ) → Inside low 0 (other_at name)
unfolding other_at
other_inside name low = record {
  faults = λ end bytes f are room e. absurd cc;
  rest = λ end bytes x after are room e.
      let same : [] ≡ after = ap (λ (p : Attribute × List ℕ). p.1) (ok_is (roll-Attribute (Attribute-F.Other name bytes), []) (x, after) e) in
      subst (λ (l : List ℕ). IsBytes l × (length l + 0 ≤ length bytes)) same (λ i. omega arith, omega arith);
}

module _ (pool : Pool) (name at : ℕ) where
  pub stack_map_inside : Inside (suc at) 0 (stack_map_at pool name)
  unfolding stack_map_at
  stack_map_inside = made_inside (suc at) 0 (counted_at (frame_at pool)) (λ frames. roll-Attribute (Attribute-F.StackMap name frames)) (each_inside (suc at) 0 (frame_at pool) (frame_inside pool (suc at)))

  pub constant_value_inside : (descriptor : List ℕ) → Inside (suc at) 0 (constant_value_at pool descriptor name)
  unfolding constant_value_at
  constant_value_inside descriptor =
      less_inside (made_inside (suc at) 2 (index_at (leads_to_value_for pool descriptor)) (λ value. roll-Attribute (Attribute-F.ConstantValue name value)) (index_inside (leads_to_value_for pool descriptor) (suc at)))

  pub bootstraps_inside : Inside (suc at) 0 (bootstraps_at pool name)
  unfolding bootstraps_at
  bootstraps_inside = made_inside (suc at) 0 (counted_at (bootstrap_at pool)) (λ entries. roll-Attribute (Attribute-F.Bootstrap name entries)) (each_inside (suc at) 0 (bootstrap_at pool) (bootstrap_inside pool (suc at)))

  pub annotations_inside : Inside (suc at) 0 (annotations_at pool name at)
  unfolding annotations_at
  annotations_inside = made_inside (suc at) 0 (counted_at (note_at at pool)) (λ list. roll-Attribute (Attribute-F.Annotations name list)) (each_inside (suc at) 0 (note_at at pool) (annotation_inside at pool))

  pub code_content_inside : Inside (suc at) 0 (code_content_at pool name at)
  unfolding code_content_at
  code_content_inside = either_inside (suc at) 0 (bytes_eq (codes "StackMapTable") (text_or_empty pool name)) (stack_map_at pool name) (other_at name) stack_map_inside (other_inside name (suc at))

-- ---- attributes

module _ (pool : Pool) (stand : Place) (barred : Bool) (before : List Attribute) (low : ℕ) where
  judged_inside : (at n : ℕ) → Inside (suc at) 0 (judged pool stand barred before at n)
  judged_inside at n =
      either_inside (suc at) 0 (is_first (is_known stand) bytes_eq (map (attribute_name pool) before) (text_or_empty pool n)) (λ end bytes. cond (barred && bytes_eq (codes "Code") (text_or_empty pool n)) (Err (bad_attribute at barred_code)) (Ok (n, bytes))) (λ end bytes. Err (second_attribute at))
      (either_inside (suc at) 0 (barred && bytes_eq (codes "Code") (text_or_empty pool n)) (λ end bytes. Err (bad_attribute at barred_code)) (λ end bytes. Ok (n, bytes)) (fail_inside (suc at) 0 (bad_attribute at barred_code) (λ end over. over)) (give_inside (suc at) n))
      (fail_inside (suc at) 0 (second_attribute at) (λ end over. over))

  pub named_inside : Inside low 2 (named_at pool stand barred before)
  unfolding named_at
  named_inside = here_inside low 2 (index_at (leads_to_text pool)) (judged pool stand barred before) (omega arith) (index_inside (leads_to_text pool) low) (λ at up n. judged_inside at n)

  pub attribute_inside : (content : ℕ → ℕ → Reader Attribute) → ((name at : ℕ) → Inside (suc at) 0 (content name at)) → Inside low 0 (attribute_by content pool stand barred before)
  unfolding attribute_by
  attribute_inside content contents =
      less_inside (here_inside low 2 (named_at pool stand barred before) (λ at name. bind u4_at (λ len. within at len (content name at))) (omega arith) named_inside
      (λ at up name. less_inside (then_inside (suc at) 4 u4_at (λ len. within at len (content name at)) (u4_inside (suc at)) (λ len. within_inside at len (content name at) (contents name at)))))

code_attributes_inside : (pool : Pool) (low : ℕ) → Inside low 0 (code_attributes_at pool)
unfolding code_attributes_at code_attribute_at
code_attributes_inside pool low = counted_inside low (code_attribute_at pool) (λ before. attribute_inside pool in_code false before low (code_content_at pool) (code_content_inside pool))

code_bytes_inside : (at : ℕ) → Inside (suc at) 0 (code_bytes_at at)
unfolding code_bytes_at
code_bytes_inside at =
    less_inside (then_inside (suc at) 4 u4_at (λ len end bytes. cond (ltb 0 len && leb len 65535) (run_at len end bytes) (Err (bad_attribute at (bad_length len)))) (u4_inside (suc at))
    (λ len. either_inside (suc at) 0 (ltb 0 len && leb len 65535) (run_at len) (λ end bytes. Err (bad_attribute at (bad_length len))) (run_inside len (suc at)) (fail_inside (suc at) 0 (bad_attribute at (bad_length len)) (λ end over. over))))

pub code_inside : (pool : Pool) (name at : ℕ) → Inside (suc at) 0 (code_at pool name at)
unfolding code_at
code_inside pool name at =
    less_inside (then_inside (suc at) 2 u2_at (code_locals pool name at) (u2_inside (suc at))
    (λ stack. less_inside (then_inside (suc at) 2 u2_at (code_run pool name at stack) (u2_inside (suc at))
    (λ locals. then_inside (suc at) 0 (code_bytes_at at) (code_table pool name at stack locals) (code_bytes_inside at)
    (λ code. then_inside (suc at) 0 (counted_at (handler_at pool)) (code_inner pool name at stack locals code) (each_inside (suc at) 0 (handler_at pool) (handler_inside pool (suc at)))
    (λ table. made_inside (suc at) 0 (code_attributes_at pool) (code_made pool name at stack locals code table) (code_attributes_inside pool (suc at))))))))

own_inside : (pool : Pool) (stand : Place) (name at : ℕ) → Inside (suc at) 0 (own_content_at pool stand name at)
own_inside pool in_class name at = bootstraps_inside pool name at
own_inside pool (in_field descriptor) name at = constant_value_inside pool name at descriptor
own_inside pool in_method name at = code_inside pool name at
own_inside pool in_code name at = stack_map_inside pool name at

pub content_inside : (pool : Pool) (stand : Place) (name at : ℕ) → Inside (suc at) 0 (content_at pool stand name at)
unfolding content_at
content_inside pool stand name at =
    either_inside (suc at) 0 (bytes_eq (own_name stand) (text_or_empty pool name)) (own_content_at pool stand name at) (λ end bytes. cond (is_known stand (text_or_empty pool name)) (annotations_at pool name at end bytes) (other_at name end bytes))
    (own_inside pool stand name at)
    (either_inside (suc at) 0 (is_known stand (text_or_empty pool name)) (annotations_at pool name at) (other_at name) (annotations_inside pool name at) (other_inside name (suc at)))

pub attributes_inside : (pool : Pool) (stand : Place) (barred : Bool) (low : ℕ) → Inside low 0 (attributes_at pool stand barred)
unfolding attributes_at attribute_at
attributes_inside pool stand barred low = counted_inside low (attribute_at pool stand barred) (λ before. attribute_inside pool stand barred before low (content_at pool stand) (content_inside pool stand))
