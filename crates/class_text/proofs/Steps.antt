-- The parts of a production after the first, each knowing those before it.
use Rattle.std.proofs.Common.{ℕ, eqb, ltb, ◌-◌, Bool, false, cond, ◌&&◌, ◌||◌, List, [], map, codes, bytes_eq, Ok, Err}
use Rattle.std.specs.Str.{byte}
use Rattle.class_model.specs.declared.constant_pool.Pool.{Pool}
use Rattle.class_model.specs.declared.class_file.Class.{Class}
use Rattle.class_model.specs.declared.class_file.Member.{Member}
use Rattle.class_model.specs.declared.stack_map.StackFrame.{StackFrame}
use Rattle.class_model.specs.declared.stack_map.FrameType.{FrameType}
use Rattle.class_model.specs.declared.annotation.Element.{Element, roll-Element}
use Rattle.class_model.specs.declared.annotation.Element.TheOpen.{Element-F}
use Rattle.class_model.specs.declared.attribute_forms.Attribute.{Attribute, roll-Attribute}
use Rattle.class_model.specs.declared.attribute_forms.Attribute.TheOpen.{Attribute-F}
use Rattle.class_model.specs.declared.attribute_forms.Handler.{Handler}
use Rattle.class_model.specs.Attributes.{Place, in_class, in_field, in_method, is_known, attribute_name}
use Rattle.class_model.specs.Shape.{is_plain_class, has_code}
use Rattle.class_text.specs.Reading.{bad_tag, bad_attribute, barred_code, second_attribute, code_missing}
use Rattle.class_text.specs.Readers.{Reader, u2_at, index_at, counted_at, counted_after}
use Rattle.class_text.specs.Frames.{leads_to_class, frame_type_of, frame_of, with_item_at, with_locals_at, full_at, behind_delta_at}
use Rattle.class_text.specs.Elements.{leads_to_result, leads_to_value_of, note_by, enum_at}
use Rattle.class_text.specs.Attributes.{text_or_empty, is_first, leads_to_caught, handler_at, code_bytes_at, code_attributes_at, attributes_at}
use Rattle.class_text.specs.Classes.{leads_to_field_name, leads_to_method_name, leads_to_field_type, leads_to_method_type, is_barred, field_at, method_at, leads_to_super}
use Rattle.class_text.proofs.Readers.{bind}

-- ---- a type of a frame, behind its tag

abbrev pub class_type : Pool → ℕ → Reader FrameType
class_type pool tag = bind (index_at (leads_to_class pool)) (λ n end bytes. Ok (frame_type_of tag n, bytes))

abbrev pub new_type : ℕ → Reader FrameType
new_type tag = bind u2_at (λ n end bytes. Ok (frame_type_of tag n, bytes))

-- ---- a frame, behind its tag or its delta

abbrev pub not_chop : Pool → ℕ → ℕ → Reader StackFrame
not_chop pool tag delta end bytes = cond (ltb tag 255) (with_locals_at pool tag delta (tag - 251) end bytes) (full_at pool tag delta end bytes)

abbrev pub not_far_item : Pool → ℕ → ℕ → Reader StackFrame
not_far_item pool tag delta end bytes = cond (ltb tag 252) (Ok (frame_of tag delta [] [], bytes)) (not_chop pool tag delta end bytes)

abbrev pub not_item : Pool → ℕ → ℕ → Reader StackFrame
not_item pool at tag end bytes = cond (ltb tag 247) (Err (bad_tag at tag)) (bind u2_at (behind_delta_at pool tag) end bytes)

abbrev pub not_same : Pool → ℕ → ℕ → Reader StackFrame
not_same pool at tag end bytes = cond (ltb tag 128) (with_item_at pool tag (tag - 64) end bytes) (not_item pool at tag end bytes)

-- ---- a value of an annotation, behind its tag

abbrev pub constant_value : Pool → ℕ → Reader Element
constant_value pool tag = bind (index_at (leads_to_value_of pool tag)) (λ n end bytes. Ok (roll-Element (Element-F.Const tag n), bytes))

abbrev pub class_value : Pool → Reader Element
class_value pool = bind (index_at (leads_to_result pool)) (λ n end bytes. Ok (roll-Element (Element-F.OfClass n), bytes))

abbrev pub note_value : Pool → Reader Element → Reader Element
note_value pool value = bind (note_by value pool) (λ n end bytes. Ok (roll-Element (Element-F.Nested n), bytes))

abbrev pub array_value : Reader Element → Reader Element
array_value value = bind (counted_at value) (λ vs end bytes. Ok (roll-Element (Element-F.Many vs), bytes))

module _ (pool : Pool) (value : Reader Element) (at tag : ℕ) where
  abbrev pub not_note : Reader Element
  not_note end bytes = cond (eqb tag (byte "[")) (array_value value end bytes) (Err (bad_tag at tag))

  abbrev pub not_class : Reader Element
  not_class end bytes = cond (eqb tag (byte "@")) (note_value pool value end bytes) (not_note end bytes)

  abbrev pub not_enum : Reader Element
  not_enum end bytes = cond (eqb tag (byte "c")) (class_value pool end bytes) (not_class end bytes)

  abbrev pub not_constant : Reader Element
  not_constant end bytes = cond (eqb tag (byte "e")) (enum_at pool end bytes) (not_enum end bytes)

-- ---- an attribute behind its name

abbrev pub judged : Pool → Place → Bool → List Attribute → ℕ → ℕ → Reader ℕ
judged pool stand barred before at n end bytes =
    cond (is_first (is_known stand) bytes_eq (map (attribute_name pool) before) (text_or_empty pool n))
    (cond (barred && bytes_eq (codes "Code") (text_or_empty pool n)) (Err (bad_attribute at barred_code)) (Ok (n, bytes)))
    (Err (second_attribute at))

-- ---- a handler

abbrev pub handler_of : ℕ → ℕ → ℕ → ℕ → Handler
handler_of start stop handler caught = record { start = start; end = stop; handler = handler; catch_type = caught }

abbrev pub handler_caught : Pool → ℕ → ℕ → ℕ → Reader Handler
handler_caught pool start stop handler = bind (index_at (leads_to_caught pool)) (λ caught end bytes. Ok (handler_of start stop handler caught, bytes))

abbrev pub handler_start : Pool → ℕ → ℕ → Reader Handler
handler_start pool start stop = bind u2_at (handler_caught pool start stop)

abbrev pub handler_stop : Pool → ℕ → Reader Handler
handler_stop pool start = bind u2_at (handler_start pool start)

-- ---- code

module _ (pool : Pool) (name at : ℕ) where
  abbrev pub code_made : ℕ → ℕ → List ℕ → List Handler → List Attribute → Attribute
  code_made stack locals code table inner = roll-Attribute (Attribute-F.Code name stack locals code table inner)

  abbrev pub code_inner : ℕ → ℕ → List ℕ → List Handler → Reader Attribute
  code_inner stack locals code table = bind (code_attributes_at pool) (λ inner end bytes. Ok (code_made stack locals code table inner, bytes))

  abbrev pub code_table : ℕ → ℕ → List ℕ → Reader Attribute
  code_table stack locals code = bind (counted_at (handler_at pool)) (code_inner stack locals code)

  abbrev pub code_run : ℕ → ℕ → Reader Attribute
  code_run stack locals = bind (code_bytes_at at) (code_table stack locals)

  abbrev pub code_locals : ℕ → Reader Attribute
  code_locals stack = bind u2_at (code_run stack)

-- ---- members

abbrev pub member_of : ℕ → ℕ → ℕ → List Attribute → Member
member_of flags name descriptor attributes = record { flags = flags; name = name; descriptor = descriptor; attributes = attributes }

module _ (pool : Pool) (before : List Member) where
  abbrev pub field_attributes : ℕ → ℕ → ℕ → Reader Member
  field_attributes flags name descriptor = bind (attributes_at pool (in_field (text_or_empty pool descriptor)) false) (λ found end bytes. Ok (member_of flags name descriptor found, bytes))

  abbrev pub field_type : ℕ → ℕ → Reader Member
  field_type flags name = bind (index_at (leads_to_field_type pool before name)) (field_attributes flags name)

  abbrev pub field_name : ℕ → Reader Member
  field_name flags = bind (index_at (leads_to_field_name pool)) (field_type flags)

  -- a method, which begins at a place
  abbrev pub method_code : ℕ → ℕ → ℕ → ℕ → List Attribute → Reader Member
  method_code at flags name descriptor found end bytes = cond (is_barred flags || has_code found) (Ok (member_of flags name descriptor found, bytes)) (Err (code_missing at))

  abbrev pub method_attributes : ℕ → ℕ → ℕ → ℕ → Reader Member
  method_attributes at flags name descriptor = bind (attributes_at pool in_method (is_barred flags)) (method_code at flags name descriptor)

  abbrev pub method_type : ℕ → ℕ → ℕ → Reader Member
  method_type at flags name = bind (index_at (leads_to_method_type pool before flags name)) (method_attributes at flags name)

  abbrev pub method_name : ℕ → ℕ → Reader Member
  method_name at flags = bind (index_at (leads_to_method_name pool)) (method_type at flags)

-- ---- what stands behind the pool

module _ (minor major : ℕ) (pool : Pool) where
  abbrev pub class_made : ℕ → ℕ → ℕ → List ℕ → List Member → List Member → List Attribute → Class
  class_made flags this above interfaces fields methods attributes =
      record { minor = minor; major = major; pool = pool; flags = flags; this_class = this; super_class = above; interfaces = interfaces; fields = fields; methods = methods; attributes = attributes }

  abbrev pub class_attributes : ℕ → ℕ → ℕ → List ℕ → List Member → List Member → Reader Class
  class_attributes flags this above interfaces fields methods = bind (attributes_at pool in_class false) (λ found end bytes. Ok (class_made flags this above interfaces fields methods found, bytes))

  abbrev pub class_methods : ℕ → ℕ → ℕ → List ℕ → List Member → Reader Class
  class_methods flags this above interfaces fields = bind (counted_after (method_at pool)) (class_attributes flags this above interfaces fields)

  abbrev pub class_fields : ℕ → ℕ → ℕ → List ℕ → Reader Class
  class_fields flags this above interfaces = bind (counted_after (field_at pool)) (class_methods flags this above interfaces)

  abbrev pub class_interfaces : ℕ → ℕ → ℕ → Reader Class
  class_interfaces flags this above = bind (counted_at (index_at (is_plain_class pool))) (class_fields flags this above)

  abbrev pub class_super : ℕ → ℕ → Reader Class
  class_super flags this = bind (index_at (leads_to_super pool this)) (class_interfaces flags this)

  abbrev pub class_this : ℕ → Reader Class
  class_this flags = bind (index_at (is_plain_class pool)) (class_super flags)
