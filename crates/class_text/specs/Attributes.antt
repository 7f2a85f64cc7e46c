-- Reading attributes (JVMS 4.7).
use Rattle.std.specs.Prelude.{ℕ, Bool, false, not, ◌&&◌, ◌||◌, ◌==◌, nat_lt, nat_le, List, [], map, bytes_eq, unwrap_or, Ok, Err, if◌then◌else◌}
use Rattle.std.specs.List.{list_any}
use Rattle.class_model.specs.declared.constant_pool.Pool.{Pool}
use Rattle.class_model.specs.declared.attribute_forms.Attribute.{Attribute, roll-Attribute}
use Rattle.class_model.specs.declared.attribute_forms.Attribute.TheOpen.{Attribute-F}
use Rattle.class_model.specs.declared.attribute_forms.Handler.{Handler}
use Rattle.class_model.specs.declared.attribute_forms.Bootstrap.{Bootstrap}
use Rattle.class_model.specs.Constants.{constant_at, text_at, is_some_that}
use Rattle.class_model.specs.Attributes.{Place, in_class, in_field, in_method, in_code, is_known, is_value_for, is_loadable, is_handle, attribute_name}
use Rattle.class_text.specs.Format.{bootstrap_methods_name, constant_value_name, code_name, stack_map_table_name, most_code}
use Rattle.class_text.specs.Reading.{bad_attribute, bad_length, barred_code, second_attribute, ◌>>=◌, place}
use Rattle.class_text.specs.Readers.{Reader, u2_at, u4_at, index_at, counted_at, counted_after, run_at, within}
use Rattle.class_text.specs.Frames.{leads_to_class, frame_at}
use Rattle.class_text.specs.Elements.{leads_to_text, note_at}

-- the text of a number, and nothing where it has none
abbrev pub text_or_empty : Pool → ℕ → List ℕ
text_or_empty pool n = unwrap_or (text_at pool n) []

-- none of the items before is one that counts and is the same
unfoldable pub is_first : {A : Type 0} → (A → Bool) → (A → A → Bool) → List A → A → Bool
is_first counts same before item = not (list_any (λ earlier. counts earlier && same earlier item) before)

-- the number of a class to be caught, or 0
unfoldable pub leads_to_caught : Pool → ℕ → Bool
leads_to_caught pool n = n == 0 || leads_to_class pool n

unfoldable pub handler_at : Pool → Reader Handler
handler_at pool end bytes =
    u2_at end bytes
    >>= (λ start. u2_at end start.1
    >>= (λ stop. u2_at end stop.1
    >>= (λ handler. index_at (leads_to_caught pool) end handler.1
    >>= (λ caught. Ok (record { start = start.0; end = stop.0; handler = handler.0; catch_type = caught.0 }, caught.1)))))

unfoldable pub leads_to_handle : Pool → ℕ → Bool
leads_to_handle pool n = is_some_that is_handle (constant_at pool n)

unfoldable pub leads_to_loadable : Pool → ℕ → Bool
leads_to_loadable pool n = is_some_that is_loadable (constant_at pool n)

unfoldable pub bootstrap_at : Pool → Reader Bootstrap
bootstrap_at pool end bytes =
    index_at (leads_to_handle pool) end bytes
    >>= (λ handle. counted_at (index_at (leads_to_loadable pool)) end handle.1
    >>= (λ arguments. Ok (record { handle = handle.0; arguments = arguments.0 }, arguments.1)))

-- ---- the content of an attribute of a name

-- bytes that are not looked at
unfoldable pub other_at : ℕ → Reader Attribute
other_at name end bytes = Ok (roll-Attribute (Attribute-F.Other name bytes), [])

unfoldable pub stack_map_at : Pool → ℕ → Reader Attribute
stack_map_at pool name end bytes =
    counted_at (frame_at pool) end bytes >>= (λ frames. Ok (roll-Attribute (Attribute-F.StackMap name frames.0), frames.1))

-- the number of a constant that a field of a descriptor can have as its value
unfoldable pub leads_to_value_for : Pool → List ℕ → ℕ → Bool
leads_to_value_for pool descriptor n = is_some_that (is_value_for descriptor) (constant_at pool n)

unfoldable pub constant_value_at : Pool → List ℕ → ℕ → Reader Attribute
constant_value_at pool descriptor name end bytes =
    index_at (leads_to_value_for pool descriptor) end bytes
    >>= (λ value. Ok (roll-Attribute (Attribute-F.ConstantValue name value.0), value.1))

unfoldable pub bootstraps_at : Pool → ℕ → Reader Attribute
bootstraps_at pool name end bytes =
    counted_at (bootstrap_at pool) end bytes
    >>= (λ entries. Ok (roll-Attribute (Attribute-F.Bootstrap name entries.0), entries.1))

-- the annotations of the attribute at a place
unfoldable pub annotations_at : Pool → ℕ → ℕ → Reader Attribute
annotations_at pool name at end bytes =
    counted_at (note_at at pool) end bytes >>= (λ list. Ok (roll-Attribute (Attribute-F.Annotations name list.0), list.1))

-- the content of an attribute of code
unfoldable pub code_content_at : Pool → ℕ → ℕ → Reader Attribute
code_content_at pool name at end bytes =
    if bytes_eq stack_map_table_name (text_or_empty pool name) then stack_map_at pool name end bytes
    else other_at name end bytes

-- ---- an attribute

-- The name of an attribute. It may be a known one only where none of this name stands before it, and that of code only
-- where code isn't barred.
unfoldable pub named_at : Pool → Place → Bool → List Attribute → Reader ℕ
named_at pool stand barred before end bytes =
    index_at (leads_to_text pool) end bytes
    >>= (λ name.
    if is_first (is_known stand) bytes_eq (map (attribute_name pool) before) (text_or_empty pool name.0) then
    if barred && bytes_eq code_name (text_or_empty pool name.0) then Err (bad_attribute (place end bytes) barred_code) else Ok name
    else Err (second_attribute (place end bytes)))

-- an attribute, whose content is read by its name and the place where the attribute stands
unfoldable pub attribute_by : (ℕ → ℕ → Reader Attribute) → Pool → Place → Bool → List Attribute → Reader Attribute
attribute_by content pool stand barred before end bytes =
    named_at pool stand barred before end bytes
    >>= (λ name. u4_at end name.1
    >>= (λ len. within (place end bytes) len.0 (content name.0 (place end bytes)) end len.1))

-- the attributes of code
unfoldable pub code_attribute_at : Pool → List Attribute → Reader Attribute
code_attribute_at pool = attribute_by (code_content_at pool) pool in_code false

unfoldable pub code_attributes_at : Pool → Reader (List Attribute)
code_attributes_at pool = counted_after (code_attribute_at pool)

-- the bytes of code behind their length, of the attribute at a place
unfoldable pub code_bytes_at : ℕ → Reader (List ℕ)
code_bytes_at at end bytes =
    u4_at end bytes
    >>= (λ len. if nat_lt 0 len.0 && nat_le len.0 most_code then run_at len.0 end len.1
    else Err (bad_attribute at (bad_length len.0)))

-- JVMS 4.7.3
unfoldable pub code_at : Pool → ℕ → ℕ → Reader Attribute
code_at pool name at end bytes =
    u2_at end bytes
    >>= (λ stack. u2_at end stack.1
    >>= (λ locals. code_bytes_at at end locals.1
    >>= (λ code. counted_at (handler_at pool) end code.1
    >>= (λ table. code_attributes_at pool end table.1
    >>= (λ inner. Ok (roll-Attribute (Attribute-F.Code name stack.0 locals.0 code.0 table.0 inner.0), inner.1))))))

-- The name that is known in a place alone, and the content under it.
abbrev pub own_name : Place → List ℕ
own_name in_class = bootstrap_methods_name
own_name (in_field descriptor) = constant_value_name
own_name in_method = code_name
own_name in_code = stack_map_table_name

abbrev pub own_content_at : Pool → Place → ℕ → ℕ → Reader Attribute
own_content_at pool in_class name at = bootstraps_at pool name
own_content_at pool (in_field descriptor) name at = constant_value_at pool descriptor name
own_content_at pool in_method name at = code_at pool name at
own_content_at pool in_code name at = stack_map_at pool name

-- The content of an attribute of a class, a field or a method. A known name that isn't the place's own is that of
-- annotations.
unfoldable pub content_at : Pool → Place → ℕ → ℕ → Reader Attribute
content_at pool stand name at end bytes =
    if bytes_eq (own_name stand) (text_or_empty pool name) then own_content_at pool stand name at end bytes
    else if is_known stand (text_or_empty pool name) then annotations_at pool name at end bytes
    else other_at name end bytes

unfoldable pub attribute_at : Pool → Place → Bool → List Attribute → Reader Attribute
attribute_at pool stand = attribute_by (content_at pool stand) pool stand

unfoldable pub attributes_at : Pool → Place → Bool → Reader (List Attribute)
attributes_at pool stand barred = counted_after (attribute_at pool stand barred)
