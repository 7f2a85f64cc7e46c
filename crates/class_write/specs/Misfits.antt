-- Which part of a class has no text, the first in file order, and why (JVMS chapter 4). A part that is named as a whole
-- is too large where a count within it is the first that fails, and else of a bad shape. The length of a content is
-- that of its text, so it is looked at behind the content.
use Rattle.std.specs.Prelude.{ℕ, zero, suc, ◌^◌, Bool, true, false, not, ◌&&◌, ◌||◌, ◌==◌, nat_lt, nat_le, List, [], length, codes, Option, Some, None, is_some, if◌then◌else◌}
use Rattle.std.specs.Str.{bytes_eq}
use Rattle.class_model.specs.declared.constant_pool.Pool.{Pool}
use Rattle.class_model.specs.declared.stack_map.StackFrame.{StackFrame}
use Rattle.class_model.specs.declared.stack_map.FrameType.{FrameType}
use Rattle.class_model.specs.declared.annotation.Element.{Element, out-Element}
use Rattle.class_model.specs.declared.annotation.Element.TheOpen.{Element-F}
use Rattle.class_model.specs.declared.annotation.Note.{Note, out-Note}
use Rattle.class_model.specs.declared.annotation.Pair.{Pair, out-Pair}
use Rattle.class_model.specs.declared.attribute_forms.Attribute.{Attribute, out-Attribute}
use Rattle.class_model.specs.declared.attribute_forms.Attribute.TheOpen.{Attribute-F}
use Rattle.class_model.specs.declared.attribute_forms.Handler.{Handler}
use Rattle.class_model.specs.declared.attribute_forms.Bootstrap.{Bootstrap}
use Rattle.class_model.specs.declared.class_file.Class.{Class}
use Rattle.class_model.specs.declared.class_file.Member.{Member}
use Rattle.class_model.specs.Layers.{AttributeLayer, ElementLayer}
use Rattle.class_model.specs.ClassNames.{is_unqualified, is_method_name}
use Rattle.class_model.specs.Descriptors.{is_field_descriptor, is_method_descriptor, is_return_descriptor}
use Rattle.class_model.specs.Constants.{constant_at, text_at, is_some_that, is_class_constant}
use Rattle.class_model.specs.Annotations.{is_value_of}
use Rattle.class_model.specs.Attributes.{Place, in_class, in_field, in_method, in_code, is_known, is_named, is_value_for, has_layout, is_loadable, is_handle, attribute_name}
use Rattle.class_model.specs.Shape.{is_plain_class, descriptor_text, are_same, most_slots, is_bare, is_code_layer, has_code, has_super}
use Rattle.class_model.specs.Spelling.{greatest_depth, content_by, no_attribute, code_attribute}
use Rattle.class_text.specs.Format.{oldest_major, newest_major, most_code}
use Rattle.const_pool.specs.Writing as pool
use Rattle.const_pool.specs.declared.write_fault.Part.{Part}
use Rattle.const_pool.specs.declared.write_fault.Part.TheVariants as parts
use Rattle.const_pool.specs.declared.write_fault.Holder.{Holder}
use Rattle.const_pool.specs.declared.write_fault.Holder.TheVariants as holders
use Rattle.const_pool.specs.declared.write_fault.AttributeId.{AttributeId}
use Rattle.const_pool.specs.declared.write_fault.AttributePart.{AttributePart}
use Rattle.const_pool.specs.declared.write_fault.AttributePart.TheVariants as items
use Rattle.const_pool.specs.declared.write_fault.MemberPart.TheVariants as member_parts
use Rattle.const_pool.specs.declared.write_fault.WriteFault.{WriteFault}
use Rattle.const_pool.specs.declared.write_fault.WriteFault.TheVariants.{TooLarge, BadShape}
use Rattle.class_write.specs.Order.{unless, ◌<|>◌, counted, told_from, is_again}

-- JVMS 4.7.4
unfoldable pub is_frame_type : Pool → FrameType → Bool
is_frame_type pool t = nat_le t.tag 8 && (
    if t.tag == 7 then is_some_that is_class_constant (constant_at pool t.index)
    else if t.tag == 8 then nat_lt t.index (2 ^ 16)
    else t.index == 0)

abbrev pub frame_type : Pool → Part → FrameType → Option WriteFault
frame_type pool part t = unless (is_frame_type pool t) (BadShape part)

abbrev pub frame_types : Pool → Part → List FrameType → Option WriteFault
frame_types pool part = counted part (λ n t. frame_type pool part t)

abbrev pub lists : Pool → Part → StackFrame → Option WriteFault
lists pool part f = frame_types pool part f.locals <|> frame_types pool part f.stack

unfoldable pub frame : Pool → Part → StackFrame → Option WriteFault
frame pool part f = unless (has_layout f) (BadShape part) <|> lists pool part f

abbrev pub at : AttributeId → AttributePart → Part
at id part = parts.Attribute id part

abbrev pub frames : Pool → AttributeId → List StackFrame → Option WriteFault
frames pool id = counted (at id items.Frames) (λ n f. frame pool (at id (items.Frame n)) f)

-- JVMS 4.7.3
abbrev pub handler : Pool → Part → Handler → Option WriteFault
handler pool part h = unless (h.catch_type == 0 || is_some_that is_class_constant (constant_at pool h.catch_type)) (BadShape part)

abbrev pub handlers : Pool → AttributeId → List Handler → Option WriteFault
handlers pool id = counted (at id items.Handlers) (λ n h. handler pool (at id (items.Handler n)) h)

-- JVMS 4.7.23
abbrev pub argument : Pool → Part → ℕ → Option WriteFault
argument pool part index = unless (is_some_that is_loadable (constant_at pool index)) (BadShape part)

abbrev pub arguments : Pool → Part → List ℕ → Option WriteFault
arguments pool part = counted part (λ n index. argument pool part index)

unfoldable pub bootstrap : Pool → Part → Bootstrap → Option WriteFault
bootstrap pool part b =
    unless (is_some_that is_handle (constant_at pool b.handle)) (BadShape part) <|> arguments pool part b.arguments

abbrev pub bootstraps : Pool → AttributeId → List Bootstrap → Option WriteFault
bootstraps pool id = counted (at id items.Bootstraps) (λ n b. bootstrap pool (at id (items.Bootstrap n)) b)

-- JVMS 4.7.16; `within` looks at the values
unfoldable pub pair_by : (Element → Option WriteFault) → Pool → Part → Pair → Option WriteFault
pair_by within pool part p = unless (is_some (text_at pool (out-Pair p).name)) (BadShape part) <|> within (out-Pair p).value

abbrev pub pairs : (Element → Option WriteFault) → Pool → Part → List Pair → Option WriteFault
pairs within pool part = counted part (λ n p. pair_by within pool part p)

unfoldable pub note_by : (Element → Option WriteFault) → Pool → Part → Note → Option WriteFault
note_by within pool part note =
    unless (is_some_that is_field_descriptor (text_at pool (out-Note note).kind)) (BadShape part) <|> pairs within pool part (out-Note note).pairs

abbrev pub enum_value : Pool → Part → ℕ → ℕ → Option WriteFault
enum_value pool part kind name =
    unless (is_some_that is_field_descriptor (text_at pool kind)) (BadShape part) <|> unless (is_some (text_at pool name)) (BadShape part)

-- a value that is a constant of a tag, or a class by a descriptor
abbrev pub constant_value : Pool → Part → ℕ → ℕ → Option WriteFault
constant_value pool part tag index = unless (is_some_that (is_value_of tag) (constant_at pool index)) (BadShape part)

abbrev pub class_value : Pool → Part → ℕ → Option WriteFault
class_value pool part class = unless (is_some_that is_return_descriptor (text_at pool class)) (BadShape part)

abbrev pub values : (Element → Option WriteFault) → Part → List Element → Option WriteFault
values within part = counted part (λ n e. within e)

abbrev pub element_by : (Element → Option WriteFault) → Pool → Part → ElementLayer → Option WriteFault
element_by within pool part (Element-F.Const tag index) = constant_value pool part tag index
element_by within pool part (Element-F.Enum kind name) = enum_value pool part kind name
element_by within pool part (Element-F.OfClass class) = class_value pool part class
element_by within pool part (Element-F.Nested note) = note_by within pool part note
element_by within pool part (Element-F.Many list) = values within part list

-- a value that may have so many levels
unfoldable pub element : Pool → Part → ℕ → Element → Option WriteFault
element pool part zero e = Some (BadShape part)
element pool part (suc depth) e = element_by (element pool part depth) pool part (out-Element e)

-- one whose own values may have so many levels
abbrev pub layer : Pool → Part → ℕ → Element → Option WriteFault
layer pool part depth e = element_by (element pool part depth) pool part (out-Element e)

abbrev pub annotation : Pool → Part → Note → Option WriteFault
annotation pool part = note_by (element pool part greatest_depth) pool part

abbrev pub annotations : Pool → AttributeId → List Note → Option WriteFault
annotations pool id = counted (at id items.Annotations) (λ n note. annotation pool (at id (items.Annotation n)) note)

-- where the attributes of a holder stand; those of a field stand beside its descriptor
abbrev pub attribute_place : Holder → List ℕ → Place
attribute_place holders.Class descriptor = in_class
attribute_place (holders.Field number) descriptor = in_field descriptor
attribute_place (holders.Method number) descriptor = in_method
attribute_place (holders.Code method) descriptor = in_code

abbrev pub code_of : Holder → Holder
code_of (holders.Method number) = holders.Code number
code_of holder = holder

abbrev pub is_class : Holder → Bool
is_class holders.Class = true
is_class _ = false

abbrev pub is_field : Holder → Bool
is_field (holders.Field number) = true
is_field _ = false

abbrev pub is_method : Holder → Bool
is_method (holders.Method number) = true
is_method _ = false

abbrev pub is_code : Holder → Bool
is_code (holders.Code method) = true
is_code _ = false

-- whether a holder has attributes of a form
abbrev pub has_form : Holder → AttributeLayer → Bool
has_form holder (Attribute-F.Code name max_stack max_locals code table inner) = is_method holder
has_form holder (Attribute-F.StackMap name frames) = is_code holder
has_form holder (Attribute-F.ConstantValue name value) = is_field holder
has_form holder (Attribute-F.Bootstrap name entries) = is_class holder
has_form holder (Attribute-F.Annotations name list) = not (is_code holder)
has_form holder (Attribute-F.Other name bytes) = true

abbrev pub is_unknown : Pool → Place → ℕ → Bool
is_unknown pool place name = is_some_that (λ text. not (is_known place text)) (text_at pool name)

-- A known form has its own name, and any other a name that isn't known in the place.
abbrev pub has_name : Pool → Place → AttributeLayer → Bool
has_name pool place (Attribute-F.Code name max_stack max_locals code table inner) = is_named pool (codes "Code") name
has_name pool place (Attribute-F.StackMap name frames) = is_named pool (codes "StackMapTable") name
has_name pool place (Attribute-F.ConstantValue name value) = is_named pool (codes "ConstantValue") name
has_name pool place (Attribute-F.Bootstrap name entries) = is_named pool (codes "BootstrapMethods") name
has_name pool place (Attribute-F.Annotations name list) = is_named pool (codes "RuntimeVisibleAnnotations") name
has_name pool place (Attribute-F.Other name bytes) = is_unknown pool place name

-- whether an attribute may stand there; a method that is `bare` has no code
unfoldable pub may_stand : Pool → Holder → List ℕ → Bool → AttributeLayer → Bool
may_stand pool holder descriptor bare layer =
    has_form holder layer && has_name pool (attribute_place holder descriptor) layer && not (bare && is_code_layer layer)

-- JVMS 4.7.2
abbrev pub value : Pool → List ℕ → AttributeId → ℕ → Option WriteFault
value pool descriptor id index = unless (is_some_that (is_value_for descriptor) (constant_at pool index)) (BadShape (at id items.Value))

-- the content of an attribute that isn't code
abbrev pub plain : Pool → List ℕ → AttributeId → AttributeLayer → Option WriteFault
plain pool descriptor id (Attribute-F.Code name max_stack max_locals code table inner) = Some (BadShape (at id items.Name))
plain pool descriptor id (Attribute-F.StackMap name list) = frames pool id list
plain pool descriptor id (Attribute-F.ConstantValue name index) = value pool descriptor id index
plain pool descriptor id (Attribute-F.Bootstrap name entries) = bootstraps pool id entries
plain pool descriptor id (Attribute-F.Annotations name list) = annotations pool id list
plain pool descriptor id (Attribute-F.Other name bytes) = None

-- The name is known in the place, and an attribute of this name stands before.
abbrev pub is_second_of_name : Pool → Place → List Attribute → ℕ → Attribute → Bool
is_second_of_name pool place list number a =
    is_again (λ b. is_known place (attribute_name pool b)) (λ b c. bytes_eq (attribute_name pool b) (attribute_name pool c)) list number a

-- whether the number of an attribute is a place for it among all of a holder
unfoldable pub has_place : Pool → Holder → List ℕ → Bool → List Attribute → ℕ → Attribute → Bool
has_place pool holder descriptor bare list number a =
    may_stand pool holder descriptor bare (out-Attribute a) && not (is_second_of_name pool (attribute_place holder descriptor) list number a)

-- the length of a content fits its field
abbrev pub length_of : AttributeId → List ℕ → Option WriteFault
length_of id content = unless (nat_lt (length content) (2 ^ 32)) (TooLarge (at id items.Length))

abbrev pub id_of : Holder → ℕ → AttributeId
id_of holder number = record { holder = holder; number = number }

-- an attribute within code, among all of them
unfoldable pub code_attribute_of : Pool → Holder → List Attribute → ℕ → Attribute → Option WriteFault
code_attribute_of pool holder list number a =
    unless (has_place pool holder [] false list number a) (BadShape (at (id_of holder number) items.Name))
    <|> plain pool [] (id_of holder number) (out-Attribute a)
    <|> length_of (id_of holder number) (content_by no_attribute (out-Attribute a))

abbrev pub code_attributes : Pool → Holder → List Attribute → Option WriteFault
code_attributes pool holder list = counted (parts.Attributes holder) (code_attribute_of pool holder list) list

-- JVMS 4.7.3
abbrev pub is_code_length : ℕ → Bool
is_code_length n = nat_lt 0 n && nat_le n most_code

abbrev pub code_length : AttributeId → ℕ → Option WriteFault
code_length id n = unless (is_code_length n) (BadShape (at id items.Code))

abbrev pub code : Pool → AttributeId → List ℕ → List Handler → List Attribute → Option WriteFault
code pool id bytes table inner =
    code_length id (length bytes) <|> handlers pool id table <|> code_attributes pool (code_of id.holder) inner

abbrev pub content : Pool → List ℕ → AttributeId → AttributeLayer → Option WriteFault
content pool descriptor id (Attribute-F.Code name max_stack max_locals bytes table inner) = code pool id bytes table inner
content pool descriptor id layer = plain pool descriptor id layer

-- an attribute of a class, a field or a method, among all of them
unfoldable pub attribute_of : Pool → Holder → List ℕ → Bool → List Attribute → ℕ → Attribute → Option WriteFault
attribute_of pool holder descriptor bare list number a =
    unless (has_place pool holder descriptor bare list number a) (BadShape (at (id_of holder number) items.Name))
    <|> content pool descriptor (id_of holder number) (out-Attribute a)
    <|> length_of (id_of holder number) (content_by code_attribute (out-Attribute a))

abbrev pub attributes : Pool → Holder → List ℕ → Bool → List Attribute → Option WriteFault
attributes pool holder descriptor bare list = counted (parts.Attributes holder) (attribute_of pool holder descriptor bare list) list

-- an earlier member has this one's name and descriptor
abbrev pub is_double : Pool → List Member → ℕ → Member → Bool
is_double pool members number m = is_again (λ m. true) (are_same pool) members number m

abbrev pub doubles : Pool → List Member → List Bool
doubles pool members = told_from (is_double pool members) 0 members

-- JVMS 4.5; no two members have one name and one descriptor
unfoldable pub field : Pool → Bool → ℕ → Member → Option WriteFault
field pool double number m =
    unless (is_some_that is_unqualified (text_at pool m.name)) (BadShape (parts.Field number member_parts.Name))
    <|> unless (is_some_that is_field_descriptor (text_at pool m.descriptor) && not double) (BadShape (parts.Field number member_parts.Descriptor))
    <|> attributes pool (holders.Field number) (descriptor_text pool m) false m.attributes

abbrev pub fields : Pool → List Member → Option WriteFault
fields pool members = counted parts.Fields (λ n m. field pool (is_double pool members n m) n m) members

-- code is there exactly where the method isn't bare
abbrev pub has_its_code : Member → Bool
has_its_code m = if is_bare m.flags then not (has_code m.attributes) else has_code m.attributes

-- JVMS 4.6
unfoldable pub method : Pool → Bool → ℕ → Member → Option WriteFault
method pool double number m =
    unless (is_some_that is_method_name (text_at pool m.name)) (BadShape (parts.Method number member_parts.Name))
    <|> unless (is_some_that (is_method_descriptor (most_slots m.flags)) (text_at pool m.descriptor) && not double)
    (BadShape (parts.Method number member_parts.Descriptor))
    <|> attributes pool (holders.Method number) [] (is_bare m.flags) m.attributes
    <|> unless (has_its_code m) (BadShape (parts.Method number member_parts.Code))

abbrev pub methods : Pool → List Member → Option WriteFault
methods pool members = counted parts.Methods (λ n m. method pool (is_double pool members n m) n m) members

-- JVMS 4.1
abbrev pub interface : Pool → ℕ → ℕ → Option WriteFault
interface pool number index = unless (is_plain_class pool index) (BadShape (parts.Interface number))

abbrev pub interfaces : Pool → List ℕ → Option WriteFault
interfaces pool = counted parts.Interfaces (λ n index. interface pool n index)

abbrev pub version : Class → Option WriteFault
version c = unless (nat_le oldest_major c.major && nat_le c.major newest_major) (BadShape parts.Major)

abbrev pub names : Class → Option WriteFault
names c = unless (is_plain_class c.pool c.this_class) (BadShape parts.ThisClass) <|> unless (has_super c) (BadShape parts.SuperClass)

-- what stands before the interfaces, and from them on
abbrev pub head : Class → Option WriteFault
head c = version c <|> pool.misfit c.pool <|> names c

abbrev pub lists_of : Class → Option WriteFault
lists_of c =
    interfaces c.pool c.interfaces <|> fields c.pool c.fields <|> methods c.pool c.methods
    <|> attributes c.pool holders.Class [] false c.attributes

unfoldable pub misfit : Class → Option WriteFault
misfit c = head c <|> lists_of c
