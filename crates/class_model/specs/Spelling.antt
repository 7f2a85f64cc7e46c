-- How each part of a class file is spelled (JVMS chapter 4). Numbers are big-endian.
use Rattle.std.specs.Prelude.{ℕ, zero, suc, ◌+◌, nat_lt, List, [], ◌∷◌, ◌++◌, length, flat_map, if◌then◌else◌}
use Rattle.std.specs.Int.{to_be_bytes, w16, w32, w64}
use Rattle.std.specs.Str.{byte}
use Rattle.class_model.specs.declared.constant_pool.Constant.{Constant}
use Rattle.class_model.specs.declared.constant_pool.Constant.TheVariants as constants
use Rattle.class_model.specs.declared.constant_pool.Pool.{Pool}
use Rattle.class_model.specs.declared.stack_map.StackFrame.{StackFrame}
use Rattle.class_model.specs.declared.stack_map.FrameType.{FrameType}
use Rattle.class_model.specs.declared.attribute_forms.Attribute.{Attribute, out-Attribute}
use Rattle.class_model.specs.declared.attribute_forms.Attribute.TheOpen.{Attribute-F}
use Rattle.class_model.specs.declared.attribute_forms.Handler.{Handler}
use Rattle.class_model.specs.declared.attribute_forms.Bootstrap.{Bootstrap}
use Rattle.class_model.specs.declared.annotation.Element.{Element, out-Element}
use Rattle.class_model.specs.declared.annotation.Element.TheOpen.{Element-F}
use Rattle.class_model.specs.declared.annotation.Note.{Note, out-Note}
use Rattle.class_model.specs.declared.annotation.Pair.{Pair, out-Pair}
use Rattle.class_model.specs.declared.class_file.Class.{Class}
use Rattle.class_model.specs.declared.class_file.Member.{Member}
use Rattle.class_model.specs.Layers.{AttributeLayer, ElementLayer}

abbrev pub u1 : ℕ → List ℕ
u1 n = n ∷ []

abbrev pub u2 : ℕ → List ℕ
u2 n = to_be_bytes w16 n

abbrev pub u4 : ℕ → List ℕ
u4 n = to_be_bytes w32 n

abbrev pub u8 : ℕ → List ℕ
u8 n = to_be_bytes w64 n

-- a count, and so many items
abbrev pub counted : {A : Type 0} → (A → List ℕ) → List A → List ℕ
counted spell items = u2 (length items) ++ flat_map spell items

-- a tag and what stands behind it (JVMS 4.4); a Second has no text
unfoldable pub constant : Constant → List ℕ
constant (constants.Utf8 bytes) = u1 1 ++ u2 (length bytes) ++ bytes
constant (constants.Integer n) = u1 3 ++ u4 n
constant (constants.Float n) = u1 4 ++ u4 n
constant (constants.Long n) = u1 5 ++ u8 n
constant (constants.Double n) = u1 6 ++ u8 n
constant (constants.Class name) = u1 7 ++ u2 name
constant (constants.Text text) = u1 8 ++ u2 text
constant (constants.Ref tag class name_type) = u1 tag ++ u2 class ++ u2 name_type
constant (constants.NameType name descriptor) = u1 12 ++ u2 name ++ u2 descriptor
constant (constants.Handle kind reference) = u1 15 ++ u1 kind ++ u2 reference
constant (constants.MethodType descriptor) = u1 16 ++ u2 descriptor
constant (constants.InvokeDynamic bootstrap name_type) = u1 18 ++ u2 bootstrap ++ u2 name_type
constant constants.Second = []

-- the count is one more than there are numbers
unfoldable pub pool : Pool → List ℕ
pool p = u2 (length p.constants + 1) ++ flat_map constant p.constants

-- JVMS 4.7.4: a type with an index where its tag has one
unfoldable pub frame_type : FrameType → List ℕ
frame_type t = if nat_lt t.tag 7 then u1 t.tag else u1 t.tag ++ u2 t.index

-- A tag below 128 has the delta within it. A full frame counts its types, all others have as many as their tag says.
unfoldable pub frame : StackFrame → List ℕ
frame f =
    if nat_lt f.tag 128 then u1 f.tag ++ flat_map frame_type f.stack
    else if nat_lt f.tag 255 then u1 f.tag ++ u2 f.delta ++ flat_map frame_type f.locals ++ flat_map frame_type f.stack
    else u1 f.tag ++ u2 f.delta ++ counted frame_type f.locals ++ counted frame_type f.stack

unfoldable pub handler : Handler → List ℕ
handler h = u2 h.start ++ u2 h.end ++ u2 h.handler ++ u2 h.catch_type

unfoldable pub bootstrap : Bootstrap → List ℕ
bootstrap b = u2 b.handle ++ counted u2 b.arguments

-- JVMS 4.7.16; `value` spells the values
unfoldable pub pair_by : (Element → List ℕ) → Pair → List ℕ
pair_by value p = u2 (out-Pair p).name ++ value (out-Pair p).value

unfoldable pub note_by : (Element → List ℕ) → Note → List ℕ
note_by value note = u2 (out-Note note).kind ++ counted (pair_by value) (out-Note note).pairs

abbrev pub element_by : (Element → List ℕ) → ElementLayer → List ℕ
element_by value (Element-F.Const tag index) = u1 tag ++ u2 index
element_by value (Element-F.Enum kind name) = u1 (byte "e") ++ u2 kind ++ u2 name
element_by value (Element-F.OfClass class) = u1 (byte "c") ++ u2 class
element_by value (Element-F.Nested note) = u1 (byte "@") ++ note_by value note
element_by value (Element-F.Many values) = u1 (byte "[") ++ counted value values

-- a value of at most a depth
unfoldable pub element : ℕ → Element → List ℕ
element zero e = []
element (suc depth) e = element_by (element depth) (out-Element e)

-- the values of annotations are at most so deep
abbrev pub greatest_depth : ℕ
greatest_depth = 64

-- the content of an attribute; `inner` spells the attributes within it
unfoldable pub content_by : (Attribute → List ℕ) → AttributeLayer → List ℕ
content_by inner (Attribute-F.Code name max_stack max_locals code table all) =
    u2 max_stack ++ u2 max_locals ++ u4 (length code) ++ code ++ counted handler table ++ counted inner all
content_by inner (Attribute-F.StackMap name frames) = counted frame frames
content_by inner (Attribute-F.ConstantValue name value) = u2 value
content_by inner (Attribute-F.Bootstrap name entries) = counted bootstrap entries
content_by inner (Attribute-F.Annotations name list) = counted (note_by (element greatest_depth)) list
content_by inner (Attribute-F.Other name bytes) = bytes

abbrev pub name_of : AttributeLayer → ℕ
name_of (Attribute-F.Code name max_stack max_locals code table all) = name
name_of (Attribute-F.StackMap name frames) = name
name_of (Attribute-F.ConstantValue name value) = name
name_of (Attribute-F.Bootstrap name entries) = name
name_of (Attribute-F.Annotations name list) = name
name_of (Attribute-F.Other name bytes) = name

-- JVMS 4.7: the name, the length of the content, and the content
abbrev pub framed : ℕ → List ℕ → List ℕ
framed name content = u2 name ++ u4 (length content) ++ content

-- an attribute of code, which has no code within it
abbrev pub no_attribute : Attribute → List ℕ
no_attribute a = []

unfoldable pub code_attribute : Attribute → List ℕ
code_attribute a = framed (name_of (out-Attribute a)) (content_by no_attribute (out-Attribute a))

-- the content of an attribute of a class, a field or a method
abbrev pub content : Attribute → List ℕ
content a = content_by code_attribute (out-Attribute a)

unfoldable pub attribute : Attribute → List ℕ
attribute a = framed (name_of (out-Attribute a)) (content a)

-- JVMS 4.5 and 4.6
unfoldable pub member : Member → List ℕ
member m = u2 m.flags ++ u2 m.name ++ u2 m.descriptor ++ counted attribute m.attributes

abbrev pub magic : ℕ
magic = 0xcafe_babe

-- JVMS 4.1
unfoldable pub class : Class → List ℕ
class c =
    u4 magic ++ u2 c.minor ++ u2 c.major ++ pool c.pool ++ u2 c.flags ++ u2 c.this_class ++ u2 c.super_class
    ++ counted u2 c.interfaces ++ counted member c.fields ++ counted member c.methods ++ counted attribute c.attributes
