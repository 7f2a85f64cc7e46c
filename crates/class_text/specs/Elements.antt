-- Reading annotations (JVMS 4.7.16).
use Rattle.std.specs.Prelude.{ℕ, zero, suc, Bool, ◌==◌, codes, is_some, Ok, Err, if◌then◌else◌}
use Rattle.std.specs.List.{list_any}
use Rattle.std.specs.Str.{byte}
use Rattle.class_model.specs.declared.constant_pool.Pool.{Pool}
use Rattle.class_model.specs.declared.annotation.Element.{Element, roll-Element}
use Rattle.class_model.specs.declared.annotation.Element.TheOpen.{Element-F}
use Rattle.class_model.specs.declared.annotation.Note.{Note, roll-Note}
use Rattle.class_model.specs.declared.annotation.Pair.{Pair, roll-Pair}
use Rattle.class_model.specs.Constants.{constant_at, text_at, is_some_that}
use Rattle.class_model.specs.Descriptors.{is_field_descriptor, is_return_descriptor}
use Rattle.class_model.specs.Annotations.{is_value_of}
use Rattle.class_model.specs.Spelling.{greatest_depth}
use Rattle.class_text.specs.Reading.{bad_tag, bad_attribute, too_deep, ◌>>=◌, place}
use Rattle.class_text.specs.Readers.{Reader, u1_at, index_at, counted_at}

-- the number of a text, of a type and of a type or `V`
unfoldable pub leads_to_text : Pool → ℕ → Bool
leads_to_text pool n = is_some (text_at pool n)

unfoldable pub leads_to_type : Pool → ℕ → Bool
leads_to_type pool n = is_some_that is_field_descriptor (text_at pool n)

unfoldable pub leads_to_result : Pool → ℕ → Bool
leads_to_result pool n = is_some_that is_return_descriptor (text_at pool n)

-- the number of a constant that a value of a tag is
unfoldable pub leads_to_value_of : Pool → ℕ → ℕ → Bool
leads_to_value_of pool tag n = is_some_that (is_value_of tag) (constant_at pool n)

abbrev pub is_constant_tag : ℕ → Bool
is_constant_tag tag = list_any (λ b. b == tag) (codes "BCDFIJSZs")

-- `value` reads the values in a pair
unfoldable pub pair_by : Reader Element → Pool → Reader Pair
pair_by value pool end bytes =
    index_at (leads_to_text pool) end bytes
    >>= (λ name. value end name.1
    >>= (λ found. Ok (roll-Pair (record { name = name.0; value = found.0 }), found.1)))

unfoldable pub note_by : Reader Element → Pool → Reader Note
note_by value pool end bytes =
    index_at (leads_to_type pool) end bytes
    >>= (λ kind. counted_at (pair_by value pool) end kind.1
    >>= (λ pairs. Ok (roll-Note (record { kind = kind.0; pairs = pairs.0 }), pairs.1)))

unfoldable pub enum_at : Pool → Reader Element
enum_at pool end bytes =
    index_at (leads_to_type pool) end bytes
    >>= (λ kind. index_at (leads_to_text pool) end kind.1
    >>= (λ name. Ok (roll-Element (Element-F.Enum kind.0 name.0), name.1)))

-- what stands behind the tag of a value; the tag's own place names it where it is none
unfoldable pub tagged_by : Reader Element → Pool → ℕ → ℕ → Reader Element
tagged_by value pool at tag end bytes =
    if is_constant_tag tag then index_at (leads_to_value_of pool tag) end bytes >>= (λ n. Ok (roll-Element (Element-F.Const tag n.0), n.1))
    else if tag == byte "e" then enum_at pool end bytes
    else if tag == byte "c" then index_at (leads_to_result pool) end bytes >>= (λ n. Ok (roll-Element (Element-F.OfClass n.0), n.1))
    else if tag == byte "@" then note_by value pool end bytes >>= (λ note. Ok (roll-Element (Element-F.Nested note.0), note.1))
    else if tag == byte "[" then counted_at value end bytes >>= (λ values. Ok (roll-Element (Element-F.Many values.0), values.1))
    else Err (bad_tag at tag)

-- A value that may be so deep, in the attribute at a place; it is bad where a value is deeper.
unfoldable pub element_at : ℕ → Pool → ℕ → Reader Element
element_at at pool zero end bytes = Err (bad_attribute at too_deep)
element_at at pool (suc depth) end bytes =
    u1_at end bytes >>= (λ tag. tagged_by (element_at at pool depth) pool (place end bytes) tag.0 end tag.1)

unfoldable pub note_at : ℕ → Pool → Reader Note
note_at at pool = note_by (element_at at pool greatest_depth) pool
