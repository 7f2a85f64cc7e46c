-- Which annotations have a text (JVMS 4.7.16).
use Rattle.std.specs.Prelude.{ℕ, zero, suc, ◌^◌, ◌<◌, Bool, false, ◌==◌, List, length, codes, is_some, IsTrue}
use Rattle.std.specs.List.{list_any, AllByRecursion}
use Rattle.std.specs.Str.{byte}
use Rattle.class_model.specs.declared.constant_pool.Constant.{Constant}
use Rattle.class_model.specs.declared.constant_pool.Constant.TheVariants.{Utf8, Integer, Float, Long, Double}
use Rattle.class_model.specs.declared.constant_pool.Pool.{Pool}
use Rattle.class_model.specs.declared.annotation.Element.{Element, out-Element}
use Rattle.class_model.specs.declared.annotation.Element.TheOpen.{Element-F}
use Rattle.class_model.specs.declared.annotation.Note.{Note, out-Note}
use Rattle.class_model.specs.declared.annotation.Pair.{Pair, out-Pair}
use Rattle.class_model.specs.Layers.{ElementLayer}
use Rattle.class_model.specs.Descriptors.{is_field_descriptor, is_return_descriptor}
use Rattle.class_model.specs.Constants.{constant_at, text_at, is_some_that}
use Rattle.class_model.specs.Spelling.{greatest_depth}

-- a list of items whose count fits its field
abbrev pub IsCounted : {A : Type 0} → (A → Type 0) → List A → Type 0
IsCounted P items = (length items < 2 ^ 16) × AllByRecursion P items

-- the constant that a value of a tag is (JVMS 4.7.16.1)
abbrev pub is_value_of : ℕ → Constant → Bool
is_value_of tag (Integer n) = list_any (λ b. b == tag) (codes "BCISZ")
is_value_of tag (Float n) = tag == byte "F"
is_value_of tag (Long n) = tag == byte "J"
is_value_of tag (Double n) = tag == byte "D"
is_value_of tag (Utf8 bytes) = tag == byte "s"
is_value_of tag _ = false

-- `Within` says it of the values in a pair or an array
pub record IsPairBy (Within : Element → Type 0) (pool : Pool) (p : Pair) : Type 0 where
  pub name : IsTrue (is_some (text_at pool (out-Pair p).name))
  pub value : Within (out-Pair p).value

pub record IsNoteBy (Within : Element → Type 0) (pool : Pool) (note : Note) : Type 0 where
  pub kind : IsTrue (is_some_that is_field_descriptor (text_at pool (out-Note note).kind))
  pub pairs : IsCounted (IsPairBy Within pool) (out-Note note).pairs

abbrev pub IsElementBy : (Element → Type 0) → Pool → ElementLayer → Type 0
IsElementBy Within pool (Element-F.Const tag index) = IsTrue (is_some_that (is_value_of tag) (constant_at pool index))
IsElementBy Within pool (Element-F.Enum kind name) =
    IsTrue (is_some_that is_field_descriptor (text_at pool kind)) × IsTrue (is_some (text_at pool name))
IsElementBy Within pool (Element-F.OfClass class) = IsTrue (is_some_that is_return_descriptor (text_at pool class))
IsElementBy Within pool (Element-F.Nested note) = IsNoteBy Within pool note
IsElementBy Within pool (Element-F.Many values) = IsCounted Within values

-- a value of at most this depth: an outermost value has depth 1, an array and an annotation add 1
unfoldable pub IsElement : Pool → ℕ → Element → Type 0
IsElement pool zero e = ⊥
IsElement pool (suc depth) e = IsElementBy (IsElement pool depth) pool (out-Element e)

abbrev pub IsAnnotation : Pool → Note → Type 0
IsAnnotation pool = IsNoteBy (IsElement pool greatest_depth) pool
