-- What a fault says of the bytes at its place.
use Rattle.std.specs.Prelude.{◌≡◌, ◌≢◌, ◌⊎◌, ◌+◌, ◌^◌, ◌<◌, ◌≤◌, ◌++◌, ◌∷◌, [], ℕ, Bool, true, false, List, length, take, drop, map, bytes_eq, flat_map, Ok}
use Rattle.std.specs.Int.{w16, w32, to_be_bytes}
use Rattle.class_model.specs.declared.constant_pool.Pool.{Pool}
use Rattle.class_model.specs.declared.class_file.Class.{Class}
use Rattle.class_model.specs.declared.class_file.Member.{Member}
use Rattle.class_model.specs.declared.attribute_forms.Attribute.{Attribute}
use Rattle.class_model.specs.Attributes.{Place, is_known, attribute_name}
use Rattle.class_model.specs.ModifiedUtf8.{IsModifiedUtf8}
use Rattle.class_model.specs.Shape.{is_plain_class, has_code}
use Rattle.class_model.specs.Spelling as spelling
use Rattle.class_text.specs.Format.{oldest_major, newest_major, most_code, code_name, visible_annotations_name}
use Rattle.class_text.specs.Reading.{Badness, cut_within, goes_on, bad_length, too_deep, barred_code, Fault, cut_short, bad_tag, bad_text, bad_index, astray, bad_magic, bad_major, bad_attribute, second_attribute, code_missing, bytes_left, place}
use Rattle.class_text.specs.Pool.{pool_at, is_tag, is_wide, IsWrongAt}
use Rattle.class_text.specs.Frames.{leads_to_class}
use Rattle.class_text.specs.Elements.{leads_to_text, leads_to_type, leads_to_result, leads_to_value_of}
use Rattle.class_text.specs.Attributes.{text_or_empty, is_first, leads_to_caught, leads_to_handle, leads_to_loadable, leads_to_value_for}
use Rattle.class_text.specs.Classes.{leads_to_field_name, leads_to_method_name, leads_to_field_type, leads_to_method_type, is_barred, leads_to_super, class_of}

-- bytes that stand at a place of a file
pub record StandsAt (file : List ℕ) (at : ℕ) (item : List ℕ) : Type 0 where
  pub front : List ℕ
  pub back : List ℕ
  pub parts : file ≡ front ++ (item ++ back)
  pub here : length front ≡ at

-- what an index behind the pool is to lead to (JVMS 4.1, 4.5 to 4.7)
pub data Wanted : Type 0 where
  a_text : Wanted
  a_type : Wanted
  a_result : Wanted
  a_value : ℕ → Wanted
  a_class : Wanted
  a_caught_class : Wanted
  a_plain_class : Wanted
  a_super_class : ℕ → Wanted
  a_field_name : Wanted
  a_method_name : Wanted
  a_field_type : List Member → ℕ → Wanted
  a_method_type : List Member → ℕ → ℕ → Wanted
  a_handle : Wanted
  a_loadable_constant : Wanted
  a_field_value : List ℕ → Wanted

abbrev pub leads : Pool → Wanted → ℕ → Bool
leads pool a_text n = leads_to_text pool n
leads pool a_type n = leads_to_type pool n
leads pool a_result n = leads_to_result pool n
leads pool (a_value tag) n = leads_to_value_of pool tag n
leads pool a_class n = leads_to_class pool n
leads pool a_caught_class n = leads_to_caught pool n
leads pool a_plain_class n = is_plain_class pool n
leads pool (a_super_class this) n = leads_to_super pool this n
leads pool a_field_name n = leads_to_field_name pool n
leads pool a_method_name n = leads_to_method_name pool n
leads pool (a_field_type before name) n = leads_to_field_type pool before name n
leads pool (a_method_type before flags name) n = leads_to_method_type pool before flags name n
leads pool a_handle n = leads_to_handle pool n
leads pool a_loadable_constant n = leads_to_loadable pool n
leads pool (a_field_value descriptor) n = leads_to_value_for pool descriptor n

-- Behind a cut fewer than 2^32 bytes are left, so that nothing is cut there once so many more follow.
abbrev pub IsShort : ℕ → ℕ → Type 0
IsShort end at = end < at + 2 ^ 32

-- ---- behind the pool

-- The numbers that may stand there are those that lead to what is wanted, and the index there isn't one of them.
pub record IsAstray (pool : Pool) (file : List ℕ) (start at : ℕ) (numbers : ℕ → Bool) : Type 0 where
  pub number : ℕ
  pub wanted : Wanted
  pub asked : numbers ≡ leads pool wanted
  pub stands : StandsAt file at (to_be_bytes w16 number)
  pub behind : start ≤ at
  pub astray : leads pool wanted number ≡ false

-- The name of an attribute stands there.
pub record IsNameAt (pool : Pool) (file : List ℕ) (start at name : ℕ) : Type 0 where
  pub stands : StandsAt file at (to_be_bytes w16 name)
  pub behind : start ≤ at
  pub text : leads_to_text pool name ≡ true

-- Fewer than 2^32 bytes of a part that goes on to an end stand behind a place in it.
pub record IsCutAt (start end at : ℕ) : Type 0 where
  pub behind : start ≤ at
  pub before : at ≤ end
  pub short : IsShort end at

-- What follows the last item of a content: it begins at a place, and ends with the content.
pub record IsLeftOver (file : List ℕ) (at stop : ℕ) : Type 0 where
  pub bytes : List ℕ
  pub stands : StandsAt file at bytes
  pub some : 0 < length bytes
  pub ends : stop ≡ at + length bytes

-- A length of code stands behind the pool that code may not have.
pub record IsBadLength (file : List ℕ) (start len : ℕ) : Type 0 where
  pub at : ℕ
  pub stands : StandsAt file at (to_be_bytes w32 len)
  pub behind : start ≤ at
  pub outside : (len ≡ 0) ⊎ (most_code < len)

-- Why an attribute of a name is bad.
abbrev pub IsBadFor : Pool → List ℕ → ℕ → ℕ → Badness → Type 0
IsBadFor pool file start name (cut_within at stop) = IsCutAt start stop at × (stop ≤ length file)
IsBadFor pool file start name (goes_on at stop) = IsLeftOver file at stop
IsBadFor pool file start name (bad_length len) = IsBadLength file start len × (text_or_empty pool name ≡ code_name)
IsBadFor pool file start name too_deep = text_or_empty pool name ≡ visible_annotations_name
IsBadFor pool file start name barred_code = text_or_empty pool name ≡ code_name

-- The name of an attribute stands there that is bad for this reason.
pub record IsBadAttribute (pool : Pool) (file : List ℕ) (start at : ℕ) (why : Badness) : Type 0 where
  pub name : ℕ
  pub named : IsNameAt pool file start at name
  pub reason : IsBadFor pool file start name why

-- The name of an attribute stands there, and right before it the attributes behind their count, of which one has the same
-- known name.
pub record IsNameTwice (pool : Pool) (file : List ℕ) (start at : ℕ) : Type 0 where
  pub name : ℕ
  pub place : Place
  pub before : List Attribute
  pub from : ℕ
  pub text : List ℕ
  pub spelled : (text ≡ flat_map spelling.attribute before) ⊎ (text ≡ flat_map spelling.code_attribute before)
  pub stands : StandsAt file from (text ++ to_be_bytes w16 name)
  pub here : at ≡ from + length text
  pub behind : start ≤ from
  pub twice : is_first (is_known place) bytes_eq (map (attribute_name pool) before) (text_or_empty pool name) ≡ false

-- A method stands there that is neither abstract nor native, and has no code.
pub record IsWithoutCode (file : List ℕ) (start at : ℕ) : Type 0 where
  pub method : Member
  pub stands : StandsAt file at (spelling.member method)
  pub behind : start ≤ at
  pub owed : is_barred method.flags ≡ false
  pub none : has_code method.attributes ≡ false

-- A fault behind a pool that ends at `start`, of a part of the file that goes on to an end.
abbrev pub IsMeantBehind : Pool → List ℕ → ℕ → ℕ → Fault → Type 0
IsMeantBehind pool file start end (cut_short at) = IsCutAt start end at
IsMeantBehind pool file start end (bad_tag at tag) = StandsAt file at (tag ∷ []) × (start ≤ at)
IsMeantBehind pool file start end (astray at numbers) = IsAstray pool file start at numbers
IsMeantBehind pool file start end (bad_attribute at why) = IsBadAttribute pool file start at why
IsMeantBehind pool file start end (second_attribute at) = IsNameTwice pool file start at
IsMeantBehind pool file start end (code_missing at) = IsWithoutCode file start at
IsMeantBehind pool file start end fault = ⊥

-- ---- in the pool

-- A text constant stands there whose bytes aren't modified UTF-8 (JVMS 4.4.7).
pub record IsBadText (file : List ℕ) (start at : ℕ) : Type 0 where
  pub text : List ℕ
  pub stands : StandsAt file at (1 ∷ to_be_bytes w16 (length text) ++ text)
  pub behind : start ≤ at
  pub bad : IsModifiedUtf8 text → ⊥

-- A fault of the pool that begins at `start`, of a file that goes on to an end.
abbrev pub IsMeantInPool : List ℕ → ℕ → ℕ → Fault → Type 0
IsMeantInPool file start end (cut_short at) = IsShort end at
IsMeantInPool file start end (bad_tag at tag) = StandsAt file at (tag ∷ []) × (start ≤ at) × ((is_tag tag ≡ false) ⊎ (is_wide tag ≡ true))
IsMeantInPool file start end (bad_text at) = IsBadText file start at
IsMeantInPool file start end (bad_index at) = IsWrongAt end (drop start file) at
IsMeantInPool file start end fault = ⊥

-- ---- of a class file

-- something holds behind the pool of a file
pub record IsBehindPool (P : Pool → ℕ → Type 0) (file : List ℕ) : Type 0 where
  pub pool : Pool
  pub after : List ℕ
  pub reads : pool_at (length file) (drop 8 file) ≡ Ok (pool, after)
  pub says : P pool (place (length file) after)

-- What the first bad place of a class file says. The magic, the minor and the major version stand before the pool.
abbrev pub IsMeant : List ℕ → Fault → Type 0
IsMeant file bad_magic = (number : ℕ) × StandsAt file 0 (to_be_bytes w32 number) × (number ≢ spelling.magic)
IsMeant file (bad_major version) = StandsAt file 6 (to_be_bytes w16 version) × ((version < oldest_major) ⊎ (newest_major < version))
IsMeant file (bytes_left at) = (at < length file) × ((c : Class) × (class_of (take at file) ≡ Ok c))
IsMeant file (cut_short at) = IsShort (length file) at
IsMeant file (bad_text at) = IsBadText file 8 at
IsMeant file (bad_tag at tag) = StandsAt file at (tag ∷ []) × (8 ≤ at)
IsMeant file (bad_index at) = IsWrongAt (length file) (drop 8 file) at
IsMeant file (astray at numbers) = IsBehindPool (λ pool start. IsAstray pool file start at numbers) file
IsMeant file (bad_attribute at why) = IsBehindPool (λ pool start. IsBadAttribute pool file start at why) file
IsMeant file (second_attribute at) = IsBehindPool (λ pool start. IsNameTwice pool file start at) file
IsMeant file (code_missing at) = IsBehindPool (λ pool start. IsWithoutCode file start at) file
