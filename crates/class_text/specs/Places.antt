-- What stands before a bad place.
use Rattle.std.specs.Prelude.{◌≡◌, ◌⊎◌, ◌++◌, ◌-◌, ◌≤◌, ◌<◌, ℕ, Bool, true, false, List, length, take, drop, Result, Ok, Err}
use Rattle.class_model.specs.declared.constant_pool.Pool.{Pool}
use Rattle.class_model.specs.declared.class_file.Class.{Class}
use Rattle.class_model.specs.declared.attribute_forms.Attribute.{Attribute}
use Rattle.class_model.specs.Attributes.{Place}
use Rattle.class_text.specs.Reading.{Fault, cut_short, bytes_left, fault_place, place}
use Rattle.class_text.specs.Readers.{Reader}
use Rattle.class_text.specs.Pool.{pool_at}
use Rattle.class_text.specs.Elements.{leads_to_text}
use Rattle.class_text.specs.Attributes.{content_at, code_content_at}

-- The bytes before a place, read alone, have no fault but that they are cut, there or earlier.
abbrev pub IsOnlyCut : {A : Type 0} → ℕ → Result A Fault → Type 0
IsOnlyCut at answer = (earlier : ℕ) × (earlier ≤ at) × (answer ≡ Err (cut_short earlier))

-- The bytes before the place of a fault, read alone: before bytes that are left stands a whole class, before any other
-- bad place the front of one.
abbrev pub IsGoodBefore : Fault → Result Class Fault → Type 0
IsGoodBefore (bytes_left at) answer = (c : Class) × (answer ≡ Ok c)
IsGoodBefore fault answer = IsOnlyCut (fault_place fault) answer

-- a fault is at a byte before the end; a cut may be at the end
abbrev pub IsWithin : ℕ → Fault → Type 0
IsWithin end (cut_short at) = at ≤ end
IsWithin end fault = fault_place fault < end

-- The bytes of a reader that go on to an end: those before the place of a fault, read alone, are only cut.
abbrev pub IsCutBefore : {A : Type 0} → Reader A → ℕ → List ℕ → Fault → Type 0
IsCutBefore read end bytes fault =
    IsOnlyCut (fault_place fault) (read (fault_place fault) (take (fault_place fault - place end bytes) bytes))

-- A fault of the content of an attribute, which is read by where the attribute stands, its name and its place. The content
-- stands at the front of bytes that go on to an end, behind that place.
pub record IsInContent (contents : Place → ℕ → ℕ → Reader Attribute) (pool : Pool) (end : ℕ) (bytes : List ℕ) (fault : Fault) : Type 0 where
  pub stand : Place
  pub name : ℕ
  pub at : ℕ
  pub content : List ℕ
  pub back : List ℕ
  pub parts : bytes ≡ content ++ back
  pub named : leads_to_text pool name ≡ true
  pub begins : at < place end bytes
  pub found : contents stand name at (place end back) content ≡ Err fault

abbrev pub is_left : Fault → Bool
is_left (bytes_left at) = true
is_left _ = false

-- Reading comes to a place: the front before it, read alone, is cut where it ends. The fault is named there, or what
-- stands there has it.
pub record Stops {A : Type 0} (read : Reader A) (Has : ℕ → List ℕ → Fault → Type 0) (end : ℕ) (bytes : List ℕ) (fault : Fault) : Type 0 where
  pub front : List ℕ
  pub rest : List ℕ
  pub parts : bytes ≡ front ++ rest
  pub cut : read (place end rest) front ≡ Err (cut_short (place end rest))
  pub what : (fault_place fault ≡ place end rest) ⊎ Has end rest fault

-- what stands at a place of a file is the content of an attribute, under the pool of the file
abbrev pub IsInFile : List ℕ → ℕ → List ℕ → Fault → Type 0
IsInFile file end rest fault =
    (pool : Pool) × (after : List ℕ) × (pool_at (length file) (drop 8 file) ≡ Ok (pool, after)) × IsInContent (content_at pool) pool end rest fault

-- within code, that of one of its attributes
abbrev pub IsInCode : Pool → ℕ → List ℕ → Fault → Type 0
IsInCode pool = IsInContent (λ stand. code_content_at pool) pool
