-- Values in their short form: a reference has the digest of its tree in place of the tree.
use Rattle.std.specs.Prelude.{ℕ, suc, max, ℤ, Bool, true, false, List, [], ◌∷◌, IsUtf8, FitsSigned, ⊤}
use Rattle.std.specs.Int.{w32, w64}
use Rattle.tree_value.specs.Digests.{IsDigest}
use Rattle.tree_value.specs.Paths.{IsPath}
use Rattle.tree_value.specs.declared.value.Value.{Value, fold-Value}
use Rattle.tree_value.specs.declared.value.Value.TheOpen.{Value-F}
use Rattle.tree_value.specs.declared.value.ValueType.{ValueType}
use Rattle.tree_value.specs.declared.value.ValueType.TheVariants as type

mutual
  pub data Short : Type 0 where
    null : Short
    boolean : Bool → Short
    int : ℤ → Short
    long : ℤ → Short
    text : List ℕ → Short
    list : Shorts → Short
    -- by its owner, its path and the digest of its tree
    reference : List ℕ → List ℕ → List ℕ → Short

  pub data Shorts : Type 0 where
    no_values : Shorts
    value : Short → Shorts → Shorts

abbrev mutual
  -- the numbers fit their types, and the parts of a reference are what they are named for
  pub IsShort : Short → Type 0
  IsShort null = ⊤
  IsShort (boolean b) = ⊤
  IsShort (int n) = FitsSigned w32 n
  IsShort (long n) = FitsSigned w64 n
  IsShort (text s) = IsUtf8 s
  IsShort (list vs) = AreShort vs
  IsShort (reference owner path digest) = IsUtf8 owner × IsPath path × IsDigest digest

  pub AreShort : Shorts → Type 0
  AreShort no_values = ⊤
  AreShort (value v vs) = IsShort v × AreShort vs

abbrev mutual
  -- how deep lists nest: 1 without a list, and one more than the deepest element in a list
  pub depth : Short → ℕ
  depth null = 1
  depth (boolean b) = 1
  depth (int n) = 1
  depth (long n) = 1
  depth (text s) = 1
  depth (list vs) = suc (depth_of_all vs)
  depth (reference owner path digest) = 1

  pub depth_of_all : Shorts → ℕ
  depth_of_all no_values = 0
  depth_of_all (value v vs) = max (depth v) (depth_of_all vs)

-- whether a value is of a type; null is a text, a list and a reference
abbrev pub has_type : ValueType → Short → Bool
has_type type.Bool (boolean b) = true
has_type type.Int (int n) = true
has_type type.Long (long n) = true
has_type type.Text null = true
has_type type.Text (text s) = true
has_type type.List null = true
has_type type.List (list vs) = true
has_type type.Ref null = true
has_type type.Ref (reference owner path digest) = true
has_type _ _ = false

-- ---- the short form of a `Value`

abbrev pub shorts_of : List Short → Shorts
shorts_of [] = no_values
shorts_of (v ∷ vs) = value v (shorts_of vs)

-- one level, with each value inside already in its short form
abbrev pub as_short_step : Value-F Short → Short
as_short_step Value-F.Null = null
as_short_step (Value-F.Bool b) = boolean b
as_short_step (Value-F.Int n) = int n
as_short_step (Value-F.Long n) = long n
as_short_step (Value-F.Text s) = text s
as_short_step (Value-F.List vs) = list (shorts_of vs)
as_short_step (Value-F.Ref r) = reference r.owner r.path r.digest

abbrev pub as_short : Value → Short
as_short = fold-Value Short as_short_step
