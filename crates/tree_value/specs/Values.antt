-- The results of tasks, with the trees that they refer to, and their short form.
use Rattle.std.specs.Prelude.{ℕ, ℤ, Bool, List, [], ◌∷◌, IsUtf8, FitsSigned, ⊤}
use Rattle.std.specs.Int.{w32, w64}
use Rattle.tree_value.specs.Paths.{IsPath}
use Rattle.tree_value.specs.Trees.{IsTree, tree_digest}
use Rattle.tree_value.specs.declared.value.Value.{Value}
use Rattle.tree_value.specs.declared.value.Value.TheVariants as kept

-- A value: a reference holds its owner, its path and its tree whole.
mutual
  pub data Whole : Type 0 where
    null : Whole
    bool : Bool → Whole
    int : ℤ → Whole
    long : ℤ → Whole
    text : List ℕ → Whole
    list : Wholes → Whole
    reference : List ℕ → List ℕ → List (List ℕ × List ℕ) → Whole

  pub data Wholes : Type 0 where
    no_items : Wholes
    item : Whole → Wholes → Wholes

-- its numbers have 32 and 64 bits in two's complement, its texts are UTF-8, its paths and trees are such
abbrev mutual
  pub IsWhole : Whole → Type 0
  IsWhole null = ⊤
  IsWhole (bool b) = ⊤
  IsWhole (int n) = FitsSigned w32 n
  IsWhole (long n) = FitsSigned w64 n
  IsWhole (text bytes) = IsUtf8 bytes
  IsWhole (list items) = AreWhole items
  IsWhole (reference owner path tree) = IsUtf8 owner × IsPath path × IsTree tree

  pub AreWhole : Wholes → Type 0
  AreWhole no_items = ⊤
  AreWhole (item v items) = IsWhole v × AreWhole items

-- the short form: the digest of each tree in place of the tree
abbrev mutual
  pub short : Whole → Value
  short null = kept.Null
  short (bool b) = kept.Bool b
  short (int n) = kept.Int n
  short (long n) = kept.Long n
  short (text bytes) = kept.Text bytes
  short (list items) = kept.List (shorts items)
  short (reference owner path tree) = kept.Ref (record { owner = owner; path = path; digest = tree_digest tree })

  pub shorts : Wholes → List Value
  shorts no_items = []
  shorts (item v items) = short v ∷ shorts items
