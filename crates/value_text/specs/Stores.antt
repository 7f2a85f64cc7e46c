-- Which texts are stored texts.
use Rattle.std.specs.Prelude.{◌≡◌, ℕ, ◌≤◌, List, IsTrue}
use Rattle.tree_value.specs.declared.value.ValueType.{ValueType}
use Rattle.value_text.specs.Short.{Short, IsShort, depth, has_type}
use Rattle.value_text.specs.Texts.{stored_text}

-- the text is the stored text of the value, which is of the type and no deeper than 64 levels
pub record Stores (wanted : ValueType) (bytes : List ℕ) (v : Short) : Type 0 where
  pub valid : IsShort v
  pub typed : IsTrue (has_type wanted v)
  pub shallow : depth v ≤ 64
  pub stored : stored_text v ≡ bytes
