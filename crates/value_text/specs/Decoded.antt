-- Finding the value that a JSON value is that of. For private clauses.
use Rattle.std.specs.Prelude.{◌≡◌, ℕ, ◌≤◌, ℤ, List, map, codes, Option, Some, None, option_map, option_and_then, Result, Ok, Err, MatchOption}
use Rattle.hex.specs.declared.FromHexError.{FromHexError}
use Rattle.hex.specs.Hex.{decode_sized}
use Rattle.serde_json.specs.Data.{Data, null, boolean, number, string, array, object, Items, no_items, item}
use Rattle.serde_json.specs.Find.{at, get, as_i64, as_number, as_str}
use Rattle.tree_value.specs.declared.value.Value.{Value}
use Rattle.value_text.specs.Short as value
use Rattle.value_text.specs.Short.{Short, Shorts, IsShort, AreShort, depth, depth_of_all, as_short, shorts_of}

abbrev pub bytes_of : Result (List ℕ) FromHexError → Option (List ℕ)
bytes_of (Ok bytes) = Some bytes
bytes_of (Err e) = None

-- the digest of 64 hexadecimal digits
abbrev pub digest_of : List ℕ → Option (List ℕ)
digest_of hex = bytes_of (decode_sized hex 32)

abbrev pub integer_of : Data → Option ℤ
integer_of d = option_and_then as_i64 (as_number d)

abbrev pub text_at : ℕ → Data → Option (List ℕ)
text_at i d = option_and_then as_str (at i d)

abbrev pub reference_of : Data → Option Short
reference_of d =
    option_and_then (λ owner. option_and_then (λ path. option_map (value.reference owner path) (option_and_then digest_of (text_at 2 d))) (text_at 1 d)) (text_at 0 d)

abbrev pub member_of : Option Data → Option Data → Option Short
member_of (Some long) reference = option_map value.long (integer_of long)
member_of None reference = option_and_then reference_of reference

-- The one value whose JSON this can be. Whether it is one, its text tells.
abbrev mutual
  pub value_of : Data → Option Short
  value_of null = Some value.null
  value_of (boolean b) = Some (value.boolean b)
  value_of (number n) = option_map value.int (as_i64 n)
  value_of (string s) = Some (value.text s)
  value_of (array ds) = option_map value.list (values_of ds)
  value_of (object ms) = member_of (get (codes "l") (object ms)) (get (codes "r") (object ms))

  pub values_of : Items → Option Shorts
  values_of no_items = Some value.no_values
  values_of (item d ds) = option_and_then (λ v. option_map (value.value v) (values_of ds)) (value_of d)

-- no value of this depth is wanted
abbrev pub IsNone : ℕ → Option Short → Type 0
IsNone levels wanted = (v : Short) → wanted ≡ Some v → IsShort v → depth v ≤ levels → ⊥

abbrev pub AreNone : ℕ → Option Shorts → Type 0
AreNone levels wanted = (vs : Shorts) → wanted ≡ Some vs → AreShort vs → depth_of_all vs ≤ levels → ⊥

-- what is found is the wanted value, and nothing only where there is none
abbrev pub Finds : ℕ → Option Short → Option Value → Type 0
Finds levels wanted found = MatchOption found (IsNone levels wanted) (λ v. (wanted ≡ Some (as_short v)) × (depth (as_short v) ≤ levels))

abbrev pub FindsAll : ℕ → Option Shorts → Option (List Value) → Type 0
FindsAll levels wanted found =
    MatchOption found (AreNone levels wanted) (λ vs. (wanted ≡ Some (shorts_of (map as_short vs))) × (depth_of_all (shorts_of (map as_short vs)) ≤ levels))
