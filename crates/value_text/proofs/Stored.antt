-- The stored text of a value is read back as that value.
use Rattle.std.proofs.Common.{◌≡◌, ℕ, ◌+◌, ◌^◌, ◌≤◌, ℤ, pos, negsuc, true, false, List, [], ◌∷◌, length, IsUtf8, Option, Some, None, option_map, option_and_then, FitsSigned, inl, inr, refl, sym, ap, ◌∙◌, arith, subst, lt-ltb, ltb-true}
use Rattle.std.specs.Int.{w32, w64}
use Rattle.std.specs.Str.{IsAscii}
use Rattle.std.proofs.lemmas.Bool.{cases_lt, and_parts}
use Rattle.std.proofs.lemmas.Str.Ascii.{IsAscii-nil, IsAscii-cons}
use Rattle.json.proofs.Printed.Utf8.{are_ascii, IsUtf8-are_ascii}
use Rattle.std.proofs.lemmas.List.{get_or_past}
use Rattle.std.proofs.lemmas.Str.{IsUtf8-from_ascii}
use Rattle.hex.specs.Hex.{IsBytes, lower_digits, encode_lower}
use Rattle.hex.proofs.HexLemmas.{IsAscii-encode_with, decode_sized-encode_lower}
use Rattle.serde_json.specs.Data as json
use Rattle.serde_json.specs.Data.{Data, Num, unsigned, negative, items_depth}
use Rattle.serde_json.specs.Find.{of_integer, as_i64}
use Rattle.serde_json.specs.Read.{read}
use Rattle.serde_json.specs.Written.{has_float, items_have_float}
use Rattle.tree_value.specs.Digests.{IsDigest}
use Rattle.value_text.proofs.PathText.{IsUtf8-IsPath}
use Rattle.value_text.specs.Short.{Short, Shorts, null, boolean, int, long, text, list, reference, no_values, value, IsShort, AreShort, depth, depth_of_all, as_short}
use Rattle.tree_value.specs.declared.value.ValueType.{ValueType}
use Rattle.value_text.specs.Stores.{Stores}
use Rattle.tree_value.specs.declared.value.Value.{Value}
use Rattle.value_text.specs.Decoded.{value_of, values_of, digest_of, bytes_of, Finds}
use Rattle.value_text.specs.Texts.{json_of, items_of, long_json, reference_json, stored_json, stored_text}
use Rattle.value_text.specs.declared.form.Form.{Form}
use Rattle.value_text.specs.declared.form.Form.TheVariants.{Stored, Printed}
use Rattle.value_text.proofs.CompactJson.{IsPlain, ArePlainItems, IsPlainNumber, HasUtf8, ItemsHaveUtf8, read-compact_text, compact_text-injective, IsUtf8-compact_text}

-- ---- no text of a value has a float

long_has_float : (form : Form) (n : ℤ) → has_float (long_json form n) ≡ false
long_has_float Stored (pos n) = refl
long_has_float Stored (negsuc n) = refl
long_has_float Printed (pos n) = refl
long_has_float Printed (negsuc n) = refl

reference_has_float : (form : Form) (owner path digest : List ℕ) → has_float (reference_json form owner path digest) ≡ false
reference_has_float Stored owner path digest = refl
reference_has_float Printed owner path digest = refl

mutual
  pub has_float-json_of : (form : Form) (v : Short) → has_float (json_of form v) ≡ false
  has_float-json_of form null = refl
  has_float-json_of form (boolean b) = refl
  has_float-json_of form (int (pos n)) = refl
  has_float-json_of form (int (negsuc n)) = refl
  has_float-json_of form (long n) = long_has_float form n
  has_float-json_of form (text s) = refl
  has_float-json_of form (list vs) = items_have_float-items_of form vs
  has_float-json_of form (reference owner path digest) = reference_has_float form owner path digest

  items_have_float-items_of : (form : Form) (vs : Shorts) → items_have_float (items_of form vs) ≡ false
  items_have_float-items_of form no_values = refl
  items_have_float-items_of form (value v vs) = rw (has_float-json_of form v) (items_have_float-items_of form vs)

-- ---- digests and numbers

IsBytes-IsDigest : (digest : List ℕ) → IsDigest digest → IsBytes digest
IsBytes-IsDigest digest h i = elim (cases_lt i (length digest)) [
  | inl within ↦ h.within i 0 within
  | inr past ↦ rw (get_or_past digest i 0 past) (omega arith)
]

pub digest_of-encode_lower : (digest : List ℕ) → IsDigest digest → digest_of (encode_lower digest) ≡ Some digest
digest_of-encode_lower digest h = ap bytes_of (decode_sized-encode_lower digest 32 h.size (IsBytes-IsDigest digest h))

IsAscii-are_ascii : (xs : List ℕ) → are_ascii xs ≡ true → IsAscii xs
IsAscii-are_ascii [] e = IsAscii-nil
IsAscii-are_ascii (x ∷ xs) e = let p = and_parts _ _ e in IsAscii-cons x xs (ltb-true _ _ p.0) (IsAscii-are_ascii xs p.1)

pub IsUtf8-encode_lower : (digest : List ℕ) → IsUtf8 (encode_lower digest)
IsUtf8-encode_lower digest = IsUtf8-from_ascii _ (IsAscii-encode_with lower_digits digest (IsAscii-are_ascii lower_digits refl))

IsPlain-integer : (n : ℤ) → FitsSigned w64 n → IsPlainNumber (of_integer n)
IsPlain-integer (pos n) h = let within = h.sfits in omega arith
IsPlain-integer (negsuc n) h = h.sfits

wider : (n : ℤ) → FitsSigned w32 n → FitsSigned w64 n
wider (pos n) h = let within = h.sfits in record { sfits = omega arith }
wider (negsuc n) h = let within = h.sfits in record { sfits = omega arith }

as_i64-of_integer : (n : ℤ) → FitsSigned w64 n → as_i64 (of_integer n) ≡ Some n
as_i64-of_integer (pos n) h = rw (lt-ltb n (2 ^ 63) h.sfits)
as_i64-of_integer (negsuc n) h = refl

-- ---- what a stored value is as JSON

mutual
  pub IsPlain-stored : (v : Short) → IsShort v → IsPlain (json_of Stored v)
  IsPlain-stored null h = tt
  IsPlain-stored (boolean b) h = tt
  IsPlain-stored (int n) h = IsPlain-integer n (wider n h)
  IsPlain-stored (long n) h = (IsPlain-integer n h, tt, tt)
  IsPlain-stored (text s) h = tt
  IsPlain-stored (list vs) h = ArePlainItems-stored vs h
  IsPlain-stored (reference owner path digest) h = ((tt, (tt, (tt, tt))), tt, tt)

  ArePlainItems-stored : (vs : Shorts) → AreShort vs → ArePlainItems (items_of Stored vs)
  ArePlainItems-stored no_values h = tt
  ArePlainItems-stored (value v vs) h = (IsPlain-stored v h.0, ArePlainItems-stored vs h.1)

mutual
  pub HasUtf8-stored : (v : Short) → IsShort v → HasUtf8 (json_of Stored v)
  HasUtf8-stored null h = tt
  HasUtf8-stored (boolean b) h = tt
  HasUtf8-stored (int n) h = tt
  HasUtf8-stored (long n) h = (IsUtf8-are_ascii _ refl, tt, tt)
  HasUtf8-stored (text s) h = h
  HasUtf8-stored (list vs) h = ItemsHaveUtf8-stored vs h
  HasUtf8-stored (reference owner path digest) h = (IsUtf8-are_ascii _ refl, (h.0, (IsUtf8-IsPath path h.1, (IsUtf8-encode_lower digest, tt))), tt)

  ItemsHaveUtf8-stored : (vs : Shorts) → AreShort vs → ItemsHaveUtf8 (items_of Stored vs)
  ItemsHaveUtf8-stored no_values h = tt
  ItemsHaveUtf8-stored (value v vs) h = (HasUtf8-stored v h.0, ItemsHaveUtf8-stored vs h.1)

mutual
  pub depth-stored : (v : Short) → json.depth (json_of Stored v) ≤ depth v + 1
  depth-stored null = omega arith
  depth-stored (boolean b) = omega arith
  depth-stored (int n) = omega arith
  depth-stored (long n) = omega arith
  depth-stored (text s) = omega arith
  depth-stored (list vs) = let all = items_depth-stored vs in omega arith
  depth-stored (reference owner path digest) = omega arith

  items_depth-stored : (vs : Shorts) → items_depth (items_of Stored vs) ≤ depth_of_all vs + 1
  items_depth-stored no_values = omega arith
  items_depth-stored (value v vs) = let first = depth-stored v in let rest = items_depth-stored vs in omega arith

mutual
  pub value_of-stored : (v : Short) → IsShort v → value_of (json_of Stored v) ≡ Some v
  value_of-stored null h = refl
  value_of-stored (boolean b) h = refl
  value_of-stored (int n) h = ap (option_map int) (as_i64-of_integer n (wider n h))
  value_of-stored (long n) h = ap (option_map long) (as_i64-of_integer n h)
  value_of-stored (text s) h = refl
  value_of-stored (list vs) h = ap (option_map list) (values_of-stored vs h)
  value_of-stored (reference owner path digest) h = ap (option_map (reference owner path)) (digest_of-encode_lower digest h.2)

  values_of-stored : (vs : Shorts) → AreShort vs → values_of (items_of Stored vs) ≡ Some vs
  values_of-stored no_values h = refl
  values_of-stored (value v vs) h =
      ap (option_and_then (λ w. option_map (value w) (values_of (items_of Stored vs)))) (value_of-stored v h.0) ∙ ap (option_map (value v)) (values_of-stored vs h.1)

-- ---- the text

pub IsUtf8-stored_text : (v : Short) → IsShort v → IsUtf8 (stored_text v)
IsUtf8-stored_text v h = IsUtf8-compact_text (json_of Stored v) (IsPlain-stored v h) (HasUtf8-stored v h)

pub read-stored_text : (v : Short) → IsShort v → depth v ≤ 64 → read (stored_text v) ≡ Some (json_of Stored v)
read-stored_text v h shallow = read-compact_text (json_of Stored v) (IsPlain-stored v h) (omega (arith, depth-stored v))

-- a text is stored of one value
pub stored_text-injective : (v w : Short) → IsShort v → IsShort w → stored_text v ≡ stored_text w → v ≡ w
stored_text-injective v w h k same =
    let as_json = compact_text-injective (json_of Stored v) (json_of Stored w) (IsPlain-stored v h) (IsPlain-stored w k) same in
    let first = value_of-stored v h in
    let second = value_of-stored w k in
    let both : Some v ≡ Some w = sym first ∙ ap value_of as_json ∙ second in
    cc

-- ---- a text that stores a value

module _ (wanted : ValueType) (bytes : List ℕ) where
  pub read-stores : (v : Short) → Stores wanted bytes v → read bytes ≡ Some (stored_json v)
  read-stores v h = ap read (sym h.stored) ∙ read-stored_text v h.valid h.shallow

  pub not_json : (IsUtf8 bytes → read bytes ≡ None) → (v : Short) → ¬ (Stores wanted bytes v)
  not_json none v h =
      let not_read = none (subst IsUtf8 h.stored (IsUtf8-stored_text v h.valid)) in
      let clash : Some (stored_json v) ≡ None = sym (read-stores v h) ∙ not_read in
      cc

  pub json-stores : (v : Short) (d : Data) → Stores wanted bytes v → read bytes ≡ Some d → d ≡ stored_json v
  json-stores v d h is = let same : Some d ≡ Some (stored_json v) = sym is ∙ read-stores v h in cc

-- what a search through the JSON gives, in terms of the values that it may be that of
pub finds_stored : (levels : ℕ) (d : Data) (found : Option Value) → Finds levels (value_of d) found → (v : Short) → IsShort v → depth v ≤ levels → d ≡ stored_json v → option_map as_short found ≡ Some v
finds_stored levels d None h v valid shallow is = absurd (h v (ap value_of is ∙ value_of-stored v valid) valid shallow)
finds_stored levels d (Some w) h v valid shallow is = sym h.0 ∙ ap value_of is ∙ value_of-stored v valid
