-- What stands in the JSON of an entry, as a reader of it meets it.
use Rattle.std.proofs.Common.{◌≡◌, ℕ, ◌+◌, ◌<◌, List, [], ◌∷◌, ◌++◌, length, map, take, get_or, codes, Option, Some, None, option_map, option_and_then, sym, ap, ap₂, ◌∙◌, arith, subst, inl, inr}
use Rattle.std.proofs.lemmas.Bool.{cases_lt}
use Rattle.std.proofs.lemmas.List.{get_or-map, get_or_default, length-map, map-append, take_more}
use Rattle.std.proofs.Math.ListN as plain
use Rattle.hex.specs.Hex.{encode_lower}
use Rattle.serde_json.specs.Data.{Data}
use Rattle.serde_json.specs.Find.{get, at, as_str}
use Rattle.serde_json.specs.View.{view, items_view, items_of}
use Rattle.serde_json.specs.declared.value.Value.{Value as Json}
use Rattle.tree_value.specs.declared.value.Value.{Value}
use Rattle.value_text.specs.Short.{as_short}
use Rattle.value_text.specs.Texts.{stored_json}
use Rattle.value_text.specs.Decoded.{digest_of}
use Rattle.value_text.proofs.Kept.{as_short-injective}
use Rattle.value_text.proofs.Stored.{digest_of-encode_lower}
use Rattle.out_entry.specs.Entries.{file_json, entry_json, IsFile}
use Rattle.out_entry.specs.declared.entry.Entry.{Entry}
use Rattle.out_entry.proofs.Lists.{items_of-injective}
use Rattle.out_entry.proofs.EntryText.{Files}

same_some : {A : Type 0} (x y : A) → Some x ≡ Some y → x ≡ y
same_some x y e = cc

pub input_text : (entry : Entry) (d : Data) (text : List ℕ) → d ≡ entry_json entry → Some text ≡ option_and_then as_str (get (codes "input") d) → text ≡ encode_lower entry.input
input_text entry d text is found = same_some text (encode_lower entry.input) (found ∙ ap (λ e. option_and_then as_str (get (codes "input") e)) is)

pub value_json : (entry : Entry) (d v : Data) → d ≡ entry_json entry → Some v ≡ get (codes "value") d → v ≡ stored_json (as_short entry.value)
value_json entry d v is found = same_some v (stored_json (as_short entry.value)) (found ∙ ap (get (codes "value")) is)

pub value_found : (found : Option Value) (v : Value) → option_map as_short found ≡ Some (as_short v) → found ≡ Some v
value_found None v e = absurd (cc)
value_found (Some w) v e = ap Some (as_short-injective w v (same_some (as_short w) (as_short v) e))

pub file_name : (file : List ℕ × List ℕ) (d : Data) (text : List ℕ) → d ≡ file_json file → Some text ≡ option_and_then as_str (at 0 d) → text ≡ file.0
file_name file d text is found = same_some text file.0 (found ∙ ap (λ e. option_and_then as_str (at 0 e)) is)

pub file_digest : (file : List ℕ × List ℕ) (d : Data) (text : List ℕ) → IsFile file → d ≡ file_json file → Some text ≡ option_and_then as_str (at 1 d) → digest_of text ≡ Some file.1
file_digest file d text h is found =
    let same = same_some text (encode_lower file.1) (found ∙ ap (λ e. option_and_then as_str (at 1 e)) is) in
    ap digest_of same ∙ digest_of-encode_lower file.1 h.1

-- ---- one file after another

abbrev AreFiles : List Json → Files → Type 0
AreFiles items files = items_view items ≡ items_of (map file_json files)

pub length-files : (items : List Json) (files : Files) → AreFiles items files → length items ≡ length files
length-files items files e = let same = ap length (items_of-injective _ _ e) in sym (length-map items view) ∙ same ∙ length-map files file_json

pub file_at : (items : List Json) (files : Files) (k : ℕ) (j : Json) (d : List ℕ × List ℕ) → AreFiles items files → k < length items → j ≡ get_or items k j → view j ≡ file_json (get_or files k d)
file_at items files k j d e within is =
    let below : k < length files = omega (arith, length-files items files e) in
    ap view is ∙ sym (plain.get_or-map view items k j) ∙ ap (λ (ds : List Data). get_or ds k (view j)) (items_of-injective _ _ e) ∙ get_or-map file_json files k d (view j) below

pub taken_more : (files found : Files) (k : ℕ) (f : List ℕ × List ℕ) → found ≡ take k files → f ≡ get_or files k f → k < length files → found ++ f ∷ [] ≡ take (k + 1) files
taken_more files found k f before here within =
    ap₂ (λ (xs : Files) (x : List ℕ × List ℕ). xs ++ x ∷ []) before here ∙ sym (take_more files k f within)

-- ---- one file after another goes into JSON

pub encoded_more : (files : Files) (items : List Json) (k : ℕ) (j : Json) (f : List ℕ × List ℕ) → map view items ≡ map file_json (take k files) → f ≡ get_or files k f → k < length files
    → view j ≡ file_json f → map view (items ++ j ∷ []) ≡ map file_json (take (k + 1) files)
encoded_more files items k j f before is within here =
    map-append view items (j ∷ [])
    ∙ ap₂ (λ (xs : List Data) (x : Data). xs ++ x ∷ []) before (here ∙ ap file_json is)
    ∙ sym (map-append file_json (take k files) (get_or files k f ∷ []))
    ∙ ap (map file_json) (sym (take_more files k f within))

abbrev AreValid : Files → ℕ → Type 0
AreValid files n = (k : ℕ) (d : List ℕ × List ℕ) → k < n → IsFile (get_or files k d)

pub valid_more : (files : Files) (n : ℕ) (f : List ℕ × List ℕ) → AreValid files n → f ≡ get_or files n f → n < length files → IsFile f → AreValid files (n + 1)
valid_more files n f before is within here k d below = elim (cases_lt k n) [
  | inl earlier ↦ before k d earlier
  | inr not_earlier ↦
      let last : n ≡ k = omega arith in
      let there : f ≡ get_or files n d = is ∙ get_or_default files n f d within in
      subst (λ (m : ℕ). IsFile (get_or files m d)) last (subst IsFile there here)
]
