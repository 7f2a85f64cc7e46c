-- The text of an entry is read back as its JSON, and no other entry has it.
use Rattle.std.proofs.Common.{◌≡◌, ℕ, zero, suc, ◌^◌, ◌<◌, ◌≤◌, List, [], ◌∷◌, map, All, IsUtf8, Some, None, refl, sym, ap, ap₂, ◌∙◌, arith, subst, false}
use Rattle.hex.specs.Hex.{encode_lower}
use Rattle.json.proofs.Printed.Utf8.{IsUtf8-are_ascii}
use Rattle.serde_json.specs.Data as json
use Rattle.serde_json.specs.Data.{Data, Items, number, string, array, object, unsigned, items_depth, item, no_items}
use Rattle.serde_json.specs.Read.{read, max_depth}
use Rattle.serde_json.specs.View.{items_of}
use Rattle.serde_json.specs.Written.{has_float, items_have_float}
use Rattle.tree_value.specs.Digests.{IsDigest}
use Rattle.tree_value.specs.declared.value.Value.{Value}
use Rattle.value_text.specs.Short.{IsShort, as_short, depth}
use Rattle.value_text.specs.Texts.{stored_json}
use Rattle.value_text.specs.Decoded.{value_of, digest_of}
use Rattle.value_text.specs.declared.form.Form.TheVariants.{Stored}
use Rattle.value_text.proofs.CompactJson.{IsPlain, ArePlainItems, HasUtf8, ItemsHaveUtf8, read-compact_text, compact_text-injective, IsUtf8-compact_text}
use Rattle.value_text.proofs.PathText.{IsUtf8-IsPath}
use Rattle.value_text.proofs.Kept.{as_short-injective}
use Rattle.value_text.proofs.Stored.{has_float-json_of, IsPlain-stored, HasUtf8-stored, depth-stored, value_of-stored, digest_of-encode_lower, IsUtf8-encode_lower}
use Rattle.out_entry.specs.Entries.{file_json, entry_json, entry_text, IsFile, HasParts, Keeps}
use Rattle.out_entry.specs.declared.entry.Entry.{Entry}
use Rattle.out_entry.proofs.Lists.{items_of-injective}

-- ---- the files

abbrev pub Files : Type 0
Files = List (List ℕ × List ℕ)

rest_of : (file : List ℕ × List ℕ) (files : Files) → All IsFile (file ∷ files) → All IsFile files
rest_of file files h k d within = h (suc k) d (omega arith)

first_of_all : (file : List ℕ × List ℕ) (files : Files) → All IsFile (file ∷ files) → IsFile file
first_of_all file files h = h zero file (omega arith)

no_float : (files : Files) → items_have_float (items_of (map file_json files)) ≡ false
no_float [] = refl
no_float (file ∷ files) = no_float files

plain_files : (files : Files) → ArePlainItems (items_of (map file_json files))
plain_files [] = tt
plain_files (file ∷ files) = ((tt, (tt, tt)), plain_files files)

files_utf8 : (files : Files) → All IsFile files → ItemsHaveUtf8 (items_of (map file_json files))
files_utf8 [] h = tt
files_utf8 (file ∷ files) h =
    let first = first_of_all file files h in
    ((IsUtf8-IsPath file.0 first.0, (IsUtf8-encode_lower file.1, tt)), files_utf8 files (rest_of file files h))

files_depth : (files : Files) → items_depth (items_of (map file_json files)) ≤ 1
files_depth [] = omega arith
files_depth (file ∷ files) = let rest = files_depth files in omega arith

-- ---- the text

pub has_float-entry_json : (entry : Entry) → has_float (entry_json entry) ≡ false
has_float-entry_json entry = rw (no_float entry.files, has_float-json_of Stored (as_short entry.value)) refl

module _ (entry : Entry) (parts : HasParts entry) where
  plain : IsPlain (entry_json entry)
  plain =
      let within : entry.generation < 2 ^ 64 = omega (arith, parts.generation) in
      (within, refl, (plain_files entry.files, refl, (tt, refl, (tt, refl, (IsPlain-stored (as_short entry.value) parts.value, refl, (omega arith, tt, tt))))))

  utf8 : HasUtf8 (entry_json entry)
  utf8 = (
    IsUtf8-are_ascii _ refl,
    tt,
    (
      IsUtf8-are_ascii _ refl,
      files_utf8 entry.files parts.files,
      (
        IsUtf8-are_ascii _ refl,
        IsUtf8-encode_lower entry.input,
        (IsUtf8-are_ascii _ refl, parts.task, (IsUtf8-are_ascii _ refl, HasUtf8-stored (as_short entry.value) parts.value, (IsUtf8-are_ascii _ refl, tt, tt))),
      ),
    ),
  )

  not_deep : depth (as_short entry.value) ≤ 64 → json.depth (entry_json entry) ≤ max_depth
  not_deep shallow = let value = depth-stored (as_short entry.value) in let files = files_depth entry.files in omega arith

  pub IsUtf8-entry_text : IsUtf8 (entry_text entry)
  IsUtf8-entry_text = IsUtf8-compact_text (entry_json entry) plain utf8

  pub read-entry_text : depth (as_short entry.value) ≤ 64 → read (entry_text entry) ≡ Some (entry_json entry)
  read-entry_text shallow = read-compact_text (entry_json entry) plain (not_deep shallow)

-- ---- an entry is told by its text

same_digest : (a b : List ℕ) → IsDigest a → IsDigest b → encode_lower a ≡ encode_lower b → a ≡ b
same_digest a b h k same =
    let first = digest_of-encode_lower a h in
    let second = digest_of-encode_lower b k in
    let both : Some a ≡ Some b = sym first ∙ ap digest_of same ∙ second in
    cc

same_file : (f g : List ℕ × List ℕ) → IsFile f → IsFile g → file_json f ≡ file_json g → f ≡ g
same_file f g h k same =
    let name : f.0 ≡ g.0 = cc in
    let hex : encode_lower f.1 ≡ encode_lower g.1 = cc in
    let digest = same_digest f.1 g.1 h.1 k.1 hex in
    ap₂ (λ (a b : List ℕ). (a, b)) name digest

same_files : (fs gs : Files) → All IsFile fs → All IsFile gs → map file_json fs ≡ map file_json gs → fs ≡ gs
same_files [] [] h k same = refl
same_files [] (g ∷ gs) h k same = absurd (cc)
same_files (f ∷ fs) [] h k same = absurd (cc)
same_files (f ∷ fs) (g ∷ gs) h k same =
    let first : file_json f ≡ file_json g = cc in
    let rest : map file_json fs ≡ map file_json gs = cc in
    ap₂ (λ (x : List ℕ × List ℕ) (xs : Files). x ∷ xs) (same_file f g (first_of_all f fs h) (first_of_all g gs k) first)
    (same_files fs gs (rest_of f fs h) (rest_of g gs k) rest)

same_value : (v w : Value) → IsShort (as_short v) → IsShort (as_short w) → stored_json (as_short v) ≡ stored_json (as_short w) → v ≡ w
same_value v w h k same =
    let first = value_of-stored (as_short v) h in
    let second = value_of-stored (as_short w) k in
    let both : Some (as_short v) ≡ Some (as_short w) = sym first ∙ ap value_of same ∙ second in
    as_short-injective v w (cc)

same_entry : (e f : Entry) → e.task ≡ f.task → e.input ≡ f.input → e.generation ≡ f.generation → e.files ≡ f.files → e.value ≡ f.value → e ≡ f
same_entry e f task input generation files value = λ i. record { task = task i; input = input i; generation = generation i; files = files i; value = value i }

pub entry_json-injective : (e f : Entry) → HasParts e → HasParts f → entry_json e ≡ entry_json f → e ≡ f
entry_json-injective e f h k same =
    let generation : e.generation ≡ f.generation = cc in
    let hex : encode_lower e.input ≡ encode_lower f.input = cc in
    let task : e.task ≡ f.task = cc in
    let items : items_of (map file_json e.files) ≡ items_of (map file_json f.files) = cc in
    let value : stored_json (as_short e.value) ≡ stored_json (as_short f.value) = cc in
    same_entry e f task (same_digest e.input f.input h.input k.input hex) generation (same_files e.files f.files h.files k.files (items_of-injective _ _ items))
    (same_value e.value f.value h.value k.value value)

pub entry_text-injective : (e f : Entry) → HasParts e → HasParts f → entry_text e ≡ entry_text f → e ≡ f
entry_text-injective e f h k same = entry_json-injective e f h k (compact_text-injective (entry_json e) (entry_json f) (plain e h) (plain f k) same)

-- ---- bytes that keep an entry

module _ (bytes : List ℕ) (entry : Entry) (h : Keeps bytes entry) where
  read-keeps : read bytes ≡ Some (entry_json entry)
  read-keeps = ap read (sym h.text) ∙ read-entry_text entry h.parts h.shallow

  pub not_json : (IsUtf8 bytes → read bytes ≡ None) → ⊥
  not_json none =
      let not_read = none (subst IsUtf8 h.text (IsUtf8-entry_text entry h.parts)) in
      let clash : Some (entry_json entry) ≡ None = sym read-keeps ∙ not_read in
      cc

  pub json-keeps : (d : Data) → read bytes ≡ Some d → d ≡ entry_json entry
  json-keeps d is = let same : Some d ≡ Some (entry_json entry) = sym is ∙ read-keeps in cc
