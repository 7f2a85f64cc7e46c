-- What the store keeps of a task's last run: JSON (RFC 8259) with no blanks outside strings.
use Rattle.std.specs.Prelude.{◌≡◌, ℕ, ◌^◌, ◌<◌, ◌≤◌, List, length, map, codes, All, IsTrue, IsUtf8}
use Rattle.std.specs.FinMap.Entries.{is_sorted}
use Rattle.hex.specs.Hex.{encode_lower}
use Rattle.serde_json.specs.Data.{Data, number, string, array, object, unsigned, no_items, item, no_members, member}
use Rattle.serde_json.specs.View.{items_of}
use Rattle.serde_json.specs.Written.{compact_text}
use Rattle.tree_value.specs.Digests.{IsDigest}
use Rattle.tree_value.specs.Paths.{IsPath}
use Rattle.tree_value.specs.Trees.{path_cmp}
use Rattle.value_text.specs.Short.{IsShort, as_short, depth}
use Rattle.value_text.specs.Texts.{stored_json}
use Rattle.out_entry.specs.declared.entry.Entry.{Entry}

-- a file as `["path","hex"]`
abbrev pub file_json : List ℕ × List ℕ → Data
file_json file = array (item (string file.0) (item (string (encode_lower file.1)) no_items))

-- the members of an entry, in the order of their keys
abbrev pub entry_json : Entry → Data
entry_json entry =
    object (member (codes "dest") (number (unsigned entry.generation))
    (member (codes "files") (array (items_of (map file_json entry.files)))
    (member (codes "input") (string (encode_lower entry.input))
    (member (codes "task") (string entry.task)
    (member (codes "value") (stored_json (as_short entry.value))
    (member (codes "version") (number (unsigned 1)) no_members))))))

abbrev pub entry_text : Entry → List ℕ
entry_text entry = compact_text (entry_json entry)

abbrev pub IsFileName : List ℕ × List ℕ → Type 0
IsFileName file = (0 < length file.0) × (length file.0 ≤ 700)

-- generations are counted from 1, and the files are under rising paths of 1 to 700 bytes
pub record IsEntry (entry : Entry) : Type 0 where
  pub counted : 1 ≤ entry.generation
  pub named : All IsFileName entry.files
  pub rising : IsTrue (is_sorted path_cmp entry.files)

abbrev pub IsFile : List ℕ × List ℕ → Type 0
IsFile file = IsPath file.0 × IsDigest file.1

-- each part is what its type keeps
pub record HasParts (entry : Entry) : Type 0 where
  pub task : IsUtf8 entry.task
  pub input : IsDigest entry.input
  pub generation : entry.generation < 2 ^ 32
  pub files : All IsFile entry.files
  pub value : IsShort (as_short entry.value)

-- the bytes are those of the entry, whose value has at most 64 levels
pub record Keeps (bytes : List ℕ) (entry : Entry) : Type 0 where
  pub parts : HasParts entry
  pub whole : IsEntry entry
  pub shallow : depth (as_short entry.value) ≤ 64
  pub text : entry_text entry ≡ bytes

-- where the JSON is that of an entry, P holds of that entry
abbrev pub ForEntry : Data → (Entry → Type 0) → Type 0
ForEntry json P = (entry : Entry) → HasParts entry → json ≡ entry_json entry → P entry
