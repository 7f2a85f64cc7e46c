-- The texts of values: JSON (RFC 8259) with no blanks outside strings.
use Rattle.std.specs.Prelude.{ℕ, ℤ, List, ◌++◌, codes, map, length, ◌==◌, if◌then◌else◌}
use Rattle.hex.specs.Hex.{encode_lower}
use Rattle.serde_json.specs.Data.{Data, null, boolean, number, string, array, object, Items, no_items, item, no_members, member}
use Rattle.serde_json.specs.Find.{of_integer}
use Rattle.serde_json.specs.Written.{compact_text}
use Rattle.value_text.specs.Short as value
use Rattle.value_text.specs.Short.{Short, Shorts}
use Rattle.value_text.specs.declared.form.Form.{Form}
use Rattle.value_text.specs.declared.form.Form.TheVariants.{Stored, Printed}

-- the name of a task as a path: `foo/bar` of `foo.bar`
abbrev pub slashed : List ℕ → List ℕ
slashed task = map (λ b. if b == 46 then 47 else b) task

-- the folder of a task's files: `out/foo/bar.dest` of `foo.bar`
abbrev pub dest_folder : List ℕ → List ℕ
dest_folder task = codes "out/" ++ slashed task ++ codes ".dest"

-- a path in a task's folder, or the folder itself
abbrev pub dest_path : List ℕ → List ℕ → List ℕ
dest_path task path = if length path == 0 then dest_folder task else dest_folder task ++ codes "/" ++ path

-- a path of the workspace where there is no owner
abbrev pub printed_path : List ℕ → List ℕ → List ℕ
printed_path owner path = if length owner == 0 then path else dest_path owner path

-- `ref:v0:hex:path`
abbrev pub reference_text : List ℕ → List ℕ → List ℕ → List ℕ
reference_text owner path hex = codes "ref:v0:" ++ hex ++ codes ":" ++ printed_path owner path

-- a long is `{"l":n}` as it is stored
abbrev pub long_json : Form → ℤ → Data
long_json Stored n = object (member (codes "l") (number (of_integer n)) no_members)
long_json Printed n = number (of_integer n)

-- a reference is `{"r":["owner","path","hex"]}` as it is stored, and a string as it is printed
abbrev pub reference_json : Form → List ℕ → List ℕ → List ℕ → Data
reference_json Stored owner path digest =
    object (member (codes "r") (array (item (string owner) (item (string path) (item (string (encode_lower digest)) no_items)))) no_members)
reference_json Printed owner path digest = string (reference_text owner path (encode_lower digest))

abbrev mutual
  pub json_of : Form → Short → Data
  json_of form value.null = null
  json_of form (value.boolean b) = boolean b
  json_of form (value.int n) = number (of_integer n)
  json_of form (value.long n) = long_json form n
  json_of form (value.text s) = string s
  json_of form (value.list vs) = array (items_of form vs)
  json_of form (value.reference owner path digest) = reference_json form owner path digest

  pub items_of : Form → Shorts → Items
  items_of form value.no_values = no_items
  items_of form (value.value v vs) = item (json_of form v) (items_of form vs)

-- the JSON that a value is stored as
abbrev pub stored_json : Short → Data
stored_json v = json_of Stored v

abbrev pub stored_text : Short → List ℕ
stored_text v = compact_text (stored_json v)

-- the text of a value as it is shown
abbrev pub printed_text : Short → List ℕ
printed_text v = compact_text (json_of Printed v)
