-- The text behind a task's input hash, and the texts that are digested on the way.
use Rattle.std.specs.Prelude.{◌≡◌, ℕ, ℤ, ◌<◌, ◌^◌, List, [], ◌∷◌, ◌++◌, length, map, flat_map, Contains, codes, Option, Some, None}
use Rattle.std.specs.Option.{option_map, option_map_or}
use Rattle.std.specs.List.{filter_map}
use Rattle.hex.specs.Hex.{encode_lower}
use Rattle.sha2.specs.Sha256.{sha256}
use Rattle.io_traits.specs.Files.{Files}
use Rattle.class_read.specs.ClassFiles.{class_files}
use Rattle.tree_value.specs.Nets.{net}
use Rattle.value_text.specs.Short.{int}
use Rattle.value_text.specs.Texts.{stored_text}
use Rattle.mill_top.specs.declared.recorded.Record.{Record}
use Rattle.mill_top.specs.declared.task_file.TaskFile.{TaskFile}
use Rattle.mill_top.specs.Graphs.{task_in, inputs_of, descriptor_of}
use Rattle.mill_top.specs.Scratch.{scratch, value_of}

-- the texts of a list, each as a net
abbrev pub nets : List (List ℕ) → List ℕ
nets texts = flat_map net texts

-- each file's path and bytes
abbrev pub paths_and_bytes : Files → List (List ℕ)
paths_and_bytes files = flat_map (λ file. file.0 ∷ file.1 ∷ []) files

-- the one row of a method's text: every class file of the record
unfoldable pub whole_row : Record → List ℕ
whole_row inputs = nets (codes "W" ∷ paths_and_bytes (class_files inputs.files))

-- the class, the name and the descriptor of the method of a file's task
abbrev pub method_of : TaskFile → List (List ℕ)
method_of file = (file.class ∷ []) ∷ (file.task ∷ []) ∷ descriptor_of file.body ∷ []

-- the text behind the hash of a task's method
unfoldable pub method_text : Record → List ℕ → List ℕ
method_text inputs task = nets (codes "method1" ∷ option_map_or method_of (task_in inputs.files task) [] ++ whole_row inputs ∷ [])

-- the text that a value is stored as
unfoldable pub value_text : ℤ → List ℕ
value_text value = stored_text (int value)

-- the digest of the value of an input
abbrev pub value_fields : ℤ → List (List ℕ)
value_fields value = codes "v" ∷ encode_lower (sha256 (value_text value)) ∷ []

-- the text behind a task's input hash: its name, kind and budget, the hash of its method, and the values of its inputs
unfoldable pub input_text : Record → List ℕ → List ℤ → List ℕ
input_text inputs task values =
    nets (codes "input1" ∷ task ∷ codes "cached" ∷ codes "10000000" ∷ encode_lower (sha256 (method_text inputs task)) ∷ flat_map value_fields values)

unfoldable pub input_hash : Record → List ℕ → List ℤ → List ℕ
input_hash inputs task values = sha256 (input_text inputs task values)

-- the names of a task's inputs
abbrev pub input_names : Files → List ℕ → List (List ℕ)
input_names files task = option_map_or (λ file. map (λ input. input ∷ []) (inputs_of file.body)) (task_in files task) []

-- the values of a task's inputs, evaluated from scratch
unfoldable pub scratch_values : Record → List ℕ → List ℤ
scratch_values inputs task = filter_map (λ name. option_map value_of (scratch inputs name)) (input_names inputs.files task)

-- a record and a task that was run over it
pub record Run : Type 0 where
  pub inputs : Record
  pub task : List ℕ

-- the texts that are digested for a run
abbrev pub texts : Run → List (List ℕ)
texts run =
    method_text run.inputs run.task
    ∷ input_text run.inputs run.task (scratch_values run.inputs run.task)
    ∷ map value_text (scratch_values run.inputs run.task)

-- no collision: two of the texts with equal digests are equal
abbrev pub Clean : List (List ℕ) → Type 0
Clean all = (a b : List ℕ) → Contains all a → Contains all b → sha256 a ≡ sha256 b → a ≡ b

-- the texts that are digested for a task were held in memory, so that their lengths are numbers of 64 bits
pub record IsDigested (inputs : Record) (task : List ℕ) (values : List ℤ) : Type 0 where
  pub method : length (method_text inputs task) < 2 ^ 64
  pub input : length (input_text inputs task values) < 2 ^ 64
