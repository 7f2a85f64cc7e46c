-- The names of a task's files among the results, as Mill has them: `foo/bar.json`, `foo/bar.log` and the files below
-- `foo/bar.dest/g1/` of the task `foo.bar`.
use Rattle.std.specs.Prelude.{◌≡◌, ℕ, ◌^◌, ◌<◌, ◌≤◌, ◌==◌, ◌||◌, Bool, false, List, ◌∷◌, ◌++◌, length, codes, slice_index, All, IsTrue}
use Rattle.std.specs.Char.{is_ascii_alphabetic, is_ascii_digit}
use Rattle.std.specs.Fmt.{decimal}
use Rattle.std.specs.List.{AllByRecursion, slice_split}
use Rattle.std.specs.Str.{byte}
use Rattle.value_text.specs.Texts.{slashed}

-- a letter, a digit, `-` or `_`
abbrev pub is_word_byte : ℕ → Bool
is_word_byte b = is_ascii_alphabetic b || is_ascii_digit b || b == byte "-" || b == byte "_"

-- a part of a task's name: a letter, and more letters, digits, `-` and `_`, of at most 64 bytes
pub record IsTaskPart (bytes : List ℕ) : Type 0 where
  pub some : 0 < length bytes
  pub within : length bytes ≤ 64
  pub letter : IsTrue (is_ascii_alphabetic (slice_index bytes 0))
  pub words : All (λ b. IsTrue (is_word_byte b)) bytes

-- parts joined by dots, of at most 255 bytes together
pub record IsTaskName (task : List ℕ) : Type 0 where
  pub within : length task ≤ 255
  pub parts : All IsTaskPart (slice_split (λ b. b == byte ".") task)

abbrev pub entry_name : List ℕ → List ℕ
entry_name task = slashed task ++ codes ".json"

abbrev pub log_name : List ℕ → List ℕ
log_name task = slashed task ++ codes ".log"

-- a file below the folder of a generation, by the task's folder and the digits of the generation's number
abbrev pub in_generation : List ℕ → List ℕ → List ℕ → List ℕ
in_generation folder digits path = folder ++ (codes ".dest/g" ++ digits ++ byte "/" ∷ path)

-- a file of the generation of this number
abbrev pub generation_name : List ℕ → ℕ → List ℕ → List ℕ
generation_name task number path = in_generation (slashed task) (decimal number) path

-- generations are counted from 1, in 32 bits
abbrev pub IsNumber : ℕ → Type 0
IsNumber number = (1 ≤ number) × (number < 2 ^ 32)

-- the name is of a file of this generation of the task
pub record IsOf (task : List ℕ) (number : ℕ) (name : List ℕ) : Type 0 where
  pub named : IsTaskName task
  pub counted : IsNumber number
  pub below : (path : List ℕ) × (name ≡ generation_name task number path)

-- the byte is none of these
abbrev pub Lacks : ℕ → List ℕ → Type 0
Lacks byte bytes = AllByRecursion (λ b. (b == byte) ≡ false) bytes

-- the bytes are cut at the first such byte
pub record IsCut (byte : ℕ) (bytes before behind : List ℕ) : Type 0 where
  pub lacks : Lacks byte before
  pub whole : bytes ≡ before ++ byte ∷ behind
