-- Small class files (JVMS 4.1): one class with one task, whose method returns an int constant.
use Rattle.std.specs.Prelude.{Bool, ℕ, ℤ, pos, ◌-ℤ◌, List, set, slice_index, nat_le, ◌&&◌, if◌then◌else◌, Option, Some, None}
use Rattle.std.specs.Str.{bytes_eq}
use Rattle.mill_top.specs.declared.small_file.SmallFile.{SmallFile}
use Rattle.mill_top.specs.declared.small_file.TheConstants.{SMALL_TEMPLATE}

-- `A` to `Z`, the name of a class
abbrev pub is_class_letter : ℕ → Bool
is_class_letter c = nat_le 65 c && nat_le c 90

-- `a` to `z`, the name of a task
abbrev pub is_task_letter : ℕ → Bool
is_task_letter c = nat_le 97 c && nat_le c 122

-- `iconst_m1` to `iconst_5` (JVMS 6.5)
abbrev pub is_constant_opcode : ℕ → Bool
is_constant_opcode opcode = nat_le 2 opcode && nat_le opcode 8

-- the int that such an opcode pushes
abbrev pub constant : ℕ → ℤ
constant opcode = pos opcode -ℤ pos 3

-- the file's bytes: the example's, with the names of class and task and the constant's opcode in their places
unfoldable pub small_file : SmallFile → List ℕ
small_file file = set (set (set SMALL_TEMPLATE 13 file.class) 42 file.task) 139 file.opcode

-- the free bytes are such as may stand there
abbrev pub is_small_within : SmallFile → Bool
is_small_within file = is_class_letter file.class && (is_task_letter file.task && is_constant_opcode file.opcode)

-- what the bytes of a file would have as its free bytes
abbrev pub small_free : List ℕ → SmallFile
small_free bytes = record { class = slice_index bytes 13; task = slice_index bytes 42; opcode = slice_index bytes 139 }

-- whether these are the file's bytes, and its free bytes are such
unfoldable pub is_small_file : SmallFile → List ℕ → Bool
is_small_file file bytes = is_small_within file && bytes_eq bytes (small_file file)

-- the small file of these bytes
unfoldable pub small_of : List ℕ → Option SmallFile
small_of bytes = if is_small_file (small_free bytes) bytes then Some (small_free bytes) else None
