-- Linked class files (JVMS 4.1): one class with one task that has one input, and whose method gives the input's int and
-- an int constant to one operation.
use Rattle.std.specs.Prelude.{Bool, ℕ, List, set, slice_index, ◌&&◌, ◌==◌, if◌then◌else◌, Option, Some, None, option_and_then}
use Rattle.std.specs.Str.{bytes_eq}
use Rattle.mill_top.specs.declared.linked_file.LinkedFile.{LinkedFile}
use Rattle.mill_top.specs.declared.linked_file.TheConstants.{LINKED_TEMPLATE}
use Rattle.mill_top.specs.declared.operation.Operation.{Operation}
use Rattle.mill_top.specs.declared.operation.Operation.TheVariants.{Sum, Difference, Product}
use Rattle.mill_top.specs.SmallFiles.{is_class_letter, is_task_letter, is_constant_opcode}

-- `iadd`, `isub` and `imul` (JVMS 6.5)
abbrev pub operation_opcode : Operation → ℕ
operation_opcode Sum = 0x60
operation_opcode Difference = 0x64
operation_opcode Product = 0x68

abbrev pub operation_of : ℕ → Option Operation
operation_of opcode =
    if opcode == 0x60 then Some Sum else (if opcode == 0x64 then Some Difference else (if opcode == 0x68 then Some Product else None))

-- the file's bytes: the example's, with the names of class, task and input, the constant's opcode and the operation's in
-- their places
unfoldable pub linked_file : LinkedFile → List ℕ
linked_file file =
    set (set (set (set (set LINKED_TEMPLATE 13 file.class) 42 file.task) 118 file.input) 154 file.opcode) 155 (operation_opcode file.operation)

-- the free bytes are such as may stand there
abbrev pub is_linked_within : LinkedFile → Bool
is_linked_within file =
    is_class_letter file.class && (is_task_letter file.task && (is_task_letter file.input && is_constant_opcode file.opcode))

-- what the bytes of a file with this operation would have as its free bytes
abbrev pub linked_free : List ℕ → Operation → LinkedFile
linked_free bytes operation = record {
  class = slice_index bytes 13;
  task = slice_index bytes 42;
  input = slice_index bytes 118;
  opcode = slice_index bytes 154;
  operation = operation;
}

-- whether these are the file's bytes, and its free bytes are such
unfoldable pub is_linked_file : LinkedFile → List ℕ → Bool
is_linked_file file bytes = is_linked_within file && bytes_eq bytes (linked_file file)

-- the file, if these are its bytes
abbrev pub if_linked_file : LinkedFile → List ℕ → Option LinkedFile
if_linked_file file bytes = if is_linked_file file bytes then Some file else None

-- the linked file of these bytes
unfoldable pub linked_of : List ℕ → Option LinkedFile
linked_of bytes = option_and_then (λ operation. if_linked_file (linked_free bytes operation) bytes) (operation_of (slice_index bytes 155))
