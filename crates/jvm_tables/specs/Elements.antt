-- The element types of arrays of numbers and booleans (JVMS 6.5, newarray).
use Rattle.std.specs.Prelude.{◌≡◌, ℕ, List, Option, Some, None, if◌then◌else◌, Ok, ℤ, pos, IsSome}
use Rattle.std.specs.Ordering.{int_eq}
use Rattle.jvm_tables.specs.declared.code.Instr.{Instr}
use Rattle.jvm_tables.specs.declared.elements.ElementKind.{ElementKind}
use Rattle.jvm_tables.specs.declared.elements.ElementKind.TheVariants.{Boolean, Char, Float, Double, Byte, Short, Int, Long}
use Rattle.jvm_tables.specs.declared.instruction.Form.TheVariants as forms
use Rattle.jvm_tables.specs.Decoding.{decoding}
use Rattle.jvm_tables.specs.Opcodes.{row_of}
use Rattle.jvm_tables.specs.Switching.{form_of}

-- T_BOOLEAN to T_LONG
abbrev pub element_of : ℤ → Option ElementKind
element_of code =
    if int_eq code (pos 4) then Some Boolean
    else if int_eq code (pos 5) then Some Char
    else if int_eq code (pos 6) then Some Float
    else if int_eq code (pos 7) then Some Double
    else if int_eq code (pos 8) then Some Byte
    else if int_eq code (pos 9) then Some Short
    else if int_eq code (pos 10) then Some Int
    else if int_eq code (pos 11) then Some Long
    else None

-- A decoded instruction that has a code of an element type names one.
abbrev pub NamesElement : Type 0
NamesElement =
    (pc : ℕ) (bytes : List ℕ) (instr : Instr) → decoding pc bytes ≡ Ok instr → form_of (row_of instr.op) ≡ forms.ElementType → IsSome (element_of instr.first)
