-- What holds of every instruction that is decoded, and of every switch.
use Rattle.std.specs.Prelude.{◌≡◌, ◌≢◌, ℕ, ◌<◌, ◌≤◌, false, if◌then◌else◌, List, ◌∷◌, ◌++◌, length, take, slice_index, IsSomeAnd, Ok, ℤ, IsTrue}
use Rattle.std.specs.List.{AllByRecursion}
use Rattle.jvm_tables.specs.declared.code.Instr.{Instr}
use Rattle.jvm_tables.specs.Decoding.{decoding}
use Rattle.jvm_tables.specs.Opcodes.{row_of}
use Rattle.jvm_tables.specs.Switches.{keys_rise, target}
use Rattle.jvm_tables.specs.Switching.{IsSwitchAt, pairs_at, target_at}

-- It stands at its place, has a length, and ends within the code.
abbrev pub EndsWithin : Type 0
EndsWithin =
    (pc : ℕ) (bytes : List ℕ) (instr : Instr) → decoding pc bytes ≡ Ok instr → (instr.pc ≡ pc) × (0 < instr.length) × (instr.length ≤ length bytes)

-- Its opcode is the first byte, or the second behind `wide`, and has a row, which is no float use.
abbrev pub HasItsRow : Type 0
HasItsRow =
    (pc : ℕ) (bytes : List ℕ) (instr : Instr) → decoding pc bytes ≡ Ok instr → (slice_index bytes (if instr.wide then 1 else 0) ≡ instr.op) × IsSomeAnd (row_of instr.op) (λ row. row.is_float ≡ false)

-- Its opcode is never that of `wide`, which goes before another.
abbrev pub NeverWide : Type 0
NeverWide = (pc : ℕ) (bytes : List ℕ) (instr : Instr) → decoding pc bytes ≡ Ok instr → instr.op ≢ 196

-- Its own bytes decide, whatever stands after them.
abbrev pub OwnBytesDecide : Type 0
OwnBytesDecide =
    (pc : ℕ) (bytes more : List ℕ) (instr : Instr) → decoding pc bytes ≡ Ok instr → decoding pc (take instr.length bytes ++ more) ≡ Ok instr

-- The keys of a switch are in rising order.
abbrev pub KeysRise : Type 0
KeysRise = (code : List ℕ) (instr : Instr) → IsSwitchAt code instr → IsTrue (keys_rise (pairs_at code instr))

-- A key of a switch leads by its own offset.
abbrev pub KeyLeads : Type 0
KeyLeads =
    (code : List ℕ) (instr : Instr) (front back : List (ℤ × ℤ)) (pair : ℤ × ℤ) → IsSwitchAt code instr → pairs_at code instr ≡ front ++ (pair ∷ back) → target_at code instr pair.0 ≡ target instr.pc pair.1

-- Any other number leads by the default offset.
abbrev pub OthersLeadToDefault : Type 0
OthersLeadToDefault =
    (code : List ℕ) (instr : Instr) (key : ℤ) → AllByRecursion (λ (pair : ℤ × ℤ). pair.0 ≢ key) (pairs_at code instr) → target_at code instr key ≡ target instr.pc instr.first
