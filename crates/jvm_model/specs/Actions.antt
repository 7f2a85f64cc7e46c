-- The actions of instructions that stay in their frame, by their rows in the table (JVMS 6.5).
use Rattle.std.specs.Prelude.{ℕ, ℤ, pos, unsigned_abs, true, false, List, [], ◌∷◌, Option, Some, None, option_map, if◌then◌else◌}
use Rattle.jvm_tables.specs.declared.instruction.ValueKind.TheVariants as values
use Rattle.jvm_tables.specs.declared.instruction.Operation.{Operation}
use Rattle.jvm_tables.specs.declared.instruction.Operation.TheVariants as operations
use Rattle.jvm_tables.specs.declared.instruction.OpRow.{OpRow}
use Rattle.jvm_tables.specs.Agreement.{is_bare}
use Rattle.jvm_tables.specs.Switches.{target}
use Rattle.class_code.specs.Rows.{Line}
use Rattle.jvm_model.specs.declared.action.Plain.{Plain}
use Rattle.jvm_model.specs.declared.action.Plain.TheVariants as plains
use Rattle.jvm_model.specs.declared.action.Test.{Test}
use Rattle.jvm_model.specs.declared.action.Test.TheVariants as tests
use Rattle.jvm_model.specs.declared.action.Rearrangement.{Rearrangement}
use Rattle.jvm_model.specs.declared.action.Rearrangement.TheVariants as rearrangements
use Rattle.jvm_model.specs.declared.action.Action.{Action}
use Rattle.jvm_model.specs.declared.action.Action.TheVariants as actions

abbrev pub first_of : List ℤ → ℤ
first_of [] = pos 0
first_of (n ∷ numbers) = n

abbrev pub second_of : List ℤ → ℤ
second_of [] = pos 0
second_of (n ∷ numbers) = first_of numbers

-- the number that the opcode implies, or its first operand
abbrev pub number_of : OpRow → Line → ℤ
number_of row line = if is_bare row.form then row.implied else first_of line.numbers

abbrev pub local_of : OpRow → Line → ℕ
local_of row line = unsigned_abs (number_of row line)

abbrev pub target_of : Line → ℕ
target_of line = target line.pc (first_of line.numbers)

abbrev pub plain_of : Operation → Option Plain
plain_of operations.AddInt = Some plains.AddInt
plain_of operations.AddLong = Some plains.AddLong
plain_of operations.SubtractInt = Some plains.SubtractInt
plain_of operations.SubtractLong = Some plains.SubtractLong
plain_of operations.MultiplyInt = Some plains.MultiplyInt
plain_of operations.MultiplyLong = Some plains.MultiplyLong
plain_of operations.DivideInt = Some plains.DivideInt
plain_of operations.DivideLong = Some plains.DivideLong
plain_of operations.RemainderInt = Some plains.RemainderInt
plain_of operations.RemainderLong = Some plains.RemainderLong
plain_of operations.NegateInt = Some plains.NegateInt
plain_of operations.NegateLong = Some plains.NegateLong
plain_of operations.ShiftLeftInt = Some plains.ShiftLeftInt
plain_of operations.ShiftLeftLong = Some plains.ShiftLeftLong
plain_of operations.ShiftRightInt = Some plains.ShiftRightInt
plain_of operations.ShiftRightLong = Some plains.ShiftRightLong
plain_of operations.UnsignedShiftRightInt = Some plains.UnsignedShiftRightInt
plain_of operations.UnsignedShiftRightLong = Some plains.UnsignedShiftRightLong
plain_of operations.AndInt = Some plains.AndInt
plain_of operations.AndLong = Some plains.AndLong
plain_of operations.OrInt = Some plains.OrInt
plain_of operations.OrLong = Some plains.OrLong
plain_of operations.XorInt = Some plains.XorInt
plain_of operations.XorLong = Some plains.XorLong
plain_of operations.IntToLong = Some plains.IntToLong
plain_of operations.LongToInt = Some plains.LongToInt
plain_of operations.IntToByte = Some plains.IntToByte
plain_of operations.IntToChar = Some plains.IntToChar
plain_of operations.IntToShort = Some plains.IntToShort
plain_of operations.CompareLong = Some plains.CompareLong
plain_of _ = None

abbrev pub rearrangement_of : Operation → Option Rearrangement
rearrangement_of operations.Pop = Some rearrangements.Pop
rearrangement_of operations.Pop2 = Some rearrangements.Pop2
rearrangement_of operations.Dup = Some rearrangements.Dup
rearrangement_of operations.DupX1 = Some rearrangements.DupX1
rearrangement_of operations.DupX2 = Some rearrangements.DupX2
rearrangement_of operations.Dup2 = Some rearrangements.Dup2
rearrangement_of operations.Dup2X1 = Some rearrangements.Dup2X1
rearrangement_of operations.Dup2X2 = Some rearrangements.Dup2X2
rearrangement_of operations.Swap = Some rearrangements.Swap
rearrangement_of _ = None

-- branches on ints
abbrev pub test_of : Operation → Option Test
test_of operations.IfEq = Some tests.Eq
test_of operations.IfNe = Some tests.Ne
test_of operations.IfLt = Some tests.Lt
test_of operations.IfGe = Some tests.Ge
test_of operations.IfGt = Some tests.Gt
test_of operations.IfLe = Some tests.Le
test_of _ = None

abbrev pub comparison_of : Operation → Option Test
comparison_of operations.IfIntsEq = Some tests.Eq
comparison_of operations.IfIntsNe = Some tests.Ne
comparison_of operations.IfIntsLt = Some tests.Lt
comparison_of operations.IfIntsGe = Some tests.Ge
comparison_of operations.IfIntsGt = Some tests.Gt
comparison_of operations.IfIntsLe = Some tests.Le
comparison_of _ = None

-- constants, locals and branches that are told by their operation alone
abbrev pub simple_of : Operation → OpRow → Line → Option Action
simple_of operations.Nop row line = Some actions.Nop
simple_of operations.PushNull row line = Some actions.PushNull
simple_of operations.PushInt row line = Some (actions.PushInt (number_of row line))
simple_of operations.PushLong row line = Some (actions.PushLong (number_of row line))
simple_of operations.LoadInt row line = Some (actions.Load values.Int (local_of row line))
simple_of operations.LoadLong row line = Some (actions.Load values.Long (local_of row line))
simple_of operations.LoadReference row line = Some (actions.Load values.Reference (local_of row line))
simple_of operations.StoreInt row line = Some (actions.Store values.Int (local_of row line))
simple_of operations.StoreLong row line = Some (actions.Store values.Long (local_of row line))
simple_of operations.StoreReference row line = Some (actions.Store values.Reference (local_of row line))
simple_of operations.IncrementInt row line = Some (actions.Increment (local_of row line) (second_of line.numbers))
simple_of operations.IfReferencesEq row line = Some (actions.IfReferences true (target_of line))
simple_of operations.IfReferencesNe row line = Some (actions.IfReferences false (target_of line))
simple_of operations.IfNull row line = Some (actions.IfNull true (target_of line))
simple_of operations.IfNonNull row line = Some (actions.IfNull false (target_of line))
simple_of operations.Goto row line = Some (actions.Goto (target_of line))
simple_of _ row line = None

abbrev pub or_else : {A : Type 0} → Option A → Option A → Option A
or_else None other = other
or_else (Some a) other = Some a

-- the action of an instruction that stays in its frame; None for all others
unfoldable pub action_of : OpRow → Line → Option Action
action_of row line =
    or_else (option_map actions.Plain (plain_of row.operation))
    (or_else (option_map actions.Rearrange (rearrangement_of row.operation))
    (or_else (option_map (λ t. actions.IfInt t (target_of line)) (test_of row.operation))
    (or_else (option_map (λ t. actions.IfInts t (target_of line)) (comparison_of row.operation))
    (simple_of row.operation row line))))
