-- What each operation takes off the operand stack and gives there (JVMS 6.5, 'Operand Stack').
use Rattle.std.specs.Prelude.{ℕ, ◌+◌}
use Rattle.jvm_tables.specs.declared.instruction.Operands.{Operands}
use Rattle.jvm_tables.specs.declared.instruction.Operands.TheVariants.{Nothing, Int, Long, Reference, IntInt, LongLong, LongInt, ReferenceInt, ReferenceIntInt, ReferenceIntLong, ReferenceIntReference, ReferenceReference, Slots, ByConstant, ReferenceByConstant, IntForEachDimension, Float}
use Rattle.jvm_tables.specs.declared.instruction.Operation.{Operation}
use Rattle.jvm_tables.specs.declared.instruction.Operation.TheVariants as operations

-- So many slots are repeated, and their copy is put beneath them and as many more. All other effects are pairs of
-- what is taken and what is given.
abbrev pub duplicates : ℕ → ℕ → Operands × Operands
duplicates repeated beneath = (Slots (repeated + beneath), Slots (repeated + repeated + beneath))

-- two values of int, or two of long, give one
abbrev pub of_two_ints : Operands × Operands
of_two_ints = (IntInt, Int)

abbrev pub of_two_longs : Operands × Operands
of_two_longs = (LongLong, Long)

abbrev pub stack_effect : Operation → Operands × Operands
-- constants
stack_effect operations.Nop = (Nothing, Nothing)
stack_effect operations.PushNull = (Nothing, Reference)
stack_effect operations.PushInt = (Nothing, Int)
stack_effect operations.PushLong = (Nothing, Long)
stack_effect operations.PushConstant = (Nothing, ByConstant)
stack_effect operations.PushLongConstant = (Nothing, Long)
-- locals
stack_effect operations.LoadInt = (Nothing, Int)
stack_effect operations.LoadLong = (Nothing, Long)
stack_effect operations.LoadReference = (Nothing, Reference)
stack_effect operations.StoreInt = (Int, Nothing)
stack_effect operations.StoreLong = (Long, Nothing)
stack_effect operations.StoreReference = (Reference, Nothing)
stack_effect operations.IncrementInt = (Nothing, Nothing)
-- elements: the array, the index, and the value on top
stack_effect operations.LoadIntElement = (ReferenceInt, Int)
stack_effect operations.LoadLongElement = (ReferenceInt, Long)
stack_effect operations.LoadReferenceElement = (ReferenceInt, Reference)
stack_effect operations.LoadByteElement = (ReferenceInt, Int)
stack_effect operations.LoadCharElement = (ReferenceInt, Int)
stack_effect operations.LoadShortElement = (ReferenceInt, Int)
stack_effect operations.StoreIntElement = (ReferenceIntInt, Nothing)
stack_effect operations.StoreLongElement = (ReferenceIntLong, Nothing)
stack_effect operations.StoreReferenceElement = (ReferenceIntReference, Nothing)
stack_effect operations.StoreByteElement = (ReferenceIntInt, Nothing)
stack_effect operations.StoreCharElement = (ReferenceIntInt, Nothing)
stack_effect operations.StoreShortElement = (ReferenceIntInt, Nothing)
-- slots of any kind
stack_effect operations.Pop = (Slots 1, Nothing)
stack_effect operations.Pop2 = (Slots 2, Nothing)
stack_effect operations.Dup = duplicates 1 0
stack_effect operations.DupX1 = duplicates 1 1
stack_effect operations.DupX2 = duplicates 1 2
stack_effect operations.Dup2 = duplicates 2 0
stack_effect operations.Dup2X1 = duplicates 2 1
stack_effect operations.Dup2X2 = duplicates 2 2
stack_effect operations.Swap = (Slots 2, Slots 2)
-- arithmetic
stack_effect operations.AddInt = of_two_ints
stack_effect operations.SubtractInt = of_two_ints
stack_effect operations.MultiplyInt = of_two_ints
stack_effect operations.DivideInt = of_two_ints
stack_effect operations.RemainderInt = of_two_ints
stack_effect operations.ShiftLeftInt = of_two_ints
stack_effect operations.ShiftRightInt = of_two_ints
stack_effect operations.UnsignedShiftRightInt = of_two_ints
stack_effect operations.AndInt = of_two_ints
stack_effect operations.OrInt = of_two_ints
stack_effect operations.XorInt = of_two_ints
stack_effect operations.AddLong = of_two_longs
stack_effect operations.SubtractLong = of_two_longs
stack_effect operations.MultiplyLong = of_two_longs
stack_effect operations.DivideLong = of_two_longs
stack_effect operations.RemainderLong = of_two_longs
stack_effect operations.AndLong = of_two_longs
stack_effect operations.OrLong = of_two_longs
stack_effect operations.XorLong = of_two_longs
stack_effect operations.ShiftLeftLong = (LongInt, Long)
stack_effect operations.ShiftRightLong = (LongInt, Long)
stack_effect operations.UnsignedShiftRightLong = (LongInt, Long)
stack_effect operations.NegateInt = (Int, Int)
stack_effect operations.NegateLong = (Long, Long)
stack_effect operations.IntToLong = (Int, Long)
stack_effect operations.LongToInt = (Long, Int)
stack_effect operations.IntToByte = (Int, Int)
stack_effect operations.IntToChar = (Int, Int)
stack_effect operations.IntToShort = (Int, Int)
stack_effect operations.CompareLong = (LongLong, Int)
-- control
stack_effect operations.IfEq = (Int, Nothing)
stack_effect operations.IfNe = (Int, Nothing)
stack_effect operations.IfLt = (Int, Nothing)
stack_effect operations.IfGe = (Int, Nothing)
stack_effect operations.IfGt = (Int, Nothing)
stack_effect operations.IfLe = (Int, Nothing)
stack_effect operations.IfIntsEq = (IntInt, Nothing)
stack_effect operations.IfIntsNe = (IntInt, Nothing)
stack_effect operations.IfIntsLt = (IntInt, Nothing)
stack_effect operations.IfIntsGe = (IntInt, Nothing)
stack_effect operations.IfIntsGt = (IntInt, Nothing)
stack_effect operations.IfIntsLe = (IntInt, Nothing)
stack_effect operations.IfReferencesEq = (ReferenceReference, Nothing)
stack_effect operations.IfReferencesNe = (ReferenceReference, Nothing)
stack_effect operations.IfNull = (Reference, Nothing)
stack_effect operations.IfNonNull = (Reference, Nothing)
stack_effect operations.Goto = (Nothing, Nothing)
stack_effect operations.TableSwitch = (Int, Nothing)
stack_effect operations.LookupSwitch = (Int, Nothing)
stack_effect operations.ReturnInt = (Int, Nothing)
stack_effect operations.ReturnLong = (Long, Nothing)
stack_effect operations.ReturnReference = (Reference, Nothing)
stack_effect operations.Return = (Nothing, Nothing)
stack_effect operations.Throw = (Reference, Nothing)
-- fields, methods, classes and arrays
stack_effect operations.GetStatic = (Nothing, ByConstant)
stack_effect operations.PutStatic = (ByConstant, Nothing)
stack_effect operations.GetField = (Reference, ByConstant)
stack_effect operations.PutField = (ReferenceByConstant, Nothing)
stack_effect operations.InvokeVirtual = (ReferenceByConstant, ByConstant)
stack_effect operations.InvokeSpecial = (ReferenceByConstant, ByConstant)
stack_effect operations.InvokeInterface = (ReferenceByConstant, ByConstant)
stack_effect operations.InvokeStatic = (ByConstant, ByConstant)
stack_effect operations.InvokeDynamic = (ByConstant, ByConstant)
stack_effect operations.New = (Nothing, Reference)
stack_effect operations.NewArray = (Int, Reference)
stack_effect operations.NewReferenceArray = (Int, Reference)
stack_effect operations.NewMultiArray = (IntForEachDimension, Reference)
stack_effect operations.ArrayLength = (Reference, Int)
stack_effect operations.CheckCast = (Reference, Reference)
stack_effect operations.InstanceOf = (Reference, Int)
stack_effect operations.MonitorEnter = (Reference, Nothing)
stack_effect operations.MonitorExit = (Reference, Nothing)
stack_effect operations.Wide = (Nothing, Nothing)
stack_effect operations.Float = (Float, Float)
