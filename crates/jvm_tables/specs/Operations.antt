-- What each operation does beside its effect on the operand stack (JVMS 6.5).
use Rattle.std.specs.Prelude.{Bool, true, false, Option, Some, None}
use Rattle.jvm_tables.specs.declared.instruction.ConstantUse.{ConstantUse}
use Rattle.jvm_tables.specs.declared.instruction.ConstantUse.TheVariants as constants
use Rattle.jvm_tables.specs.declared.instruction.Flow.{Flow}
use Rattle.jvm_tables.specs.declared.instruction.Flow.TheVariants as flows
use Rattle.jvm_tables.specs.declared.instruction.Operation.{Operation}
use Rattle.jvm_tables.specs.declared.instruction.Operation.TheVariants.{PushConstant, PushLongConstant, LoadInt, LoadLong, LoadReference, StoreInt, StoreLong, StoreReference, LoadIntElement, LoadLongElement, LoadReferenceElement, LoadByteElement, LoadCharElement, LoadShortElement, StoreIntElement, StoreLongElement, StoreReferenceElement, StoreByteElement, StoreCharElement, StoreShortElement, DivideInt, DivideLong, RemainderInt, RemainderLong, IncrementInt, IfEq, IfNe, IfLt, IfGe, IfGt, IfLe, IfIntsEq, IfIntsNe, IfIntsLt, IfIntsGe, IfIntsGt, IfIntsLe, IfReferencesEq, IfReferencesNe, IfNull, IfNonNull, Goto, TableSwitch, LookupSwitch, ReturnInt, ReturnLong, ReturnReference, Return, GetStatic, PutStatic, GetField, PutField, InvokeVirtual, InvokeSpecial, InvokeStatic, InvokeInterface, InvokeDynamic, New, NewArray, NewReferenceArray, NewMultiArray, ArrayLength, Throw, CheckCast, InstanceOf, MonitorEnter, MonitorExit, Float}
use Rattle.jvm_tables.specs.declared.instruction.Throws.{Throws}
use Rattle.jvm_tables.specs.declared.instruction.Throws.TheVariants as throws
use Rattle.jvm_tables.specs.declared.instruction.ValueKind.{ValueKind}
use Rattle.jvm_tables.specs.declared.instruction.ValueKind.TheVariants as kinds

-- the kind of the local that is read
abbrev pub kind_read : Operation → Option ValueKind
kind_read LoadInt = Some kinds.Int
kind_read LoadLong = Some kinds.Long
kind_read LoadReference = Some kinds.Reference
kind_read IncrementInt = Some kinds.Int
kind_read _ = None

-- the kind of the local that is written
abbrev pub kind_written : Operation → Option ValueKind
kind_written StoreInt = Some kinds.Int
kind_written StoreLong = Some kinds.Long
kind_written StoreReference = Some kinds.Reference
kind_written IncrementInt = Some kinds.Int
kind_written _ = None

-- where control goes if nothing is thrown
abbrev pub flow_of : Operation → Flow
flow_of IfEq = flows.Branch
flow_of IfNe = flows.Branch
flow_of IfLt = flows.Branch
flow_of IfGe = flows.Branch
flow_of IfGt = flows.Branch
flow_of IfLe = flows.Branch
flow_of IfIntsEq = flows.Branch
flow_of IfIntsNe = flows.Branch
flow_of IfIntsLt = flows.Branch
flow_of IfIntsGe = flows.Branch
flow_of IfIntsGt = flows.Branch
flow_of IfIntsLe = flows.Branch
flow_of IfReferencesEq = flows.Branch
flow_of IfReferencesNe = flows.Branch
flow_of IfNull = flows.Branch
flow_of IfNonNull = flows.Branch
flow_of Goto = flows.Jump
flow_of TableSwitch = flows.Switch
flow_of LookupSwitch = flows.Switch
flow_of ReturnInt = flows.Return
flow_of ReturnLong = flows.Return
flow_of ReturnReference = flows.Return
flow_of Return = flows.Return
flow_of Throw = flows.Throw
flow_of _ = flows.Next

-- what may be thrown (JVMS 6.5, 'Linking Exceptions' and 'Run-time Exceptions')
abbrev pub may_throw : Operation → Throws
may_throw PushConstant = throws.Constant
may_throw LoadIntElement = throws.ArrayAccess
may_throw LoadLongElement = throws.ArrayAccess
may_throw LoadReferenceElement = throws.ArrayAccess
may_throw LoadByteElement = throws.ArrayAccess
may_throw LoadCharElement = throws.ArrayAccess
may_throw LoadShortElement = throws.ArrayAccess
may_throw StoreIntElement = throws.ArrayAccess
may_throw StoreLongElement = throws.ArrayAccess
may_throw StoreByteElement = throws.ArrayAccess
may_throw StoreCharElement = throws.ArrayAccess
may_throw StoreShortElement = throws.ArrayAccess
may_throw StoreReferenceElement = throws.ArrayStore
may_throw DivideInt = throws.Division
may_throw DivideLong = throws.Division
may_throw RemainderInt = throws.Division
may_throw RemainderLong = throws.Division
may_throw GetStatic = throws.Anything
may_throw PutStatic = throws.Anything
may_throw GetField = throws.Field
may_throw PutField = throws.Field
may_throw InvokeVirtual = throws.Anything
may_throw InvokeSpecial = throws.Anything
may_throw InvokeStatic = throws.Anything
may_throw InvokeInterface = throws.Anything
may_throw InvokeDynamic = throws.Anything
may_throw New = throws.Anything
may_throw NewArray = throws.NewArray
may_throw NewReferenceArray = throws.NewReferenceArray
may_throw NewMultiArray = throws.NewReferenceArray
may_throw ArrayLength = throws.ArrayLength
may_throw Throw = throws.Anything
may_throw CheckCast = throws.Cast
may_throw InstanceOf = throws.ClassTest
may_throw MonitorEnter = throws.Monitor
may_throw MonitorExit = throws.Monitor
may_throw _ = throws.Nothing

-- the constant that it names
abbrev pub constant_of : Operation → ConstantUse
constant_of PushConstant = constants.Loadable
constant_of PushLongConstant = constants.LoadableLong
constant_of GetStatic = constants.Field
constant_of PutStatic = constants.Field
constant_of GetField = constants.Field
constant_of PutField = constants.Field
constant_of InvokeVirtual = constants.Method
constant_of InvokeSpecial = constants.AnyMethod
constant_of InvokeStatic = constants.AnyMethod
constant_of InvokeInterface = constants.InterfaceMethod
constant_of InvokeDynamic = constants.CallSite
constant_of New = constants.Class
constant_of NewReferenceArray = constants.Class
constant_of NewMultiArray = constants.Class
constant_of CheckCast = constants.Class
constant_of InstanceOf = constants.Class
constant_of _ = constants.Nothing

-- whether it initialises the class that its constant names or finds (JVMS 5.5)
abbrev pub initialises : Operation → Bool
initialises GetStatic = true
initialises PutStatic = true
initialises InvokeStatic = true
initialises New = true
initialises _ = false

-- whether it works on floats or doubles
abbrev pub is_float : Operation → Bool
is_float Float = true
is_float _ = false
