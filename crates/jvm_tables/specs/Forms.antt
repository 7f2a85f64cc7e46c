-- The operand forms that the opcodes of an operation have (JVMS 6.5, 'Format').
use Rattle.std.specs.Prelude.{Bool, true, false}
use Rattle.jvm_tables.specs.declared.instruction.Form.{Form}
use Rattle.jvm_tables.specs.declared.instruction.Form.TheVariants as forms
use Rattle.jvm_tables.specs.declared.instruction.Operation.{Operation}
use Rattle.jvm_tables.specs.declared.instruction.Operation.TheVariants.{PushInt, PushConstant, PushLongConstant, LoadInt, LoadLong, LoadReference, StoreInt, StoreLong, StoreReference, IncrementInt, IfEq, IfNe, IfLt, IfGe, IfGt, IfLe, IfIntsEq, IfIntsNe, IfIntsLt, IfIntsGe, IfIntsGt, IfIntsLe, IfReferencesEq, IfReferencesNe, IfNull, IfNonNull, Goto, TableSwitch, LookupSwitch, GetStatic, PutStatic, GetField, PutField, InvokeVirtual, InvokeSpecial, InvokeStatic, InvokeInterface, InvokeDynamic, New, NewArray, NewReferenceArray, NewMultiArray, CheckCast, InstanceOf, Wide}
use Rattle.jvm_tables.specs.Agreement.{is_bare, increments, has_target, has_dimensions}

-- implied by the opcode, a byte or two
abbrev pub of_number : Form → Bool
of_number forms.Bare = true
of_number forms.Byte = true
of_number forms.Short = true
of_number _ = false

-- implied by the opcode, or named
abbrev pub of_local : Form → Bool
of_local forms.Bare = true
of_local forms.Local = true
of_local _ = false

abbrev pub of_loadable : Form → Bool
of_loadable forms.ByteConstant = true
of_loadable forms.Constant = true
of_loadable _ = false

abbrev pub of_constant : Form → Bool
of_constant forms.Constant = true
of_constant _ = false

abbrev pub of_condition : Form → Bool
of_condition forms.Branch = true
of_condition _ = false

abbrev pub of_tableswitch : Form → Bool
of_tableswitch forms.TableSwitch = true
of_tableswitch _ = false

abbrev pub of_lookupswitch : Form → Bool
of_lookupswitch forms.LookupSwitch = true
of_lookupswitch _ = false

abbrev pub of_interface_call : Form → Bool
of_interface_call forms.InterfaceCall = true
of_interface_call _ = false

abbrev pub of_call_site : Form → Bool
of_call_site forms.CallSite = true
of_call_site _ = false

abbrev pub of_element_type : Form → Bool
of_element_type forms.ElementType = true
of_element_type _ = false

abbrev pub of_wide : Form → Bool
of_wide forms.Wide = true
of_wide _ = false

abbrev pub has_form : Operation → Form → Bool
has_form PushInt = of_number
has_form PushConstant = of_loadable
has_form PushLongConstant = of_constant
has_form LoadInt = of_local
has_form LoadLong = of_local
has_form LoadReference = of_local
has_form StoreInt = of_local
has_form StoreLong = of_local
has_form StoreReference = of_local
has_form IncrementInt = increments
has_form IfEq = of_condition
has_form IfNe = of_condition
has_form IfLt = of_condition
has_form IfGe = of_condition
has_form IfGt = of_condition
has_form IfLe = of_condition
has_form IfIntsEq = of_condition
has_form IfIntsNe = of_condition
has_form IfIntsLt = of_condition
has_form IfIntsGe = of_condition
has_form IfIntsGt = of_condition
has_form IfIntsLe = of_condition
has_form IfReferencesEq = of_condition
has_form IfReferencesNe = of_condition
has_form IfNull = of_condition
has_form IfNonNull = of_condition
has_form Goto = has_target
has_form TableSwitch = of_tableswitch
has_form LookupSwitch = of_lookupswitch
has_form GetStatic = of_constant
has_form PutStatic = of_constant
has_form GetField = of_constant
has_form PutField = of_constant
has_form InvokeVirtual = of_constant
has_form InvokeSpecial = of_constant
has_form InvokeStatic = of_constant
has_form InvokeInterface = of_interface_call
has_form InvokeDynamic = of_call_site
has_form New = of_constant
has_form NewArray = of_element_type
has_form NewReferenceArray = of_constant
has_form NewMultiArray = has_dimensions
has_form CheckCast = of_constant
has_form InstanceOf = of_constant
has_form Wide = of_wide
has_form _ = is_bare
