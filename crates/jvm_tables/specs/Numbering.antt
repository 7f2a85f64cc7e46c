-- The opcodes of each operation, by operand form (JVMS 6.5, 'Format' and 'Forms').
use Rattle.std.specs.Prelude.{ℕ, Bool, not, ◌&&◌, ◌||◌, ℤ, pos, negsuc, ◌+ℤ◌, int_lt}
use Rattle.std.specs.Ordering.{int_eq}
use Rattle.jvm_tables.specs.declared.instruction.Form.{Form}
use Rattle.jvm_tables.specs.declared.instruction.Form.TheVariants as forms
use Rattle.jvm_tables.specs.declared.instruction.OpRow.{OpRow}
use Rattle.jvm_tables.specs.declared.instruction.Operation.{Operation}
use Rattle.jvm_tables.specs.declared.instruction.Operation.TheVariants as operations
use Rattle.jvm_tables.specs.Forms.{has_form}

-- The opcode of an operation with operands of this form; where the opcode itself implies a number, the one that
-- implies 0, as iconst_0, lconst_0 and iload_0.
abbrev pub opcode_of : Operation → Form → ℕ
opcode_of operations.Nop _ = 0
opcode_of operations.PushNull _ = 1
opcode_of operations.PushInt forms.Byte = 16
opcode_of operations.PushInt forms.Short = 17
opcode_of operations.PushInt _ = 3
opcode_of operations.PushLong _ = 9
opcode_of operations.PushConstant forms.ByteConstant = 18
opcode_of operations.PushConstant _ = 19
opcode_of operations.PushLongConstant _ = 20
opcode_of operations.LoadInt forms.Local = 21
opcode_of operations.LoadInt _ = 26
opcode_of operations.LoadLong forms.Local = 22
opcode_of operations.LoadLong _ = 30
opcode_of operations.LoadReference forms.Local = 25
opcode_of operations.LoadReference _ = 42
opcode_of operations.LoadIntElement _ = 46
opcode_of operations.LoadLongElement _ = 47
opcode_of operations.LoadReferenceElement _ = 50
opcode_of operations.LoadByteElement _ = 51
opcode_of operations.LoadCharElement _ = 52
opcode_of operations.LoadShortElement _ = 53
opcode_of operations.StoreInt forms.Local = 54
opcode_of operations.StoreInt _ = 59
opcode_of operations.StoreLong forms.Local = 55
opcode_of operations.StoreLong _ = 63
opcode_of operations.StoreReference forms.Local = 58
opcode_of operations.StoreReference _ = 75
opcode_of operations.StoreIntElement _ = 79
opcode_of operations.StoreLongElement _ = 80
opcode_of operations.StoreReferenceElement _ = 83
opcode_of operations.StoreByteElement _ = 84
opcode_of operations.StoreCharElement _ = 85
opcode_of operations.StoreShortElement _ = 86
opcode_of operations.Pop _ = 87
opcode_of operations.Pop2 _ = 88
opcode_of operations.Dup _ = 89
opcode_of operations.DupX1 _ = 90
opcode_of operations.DupX2 _ = 91
opcode_of operations.Dup2 _ = 92
opcode_of operations.Dup2X1 _ = 93
opcode_of operations.Dup2X2 _ = 94
opcode_of operations.Swap _ = 95
opcode_of operations.AddInt _ = 96
opcode_of operations.AddLong _ = 97
opcode_of operations.SubtractInt _ = 100
opcode_of operations.SubtractLong _ = 101
opcode_of operations.MultiplyInt _ = 104
opcode_of operations.MultiplyLong _ = 105
opcode_of operations.DivideInt _ = 108
opcode_of operations.DivideLong _ = 109
opcode_of operations.RemainderInt _ = 112
opcode_of operations.RemainderLong _ = 113
opcode_of operations.NegateInt _ = 116
opcode_of operations.NegateLong _ = 117
opcode_of operations.ShiftLeftInt _ = 120
opcode_of operations.ShiftLeftLong _ = 121
opcode_of operations.ShiftRightInt _ = 122
opcode_of operations.ShiftRightLong _ = 123
opcode_of operations.UnsignedShiftRightInt _ = 124
opcode_of operations.UnsignedShiftRightLong _ = 125
opcode_of operations.AndInt _ = 126
opcode_of operations.AndLong _ = 127
opcode_of operations.OrInt _ = 128
opcode_of operations.OrLong _ = 129
opcode_of operations.XorInt _ = 130
opcode_of operations.XorLong _ = 131
opcode_of operations.IncrementInt _ = 132
opcode_of operations.IntToLong _ = 133
opcode_of operations.LongToInt _ = 136
opcode_of operations.IntToByte _ = 145
opcode_of operations.IntToChar _ = 146
opcode_of operations.IntToShort _ = 147
opcode_of operations.CompareLong _ = 148
opcode_of operations.IfEq _ = 153
opcode_of operations.IfNe _ = 154
opcode_of operations.IfLt _ = 155
opcode_of operations.IfGe _ = 156
opcode_of operations.IfGt _ = 157
opcode_of operations.IfLe _ = 158
opcode_of operations.IfIntsEq _ = 159
opcode_of operations.IfIntsNe _ = 160
opcode_of operations.IfIntsLt _ = 161
opcode_of operations.IfIntsGe _ = 162
opcode_of operations.IfIntsGt _ = 163
opcode_of operations.IfIntsLe _ = 164
opcode_of operations.IfReferencesEq _ = 165
opcode_of operations.IfReferencesNe _ = 166
opcode_of operations.Goto forms.WideBranch = 200
opcode_of operations.Goto _ = 167
opcode_of operations.TableSwitch _ = 170
opcode_of operations.LookupSwitch _ = 171
opcode_of operations.ReturnInt _ = 172
opcode_of operations.ReturnLong _ = 173
opcode_of operations.ReturnReference _ = 176
opcode_of operations.Return _ = 177
opcode_of operations.GetStatic _ = 178
opcode_of operations.PutStatic _ = 179
opcode_of operations.GetField _ = 180
opcode_of operations.PutField _ = 181
opcode_of operations.InvokeVirtual _ = 182
opcode_of operations.InvokeSpecial _ = 183
opcode_of operations.InvokeStatic _ = 184
opcode_of operations.InvokeInterface _ = 185
opcode_of operations.InvokeDynamic _ = 186
opcode_of operations.New _ = 187
opcode_of operations.NewArray _ = 188
opcode_of operations.NewReferenceArray _ = 189
opcode_of operations.ArrayLength _ = 190
opcode_of operations.Throw _ = 191
opcode_of operations.CheckCast _ = 192
opcode_of operations.InstanceOf _ = 193
opcode_of operations.MonitorEnter _ = 194
opcode_of operations.MonitorExit _ = 195
opcode_of operations.Wide _ = 196
opcode_of operations.NewMultiArray _ = 197
opcode_of operations.IfNull _ = 198
opcode_of operations.IfNonNull _ = 199
opcode_of operations.Float _ = 0

abbrev pub is_between : ℤ → ℤ → ℤ → Bool
is_between low high n = not (int_lt n low) && not (int_lt high n)

-- the numbers that the opcodes of an operation imply: iconst_m1 to iconst_5, lconst_0 and lconst_1, iload_0 to iload_3
abbrev pub may_imply : Operation → ℤ → Bool
may_imply operations.PushInt n = is_between (negsuc 0) (pos 5) n
may_imply operations.PushLong n = is_between (pos 0) (pos 1) n
may_imply operations.LoadInt n = is_between (pos 0) (pos 3) n
may_imply operations.LoadLong n = is_between (pos 0) (pos 3) n
may_imply operations.LoadReference n = is_between (pos 0) (pos 3) n
may_imply operations.StoreInt n = is_between (pos 0) (pos 3) n
may_imply operations.StoreLong n = is_between (pos 0) (pos 3) n
may_imply operations.StoreReference n = is_between (pos 0) (pos 3) n
may_imply _ n = int_eq n (pos 0)

-- The form of a row is one of its operation, and its opcode is the one of both, and so much after it as it implies.
-- The opcodes of floats are all others.
abbrev pub is_numbered : OpRow → Bool
is_numbered row =
    row.is_float
    || (has_form row.operation row.form
    && int_eq (pos row.opcode) (pos (opcode_of row.operation row.form) +ℤ row.implied)
    && may_imply row.operation row.implied)
