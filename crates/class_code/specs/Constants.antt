-- What instructions take and give where their constants say it (JVMS 6.5, 4.4).
use Rattle.std.specs.Prelude.{◌≡◌, ℕ, ℤ, pos, negsuc, Bool, true, false, ◌==◌, nat_le, List, [], ◌∷◌, length, take_while, replicate, Option, Some, None, option_map, option_and_then, option_to_list, if◌then◌else◌}
use Rattle.std.specs.List.{list_any}
use Rattle.std.specs.Str.{byte}
use Rattle.jvm_tables.specs.declared.code.Instr.{Instr}
use Rattle.jvm_tables.specs.declared.instruction.OpRow.{OpRow}
use Rattle.jvm_tables.specs.declared.instruction.ConstantUse.{ConstantUse}
use Rattle.jvm_tables.specs.declared.instruction.ConstantUse.TheVariants as uses
use Rattle.jvm_tables.specs.declared.instruction.Operands.{Operands}
use Rattle.jvm_tables.specs.declared.instruction.Operands.TheVariants as operands
use Rattle.jvm_tables.specs.declared.instruction.Operation.{Operation}
use Rattle.jvm_tables.specs.declared.instruction.Operation.TheVariants as operations
use Rattle.jvm_tables.specs.declared.instruction.ValueKind.{ValueKind}
use Rattle.jvm_tables.specs.declared.instruction.ValueKind.TheVariants.{Int, Long, Reference}
use Rattle.jvm_tables.specs.Kinds.{kinds_of}
use Rattle.jvm_tables.specs.Agreement.{uses_constant}
use Rattle.class_model.specs.declared.class_file.Class.{Class}
use Rattle.class_model.specs.declared.constant_pool.Pool.{Pool}
use Rattle.class_model.specs.declared.constant_pool.Constant.{Constant}
use Rattle.class_model.specs.declared.constant_pool.Constant.TheVariants as constants
use Rattle.class_model.specs.Constants.{field_tag, method_tag, interface_method_tag, constant_at, text_at, is_some_that}
use Rattle.class_code.specs.Types.{kind_of, Signature, signature_of, gives}

-- values that are taken off the operand stack and put there, the last on top
pub record Use : Type 0 where
  pub takes : List ValueKind
  pub gives : List ValueKind

-- an operand as a number of a constant or of dimensions; a negative one is none
abbrev pub number_of : ℤ → ℕ
number_of (pos n) = n
number_of (negsuc n) = 0

-- the constant that an instruction names by its first operand
abbrev pub constant_of : Class → Instr → Option Constant
constant_of class instr = constant_at class.pool (number_of instr.first)

-- the descriptor of a name and type, and of a constant that has one as its own
abbrev pub descriptor_index : Constant → Option ℕ
descriptor_index (constants.NameType name descriptor) = Some descriptor
descriptor_index _ = None

abbrev pub name_index : Constant → Option ℕ
name_index (constants.NameType name descriptor) = Some name
name_index _ = None

unfoldable pub descriptor_at : Pool → ℕ → Option (List ℕ)
descriptor_at pool n = option_and_then (text_at pool) (option_and_then descriptor_index (constant_at pool n))

unfoldable pub name_at : Pool → ℕ → Option (List ℕ)
name_at pool n = option_and_then (text_at pool) (option_and_then name_index (constant_at pool n))

-- the tags of the members that an instruction may name
abbrev pub tags : ConstantUse → List ℕ
tags uses.Field = field_tag ∷ []
tags uses.Method = method_tag ∷ []
tags uses.AnyMethod = method_tag ∷ interface_method_tag ∷ []
tags uses.InterfaceMethod = interface_method_tag ∷ []
tags _ = []

-- the descriptor of the member or the call site that a constant is, where the instruction may name it
abbrev pub descriptor_named : ConstantUse → Pool → Constant → Option (List ℕ)
descriptor_named named pool (constants.Ref tag class name_type) =
    if list_any (λ t. t == tag) (tags named) then descriptor_at pool name_type else None
descriptor_named uses.CallSite pool (constants.InvokeDynamic bootstrap name_type) = descriptor_at pool name_type
descriptor_named _ pool _ = None

-- JVMS 6.5, ldc: what may be loaded in one slot
abbrev pub loaded : Constant → Option ValueKind
loaded (constants.Integer n) = Some Int
loaded (constants.Text text) = Some Reference
loaded (constants.Class name) = Some Reference
loaded (constants.Handle kind reference) = Some Reference
loaded (constants.MethodType descriptor) = Some Reference
loaded _ = None

-- JVMS 6.5, ldc2_w
abbrev pub long_loaded : Constant → Option ValueKind
long_loaded (constants.Long n) = Some Long
long_loaded _ = None

abbrev pub is_bracket : ℕ → Bool
is_bracket b = b == byte "["

-- the dimensions of a class by its name, which for an array is its descriptor
abbrev pub dimensions_of : List ℕ → ℕ
dimensions_of name = length (take_while is_bracket name)

-- which class an instruction may name: `new` none of arrays, `anewarray` one that leaves room for a dimension,
-- `multianewarray` one with all the dimensions that are made
abbrev pub may_name : Operation → ℕ → List ℕ → Bool
may_name operations.New made name = dimensions_of name == 0
may_name operations.NewReferenceArray made name = nat_le (dimensions_of name) 254
may_name operations.NewMultiArray made name = nat_le made (dimensions_of name)
may_name _ made name = true

abbrev pub names_class : Operation → ℕ → Pool → Constant → Bool
names_class operation made pool (constants.Class name) = is_some_that (may_name operation made) (text_at pool name)
names_class operation made pool _ = false

-- a loaded value is put on the stack, a field's value goes either way, a call takes its arguments and gives its result
abbrev pub pushes : ValueKind → Use
pushes k = record { takes = []; gives = k ∷ [] }

abbrev pub field_use : ValueKind → Use
field_use k = record { takes = k ∷ []; gives = k ∷ [] }

abbrev pub call_use : Signature → Use
call_use s = record { takes = s.takes; gives = option_to_list (gives s) }

abbrev pub nothing : Use
nothing = record { takes = []; gives = [] }

-- what the constant says of the values, where it is one that the instruction may name
abbrev pub by_constant : ConstantUse → Operation → ℕ → Pool → Constant → Option Use
by_constant uses.Nothing operation made pool constant = Some nothing
by_constant uses.Loadable operation made pool constant = option_map pushes (loaded constant)
by_constant uses.LoadableLong operation made pool constant = option_map pushes (long_loaded constant)
by_constant uses.Class operation made pool constant = if names_class operation made pool constant then Some nothing else None
by_constant uses.Field operation made pool constant =
    option_map field_use (option_and_then kind_of (descriptor_named uses.Field pool constant))
by_constant named operation made pool constant =
    option_map call_use (option_and_then signature_of (descriptor_named named pool constant))

abbrev pub said : Class → OpRow → Instr → Option Use
said class row instr =
    if uses_constant row.constant
    then option_and_then (by_constant row.constant row.operation (number_of instr.second) class.pool) (constant_of class instr)
    else Some nothing

-- the values that operands stand for, given what the constant says of them and the dimensions that are made
abbrev pub values : Operands → List ValueKind → ℕ → Option (List ValueKind)
values operands.ByConstant told made = Some told
values operands.ReferenceByConstant told made = Some (Reference ∷ told)
values operands.IntForEachDimension told made = Some (replicate made Int)
values operands told made = kinds_of operands

abbrev pub used : List ValueKind → List ValueKind → Use
used takes gives = record { takes = takes; gives = gives }

abbrev pub both : Option (List ValueKind) → Option (List ValueKind) → Option Use
both None gives = None
both (Some takes) None = None
both (Some takes) (Some gives) = Some (used takes gives)

-- what the row of an instruction tells by itself: where it names no constant, and no operand wants more than the row
abbrev pub use_by_row : OpRow → Option Use
use_by_row row = if uses_constant row.constant then None else both (kinds_of row.takes) (kinds_of row.gives)

-- What an instruction takes and gives. None where its constant is none that it may name, and for operands that
-- neither the row nor a constant tells: slots of any kind, and floats.
unfoldable pub use_of : Class → OpRow → Instr → Option Use
use_of class row instr =
    option_and_then (λ told. both (values row.takes told.takes (number_of instr.second)) (values row.gives told.gives (number_of instr.second)))
    (said class row instr)

-- an instruction of the row takes and gives these, whatever its class and its operands
abbrev pub IsUseOf : OpRow → List ValueKind → List ValueKind → Type 0
IsUseOf row takes gives = (class : Class) (instr : Instr) → use_of class row instr ≡ Some (used takes gives)

-- what the code tells of them
abbrev pub if_told : Bool → List ValueKind → Option (List ValueKind)
if_told told kinds = if told then Some kinds else None

abbrev pub use_if_told : Bool → List ValueKind → List ValueKind → Option Use
use_if_told told takes gives = if told then Some (record { takes = takes; gives = gives }) else None
