-- Which instructions use floats or doubles (JVMS 6.5, 4.4).
use Rattle.std.specs.Prelude.{ℕ, Bool, true, false, ◌&&◌, ◌||◌, ◌==◌, nat_lt, List}
use Rattle.std.specs.List.{list_any}
use Rattle.jvm_tables.specs.declared.code.Instr.{Instr}
use Rattle.jvm_tables.specs.declared.instruction.OpRow.{OpRow}
use Rattle.jvm_tables.specs.declared.instruction.ConstantUse.{ConstantUse}
use Rattle.jvm_tables.specs.declared.instruction.ConstantUse.TheVariants as uses
use Rattle.jvm_tables.specs.declared.instruction.Operation.{Operation}
use Rattle.jvm_tables.specs.declared.instruction.Operation.TheVariants as operations
use Rattle.class_model.specs.declared.class_file.Class.{Class}
use Rattle.class_model.specs.declared.constant_pool.Pool.{Pool}
use Rattle.class_model.specs.declared.constant_pool.Constant.{Constant}
use Rattle.class_model.specs.declared.constant_pool.Constant.TheVariants as constants
use Rattle.class_model.specs.Constants.{constant_at, text_at, is_some_that}
use Rattle.class_code.specs.Types.{has_float}
use Rattle.class_code.specs.Constants.{number_of, constant_of, descriptor_at, descriptor_named, dimensions_of}
use Rattle.class_code.specs.Bootstraps.{known_arguments}

-- an array of floats or doubles has its descriptor as name; in the name of any other class letters are no types
abbrev pub is_float_array : List ℕ → Bool
is_float_array name = nat_lt 0 (dimensions_of name) && has_float name

abbrev pub reference_has_float : Pool → Constant → Bool
reference_has_float pool (constants.Ref tag class name_type) = is_some_that has_float (descriptor_at pool name_type)
reference_has_float pool _ = false

-- JVMS 5.1: a constant that is loaded, by an instruction or as a static argument of a call site, is a float or has
-- one in its descriptor; of a method handle it is that of its member
abbrev pub is_float_load : Pool → Constant → Bool
is_float_load pool (constants.Float n) = true
is_float_load pool (constants.Double n) = true
is_float_load pool (constants.Class name) = is_some_that is_float_array (text_at pool name)
is_float_load pool (constants.Handle kind reference) = is_some_that (reference_has_float pool) (constant_at pool reference)
is_float_load pool (constants.MethodType descriptor) = is_some_that has_float (text_at pool descriptor)
is_float_load pool _ = false

-- JVMS 4.4.4, 4.4.5: looked at before what the instruction may load
abbrev pub is_float_constant : Constant → Bool
is_float_constant (constants.Float n) = true
is_float_constant (constants.Double n) = true
is_float_constant _ = false

abbrev pub class_has_float : Pool → Constant → Bool
class_has_float pool (constants.Class name) = is_some_that is_float_array (text_at pool name)
class_has_float pool _ = false

-- The static arguments of a call site count where the bootstrap method is one that is known.
abbrev pub has_float_arguments : Class → Constant → Bool
has_float_arguments class (constants.InvokeDynamic bootstrap name_type) =
    list_any (λ n. is_some_that (is_float_load class.pool) (constant_at class.pool n)) (known_arguments class bootstrap)
has_float_arguments class _ = false

-- A constant that the instruction may not name uses none, but for a Float or a Double that ldc2_w or ldc names.
abbrev pub constant_has_float : ConstantUse → Class → Constant → Bool
constant_has_float uses.Nothing class constant = false
constant_has_float uses.Loadable class constant = is_float_load class.pool constant
constant_has_float uses.LoadableLong class constant = is_float_constant constant
constant_has_float uses.Class class constant = class_has_float class.pool constant
constant_has_float uses.CallSite class constant =
    is_some_that has_float (descriptor_named uses.CallSite class.pool constant) || has_float_arguments class constant
constant_has_float named class constant = is_some_that has_float (descriptor_named named class.pool constant)

-- JVMS 6.5, newarray: the element types 6 and 7 are float and double
abbrev pub makes_floats : Operation → ℕ → Bool
makes_floats operations.NewArray code = code == 6 || code == 7
makes_floats _ code = false

-- an opcode on floats, an array of floats, a constant that is one, or a descriptor that has one
unfoldable pub uses_float : Class → OpRow → Instr → Bool
uses_float class row instr =
    row.is_float
    || makes_floats row.operation (number_of instr.first)
    || is_some_that (constant_has_float row.constant class) (constant_of class instr)
