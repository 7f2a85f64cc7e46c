-- What an instruction leaves on the operand stack and in the locals (JVMS 6.5, 4.10.1.9).
use Rattle.std.specs.Prelude.{ℕ, Bool, true, false, nat_le, List, length, reverse, Option, Some, None, option_map, option_and_then, if◌then◌else◌}
use Rattle.jvm_tables.specs.declared.code.Instr.{Instr}
use Rattle.jvm_tables.specs.declared.instruction.Operands.{Operands}
use Rattle.jvm_tables.specs.declared.instruction.Operands.TheVariants as operands
use Rattle.jvm_tables.specs.declared.instruction.OpRow.{OpRow}
use Rattle.jvm_tables.specs.declared.instruction.ValueKind.{ValueKind}
use Rattle.class_model.specs.declared.class_file.Class.{Class}
use Rattle.class_verify.specs.declared.kinds.Kind.{Kind}
use Rattle.class_verify.specs.declared.shape.Shape.{Shape}
use Rattle.class_code.specs.Constants.{Use, use_of}
use Rattle.class_code.specs.Operands.{local_of}
use Rattle.class_verify.specs.Locals.{holds, stored}
use Rattle.class_verify.specs.Stacks.{below_values, with_values, moved}

abbrev pub is_slots : Operands → Bool
is_slots (operands.Slots n) = true
is_slots _ = false

-- what the instruction takes is taken, then what it gives is given
abbrev pub used : Option Use → List Kind → Option (List Kind)
used None stack = None
used (Some values) stack = option_map (with_values values.gives) (below_values (reverse values.takes) stack)

unfoldable pub stack_after : Class → OpRow → Instr → List Kind → Option (List Kind)
stack_after class row instr stack =
    if is_slots row.takes then moved row.operation stack else used (use_of class row instr) stack

abbrev pub is_read : Option ValueKind → ℕ → List Kind → Bool
is_read None at locals = true
is_read (Some kind) at locals = holds kind at locals

abbrev pub with_store : Option ValueKind → ℕ → List Kind → Option (List Kind)
with_store None at locals = Some locals
with_store (Some kind) at locals = stored kind at locals

unfoldable pub locals_after : OpRow → Instr → List Kind → Option (List Kind)
locals_after row instr locals =
    if is_read row.reads (local_of row instr) locals then with_store row.writes (local_of row instr) locals else None

-- a shape whose stack isn't too high
abbrev pub limited : ℕ → List Kind → List Kind → Option Shape
limited most locals stack =
    if nat_le (length stack) most then Some (record { stack = stack; locals = locals }) else None

-- What an instruction leaves of a shape. None where it finds no values of the kinds that it takes or reads, where its
-- constant is none that it may name, or where a limit is passed.
unfoldable pub left : Class → ℕ → OpRow → Instr → Shape → Option Shape
left class most row instr shape =
    option_and_then (λ locals. option_and_then (limited most locals) (stack_after class row instr shape.stack))
    (locals_after row instr shape.locals)
