-- The operand stack, its top first. A long has Top above its Long.
use Rattle.std.specs.Prelude.{List, [], ◌∷◌, ◌++◌, Option, Some, None, option_map, option_and_then, if◌then◌else◌}
use Rattle.jvm_tables.specs.declared.instruction.Operation.{Operation}
use Rattle.jvm_tables.specs.declared.instruction.Operation.TheVariants as operations
use Rattle.jvm_tables.specs.declared.instruction.ValueKind.{ValueKind}
use Rattle.jvm_tables.specs.declared.instruction.ValueKind.TheVariants as values
use Rattle.class_verify.specs.declared.kinds.Kind.{Kind}
use Rattle.class_verify.specs.declared.kinds.Kind.TheVariants as kinds
use Rattle.class_verify.specs.declared.stack.Width.{Width}
use Rattle.class_verify.specs.declared.stack.Width.TheVariants as widths
use Rattle.class_verify.specs.Kinds.{is_kind, is_single, is_pair}

-- what is below a top of a kind
abbrev pub below : Kind → List Kind → Option (List Kind)
below wanted [] = None
below wanted (kind ∷ stack) = if is_kind wanted kind then Some stack else None

-- what is below a value of a kind
abbrev pub below_value : ValueKind → List Kind → Option (List Kind)
below_value values.Int stack = below kinds.Int stack
below_value values.Long stack = option_and_then (below kinds.Long) (below kinds.Top stack)
below_value values.Reference stack = below kinds.Reference stack

-- what is below values of these kinds, the first on top
abbrev pub below_values : List ValueKind → List Kind → Option (List Kind)
below_values [] stack = Some stack
below_values (kind ∷ others) stack = option_and_then (below_values others) (below_value kind stack)

abbrev pub with_value : ValueKind → List Kind → List Kind
with_value values.Int stack = kinds.Int ∷ stack
with_value values.Long stack = kinds.Top ∷ kinds.Long ∷ stack
with_value values.Reference stack = kinds.Reference ∷ stack

-- with values of these kinds on it, one after another
abbrev pub with_values : List ValueKind → List Kind → List Kind
with_values [] stack = stack
with_values (kind ∷ others) stack = with_values others (with_value kind stack)

-- The slots of a width on top, which are whole values, and what is below them.
abbrev pub group : Width → List Kind → Option (List Kind × List Kind)
group widths.Zero stack = Some ([], stack)
group widths.One [] = None
group widths.One (top ∷ stack) = if is_single top then Some (top ∷ [], stack) else None
group widths.Two [] = None
group widths.Two (top ∷ []) = None
group widths.Two (top ∷ next ∷ stack) = if is_pair top next then Some (top ∷ next ∷ [], stack) else None

abbrev pub without : Width → List Kind → Option (List Kind)
without width stack = option_map (λ found. found.1) (group width stack)

-- A group on top is put once more, below a second group under it.
abbrev pub repeated : Width → Width → List Kind → Option (List Kind)
repeated width under stack = option_and_then (λ upper. option_map (λ lower. upper.0 ++ (lower.0 ++ (upper.0 ++ lower.1))) (group under upper.1)) (group width stack)

abbrev pub swapped : List Kind → Option (List Kind)
swapped stack = option_and_then (λ upper. option_map (λ lower. lower.0 ++ (upper.0 ++ lower.1)) (group widths.One upper.1)) (group widths.One stack)

-- what an instruction leaves that moves slots whatever they hold (JVMS 6.5, pop to swap)
abbrev pub moved : Operation → List Kind → Option (List Kind)
moved operations.Pop = without widths.One
moved operations.Pop2 = without widths.Two
moved operations.Dup = repeated widths.One widths.Zero
moved operations.DupX1 = repeated widths.One widths.One
moved operations.DupX2 = repeated widths.One widths.Two
moved operations.Dup2 = repeated widths.Two widths.Zero
moved operations.Dup2X1 = repeated widths.Two widths.One
moved operations.Dup2X2 = repeated widths.Two widths.Two
moved operations.Swap = swapped
moved _ = λ stack. None
