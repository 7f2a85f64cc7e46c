-- The kinds that the operands of a row stand for.
use Rattle.std.specs.Prelude.{List, [], ◌∷◌, Option, Some, None}
use Rattle.jvm_tables.specs.declared.instruction.Operands.{Operands}
use Rattle.jvm_tables.specs.declared.instruction.Operands.TheVariants as operands
use Rattle.jvm_tables.specs.declared.instruction.ValueKind.{ValueKind}
use Rattle.jvm_tables.specs.declared.instruction.ValueKind.TheVariants.{Int, Long, Reference}

-- the kinds, the last on top, where the row alone tells them
abbrev pub kinds_of : Operands → Option (List ValueKind)
kinds_of operands.Nothing = Some []
kinds_of operands.Int = Some (Int ∷ [])
kinds_of operands.Long = Some (Long ∷ [])
kinds_of operands.Reference = Some (Reference ∷ [])
kinds_of operands.IntInt = Some (Int ∷ Int ∷ [])
kinds_of operands.LongLong = Some (Long ∷ Long ∷ [])
kinds_of operands.LongInt = Some (Long ∷ Int ∷ [])
kinds_of operands.ReferenceInt = Some (Reference ∷ Int ∷ [])
kinds_of operands.ReferenceIntInt = Some (Reference ∷ Int ∷ Int ∷ [])
kinds_of operands.ReferenceIntLong = Some (Reference ∷ Int ∷ Long ∷ [])
kinds_of operands.ReferenceIntReference = Some (Reference ∷ Int ∷ Reference ∷ [])
kinds_of operands.ReferenceReference = Some (Reference ∷ Reference ∷ [])
kinds_of (operands.Slots _) = None
kinds_of operands.ByConstant = None
kinds_of operands.ReferenceByConstant = None
kinds_of operands.IntForEachDimension = None
kinds_of operands.Float = None
