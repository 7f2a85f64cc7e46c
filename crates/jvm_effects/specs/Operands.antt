-- Operands as slots.
use Rattle.jvm_tables.specs.declared.instruction.ValueKind.{ValueKind}
use Rattle.jvm_heap.specs.declared.slot.Slot.{Slot}
use Rattle.jvm_heap.specs.Operands.{Operands, ValueOf}
use Rattle.jvm_model.specs.Frames.{slot_of}

-- a value that is taken as a slot, and what is left
abbrev pub told : (k : ValueKind) → ValueOf k × Operands → Slot × Operands
told k found = (slot_of k found.0, found.1)
