-- What a call gives where an object is made.
use Rattle.std.specs.Prelude.{ℕ, Result, Ok, Err}
use Rattle.jvm_heap.specs.declared.fault.HeapFault.{HeapFault}
use Rattle.jvm_heap.specs.declared.fault.HeapFault.TheVariants as heap_faults
use Rattle.jvm_heap.specs.declared.slot.Slot.{Slot}
use Rattle.jvm_heap.specs.declared.slot.Slot.TheVariants.{Ref}
use Rattle.native_model.specs.declared.budget.Budget.TheVariants.{Cells}
use Rattle.jvm_resolve.specs.declared.stop.Stop.{Stop}
use Rattle.jvm_resolve.specs.declared.stop.Stop.TheVariants as stops

-- the reference to an object that is made, where the cells suffice
abbrev pub reference_to : Result ℕ HeapFault → Result Slot Stop
reference_to (Ok number) = Ok (Ref number)
reference_to (Err heap_faults.Full) = Err (stops.Spends Cells)
reference_to (Err heap_faults.Memory) = Err stops.Memory
