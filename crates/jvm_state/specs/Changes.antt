-- What a call leaves of a world and of a frame.
use Rattle.std.specs.Prelude.{◌≡◌, Result, Err}
use Rattle.jvm_heap.specs.declared.frame.Frame.{Frame}
use Rattle.native_model.specs.Worlds.{Placed, in_heap}
use Rattle.jvm_resolve.specs.declared.stop.Stop.{Stop}
use Rattle.jvm_resolve.specs.declared.stop.Stop.TheVariants as stops

-- nothing but the heap is other
abbrev pub HeapAlone : {N : Type 0} → Placed N → Placed N → Type 0
HeapAlone old new = new ≡ in_heap new.world.heap old

-- where it throws all is as it was
abbrev pub KeptIfThrown : {A N : Type 0} → Result A Stop → Placed N → Placed N → Type 0
KeptIfThrown (Err (stops.Throws t)) old new = new ≡ old
KeptIfThrown _ old new = Unit {0}

-- nothing but the operands is other, and they have the same limit
pub record OperandsAlone (old new : Frame) : Type 0 where
  pub method : new.method ≡ old.method
  pub pc : new.pc ≡ old.pc
  pub next : new.next ≡ old.next
  pub locals : new.locals ≡ old.locals
  pub limit : new.operands.limit ≡ old.operands.limit
