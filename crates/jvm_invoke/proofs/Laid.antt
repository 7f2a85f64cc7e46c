-- Arguments in locals, one after another.
use Rattle.std.proofs.Common.{◌≡◌, List, [], ◌∷◌, ◌++◌, refl}
use Rattle.jvm_heap.specs.declared.slot.Slot.{Slot}
use Rattle.jvm_heap.specs.declared.slot.Slot.TheVariants as slots
use Rattle.jvm_model.specs.Frames.{laid_out}

pub first : (slot : Slot) (rest : List Slot) → laid_out (slot ∷ rest) ≡ laid_out (slot ∷ []) ++ laid_out rest
first slots.Top rest = refl
first (slots.Int n) rest = refl
first (slots.Long n) rest = refl
first (slots.Ref n) rest = refl
