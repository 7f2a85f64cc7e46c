use Rattle.jvm_heap.proofs.Places.{with_slot-there}
use Rattle.jvm_heap.proofs.heap.Heap.set.Goals as goal

pub returns : goal.returns
returns c =
    with_slot-there _ _ _ _ _ _ _ _ c.self.view_is c.place-at.ensures.next c.place-at.ensures.within c.index_mut.ensures.value c.requires c.set_slot.ensures
