use Rattle.jvm_heap.proofs.Places.{changed-there}
use Rattle.jvm_heap.proofs.heap.Heap.set_element.Goals as goal

pub returns : goal.returns
returns c =
    changed-there _ _ _ _ _ _ _ c.self.view_is c.place-at.ensures.next c.place-at.ensures.within c.index_mut.ensures.value c.set_element.ensures.changed
