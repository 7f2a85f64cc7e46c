use Rattle.std.proofs.Common.{rules, ◌≡◌, Some, arith}
use Rattle.std.proofs.lemmas.Grind.{common_steps}
use Rattle.jvm_heap.specs.Changes.{with_name}
use Rattle.jvm_heap.proofs.Places.{changed-there}
use Rattle.jvm_heap.proofs.heap.Heap.set_name.Goals as goal

pub returns : goal.returns
returns c =
    let changes : with_name c.args.name c.args.ordinal c.index_mut.result.now ≡ Some c.set_name.new.self = first_of (search rules, grind (arith, common_steps)) in
    changed-there _ _ _ _ _ _ _ c.self.view_is c.place-at.ensures.next c.place-at.ensures.within c.index_mut.ensures.value changes
