use Rattle.std.proofs.Common.{ℕ, List}
use Rattle.std.specs.Prelude.{slice_set}
use Rattle.jvm_heap.specs.Objects.{listed}
use Rattle.jvm_heap.specs.Heaps.{replaced}
use Rattle.native_model.proofs.Listing.{can_set_element, element_set}
use Rattle.native_model.proofs.Told.{if_in_heap, names_of, world_of}
use Rattle.native_model.proofs.world.World.set_element.Goals as goal

pub set_element-requires : goal.set_element-requires
set_element-requires g c = can_set_element _ _ _ _ _ _ _ _ _ _ _ (world_of c.self.view_is) c.requires

pub returns : goal.returns
returns g c =
    if_in_heap (λ (l : List ℕ × List ℕ). replaced c.args.list (listed l.0 (slice_set l.1 c.args.place c.args.element)) c.args.self.now.world.heap) c.args.self.now _ _ (element_set _ _ _ _ _ _ _ _ _ _ _ _ (world_of c.self.view_is) c.set_element.ensures) (names_of c.self.view_is)
