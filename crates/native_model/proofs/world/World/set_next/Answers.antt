use Rattle.std.proofs.Common.{ℕ}
use Rattle.jvm_heap.specs.Objects.{iterator}
use Rattle.jvm_heap.specs.Heaps.{replaced}
use Rattle.native_model.proofs.Listing.{can_set_next, next_set}
use Rattle.native_model.proofs.Told.{if_in_heap, names_of, world_of}
use Rattle.native_model.proofs.world.World.set_next.Goals as goal

pub set_next-requires : goal.set_next-requires
set_next-requires g c = can_set_next _ _ _ _ _ _ _ _ _ _ (world_of c.self.view_is) c.requires

pub returns : goal.returns
returns g c =
    if_in_heap (λ (it : ℕ × ℕ). replaced c.args.number (iterator it.0 c.args.next) c.args.self.now.world.heap) c.args.self.now _ _ (next_set _ _ _ _ _ _ _ _ _ _ _ (world_of c.self.view_is) c.set_next.ensures) (names_of c.self.view_is)
