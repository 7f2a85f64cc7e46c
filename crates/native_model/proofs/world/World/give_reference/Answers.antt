use Rattle.jvm_heap.specs.Objects.{path_reference}
use Rattle.jvm_heap.specs.Heaps.{allocated}
use Rattle.jvm_heap.proofs.Renamed.{heaps_renamed}
use Rattle.native_model.proofs.Told.{made_in, named, names_of, world_of}
use Rattle.native_model.proofs.world.World.give_reference.Goals as goal

pub returns : goal.returns
returns g c =
    named (made_in _ _ (λ h. allocated (path_reference c.args.reference.owner c.args.reference.path) h) _ _ _ _ _ _ _ _ _ _ (world_of c.self.view_is) ((heaps_renamed _ _).allocated (path_reference c.args.reference.owner c.args.reference.path) _) c.put_reference-made.ensures c.end_of_making.ensures) (names_of c.self.view_is)
