use Rattle.jvm_heap.specs.Heaps.{box_of_boolean}
use Rattle.jvm_heap.proofs.Renamed.{heaps_renamed}
use Rattle.native_model.proofs.Told.{made_in, named, names_of, world_of}
use Rattle.native_model.proofs.world.World.give_boolean_box.Goals as goal

pub returns : goal.returns
returns g c =
    named (made_in _ _ (λ h. box_of_boolean c.args.value h) _ _ _ _ _ _ _ _ _ _ (world_of c.self.view_is) ((heaps_renamed _ _).box_of_boolean c.args.value _) c.box_of_boolean-made.ensures c.end_of_making.ensures) (names_of c.self.view_is)
