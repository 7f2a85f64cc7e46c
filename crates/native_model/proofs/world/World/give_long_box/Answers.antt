use Rattle.std.proofs.Common.{rules, arith}
use Rattle.std.proofs.lemmas.Grind.{common_steps}
use Rattle.jvm_heap.specs.Heaps.{box_of_long}
use Rattle.jvm_heap.specs.Changes.{Makes}
use Rattle.jvm_heap.proofs.Renamed.{heaps_renamed}
use Rattle.native_model.proofs.Told.{made_in, named, names_of, world_of}
use Rattle.native_model.proofs.world.World.give_long_box.Goals as goal

pub returns : goal.returns
returns g c =
    let makes : Makes (box_of_long c.args.value c.self.inside.heap) c.box_of_long-made.result c.self.inside.heap c.box_of_long-made.new.self = first_of (search rules, grind (arith, common_steps)) in
    named (made_in _ _ (λ h. box_of_long c.args.value h) _ _ _ _ _ _ _ _ _ _ (world_of c.self.view_is) ((heaps_renamed _ _).box_of_long c.args.value c.self.inside.heap) makes c.end_of_making.ensures) (names_of c.self.view_is)
