use Rattle.native_model.proofs.Listing.{list_made}
use Rattle.native_model.proofs.Told.{named, names_of, world_of}
use Rattle.native_model.proofs.world.World.give_list.Goals as goal

pub returns : goal.returns
returns g c =
    named (list_made _ _ _ _ _ _ _ _ _ _ _ _ _ (world_of c.self.view_is) c.fixed_list-class.ensures c.put_list-made.ensures c.end_of_making.ensures) (names_of c.self.view_is)
