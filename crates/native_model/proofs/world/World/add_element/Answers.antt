use Rattle.native_model.proofs.Listing.{can_add, element_added}
use Rattle.native_model.proofs.Told.{if_named, names_of, world_of}
use Rattle.native_model.proofs.world.World.add_element.Goals as goal

pub add-grown-requires : goal.add-grown-requires
add-grown-requires g c = can_add _ _ _ _ _ _ _ _ _ _ (world_of c.self.view_is) c.requires

pub returns : goal.returns
returns g c =
    if_named _ _ _ _ _ (element_added _ _ _ _ _ _ _ _ _ _ _ _ _ _ (world_of c.self.view_is) c.add-grown.ensures c.end_of_growing.ensures) (names_of c.self.view_is)
