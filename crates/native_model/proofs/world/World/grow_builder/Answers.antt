use Rattle.native_model.proofs.Changed.{can_append, appended_in}
use Rattle.native_model.proofs.Told.{named, names_of, world_of}
use Rattle.native_model.proofs.world.World.grow_builder.Goals as goal

pub append-grown-requires : goal.append-grown-requires
append-grown-requires g c = can_append _ _ _ _ _ _ _ _ _ _ (world_of c.self.view_is) c.requires

pub returns : goal.returns
returns g c =
    named (appended_in _ _ _ _ _ _ _ _ _ _ _ _ _ _ (world_of c.self.view_is) c.requires c.append-grown.ensures c.end_of_growing.ensures) (names_of c.self.view_is)
