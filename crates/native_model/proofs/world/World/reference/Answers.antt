use Rattle.std.proofs.Common.{refl, Some, None}
use Rattle.native_model.specs.Worlds.{as_reference}
use Rattle.native_model.proofs.Told.{looked, world_of}
use Rattle.native_model.proofs.world.World.reference.Goals as goal

pub returns-in-Some : goal.returns-in-Some
returns-in-Some g c =
    looked _ _ as_reference _ _ _ _ _ _ _ (Some c.in-Some.object.now) _ (world_of c.self.view_is) c.in-Some.ensures.value (c.reference_in.ensures _ _)

pub returns-in-None : goal.returns-in-None
returns-in-None g c = looked _ _ as_reference _ _ _ _ _ _ _ None _ (world_of c.self.view_is) c.in-None.ensures.value refl
