use Rattle.native_model.proofs.Changed.{can_set_message, message_set}
use Rattle.native_model.proofs.Told.{named, names_of, world_of}
use Rattle.native_model.proofs.world.World.put_message.Goals as goal

pub set_message-requires : goal.set_message-requires
set_message-requires g c = can_set_message _ _ _ _ _ _ _ _ _ _ _ (world_of c.self.view_is) c.requires

pub returns : goal.returns
returns g c =
    named (message_set _ _ _ _ _ _ _ _ _ _ _ _ (world_of c.self.view_is) c.set_message.ensures) (names_of c.self.view_is)
