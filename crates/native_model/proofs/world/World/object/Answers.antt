use Rattle.native_model.proofs.Parts.{object_there}
use Rattle.native_model.proofs.world.World.object.Goals as goal

pub returns : goal.returns
returns g c = object_there g.N.Naming.class_name g.N.Naming.site_origin _ _ _ _ _ _ _ _ _ c.self.view_is c.object.ensures.value
