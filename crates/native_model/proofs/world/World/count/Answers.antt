use Rattle.native_model.proofs.Parts.{count_there}
use Rattle.native_model.proofs.world.World.count.Goals as goal

pub returns-clause-value : goal.returns-clause-value
returns-clause-value g c = count_there g.N.Naming.class_name g.N.Naming.site_origin _ _ _ _ _ _ _ _ c.self.view_is c.count.ensures.value
