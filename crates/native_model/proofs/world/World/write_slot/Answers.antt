use Rattle.native_model.proofs.Parts.{slot_tried, rest_there}
use Rattle.native_model.proofs.world.World.write_slot.Goals as goal

pub returns-clause-written : goal.returns-clause-written
returns-clause-written g c = slot_tried g.N.Naming.class_name g.N.Naming.site_origin _ _ _ _ _ _ _ _ _ _ _ _ c.self.view_is c.set_in.ensures

pub returns-clause-rest : goal.returns-clause-rest
returns-clause-rest g c = rest_there g.N.Naming.class_name g.N.Naming.site_origin _ _ _ _ _ _ _ _ c.self.view_is
