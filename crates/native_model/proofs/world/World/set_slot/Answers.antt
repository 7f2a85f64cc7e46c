use Rattle.std.proofs.Common.{subst}
use Rattle.std.specs.Prelude.{IsSome}
use Rattle.native_model.proofs.Parts.{slot_there, slot_written, rest_there}
use Rattle.native_model.proofs.world.World.set_slot.Goals as goal

pub set-requires : goal.set-requires
set-requires g c =
    subst IsSome (slot_there g.N.Naming.class_name g.N.Naming.site_origin _ _ _ _ _ _ _ _ _ c.self.view_is) c.requires

pub returns-clause-written : goal.returns-clause-written
returns-clause-written g c = slot_written g.N.Naming.class_name g.N.Naming.site_origin _ _ _ _ _ _ _ _ _ _ _ c.self.view_is c.set.ensures

pub returns-clause-rest : goal.returns-clause-rest
returns-clause-rest g c = rest_there g.N.Naming.class_name g.N.Naming.site_origin _ _ _ _ _ _ _ _ c.self.view_is
