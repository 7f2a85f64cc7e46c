use Rattle.std.proofs.Common.{subst, ◌∙◌}
use Rattle.std.specs.Prelude.{IsSome}
use Rattle.native_model.proofs.Parts.{slot_there}
use Rattle.native_model.proofs.world.World.slot.Goals as goal

pub get-requires : goal.get-requires
get-requires g c =
    subst IsSome (slot_there g.N.Naming.class_name g.N.Naming.site_origin _ _ _ _ _ _ _ _ _ c.self.view_is) c.requires

pub returns : goal.returns
returns g c = slot_there g.N.Naming.class_name g.N.Naming.site_origin _ _ _ _ _ _ _ _ _ c.self.view_is ∙ c.get.ensures
