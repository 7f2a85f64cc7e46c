use Rattle.std.proofs.Common.{sym, ◌∙◌}
use Rattle.native_model.proofs.Parts.{slot_there}
use Rattle.native_model.proofs.world.World.find_slot.Goals as goal

pub returns : goal.returns
returns g c = c.slot_in.ensures ∙ sym (slot_there g.N.Naming.class_name g.N.Naming.site_origin _ _ _ _ _ _ _ _ _ c.self.view_is)
