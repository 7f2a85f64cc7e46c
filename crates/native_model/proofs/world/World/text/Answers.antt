use Rattle.std.proofs.Common.{refl, Some, None}
use Rattle.native_model.specs.Worlds.{as_text}
use Rattle.native_model.proofs.Told.{looked, text_within, world_of}
use Rattle.native_model.proofs.world.World.text.Goals as goal

pub returns-in-Some-clause-units : goal.returns-in-Some-clause-units
returns-in-Some-clause-units g c =
    looked _ _ as_text _ _ _ _ _ _ _ (Some c.in-Some.object.now) _ (world_of c.self.view_is) c.in-Some.ensures.value (c.text_in.ensures _ _)

pub returns-in-Some-clause-few : goal.returns-in-Some-clause-few
returns-in-Some-clause-few g c =
    text_within (g.N.Naming.class_name c.self.inside.names) (g.N.Naming.site_origin c.self.inside.names) c.in-Some.object.now _ (c.text_in.ensures _ _) c.in-Some.ensures.within

pub returns-in-None-clause-units : goal.returns-in-None-clause-units
returns-in-None-clause-units g c = looked _ _ as_text _ _ _ _ _ _ _ None _ (world_of c.self.view_is) c.in-None.ensures.value refl
