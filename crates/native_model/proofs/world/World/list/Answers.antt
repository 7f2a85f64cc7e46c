use Rattle.std.proofs.Common.{List, ℕ, refl, ap, ◌∙◌, Some, None}
use Rattle.native_model.specs.Worlds.{as_list}
use Rattle.native_model.proofs.Told.{looked, world_of}
use Rattle.native_model.proofs.Listing.{list_within}
use Rattle.native_model.proofs.world.World.list.Goals as goal

pub returns-in-Some-list_in-clause-list : goal.returns-in-Some-list_in-clause-list
returns-in-Some-list_in-clause-list g c =
    looked _ _ as_list _ _ _ _ _ _ _ (Some c.in-Some.object.now) _ (world_of c.self.view_is) c.in-Some.ensures.value (ap (λ (n : List ℕ). Some (n, c.in-Some-list_in.elements.now)) c.name_of.ensures ∙ c.in-Some-list_in.ensures _ _)

pub returns-in-Some-list_in-clause-few : goal.returns-in-Some-list_in-clause-few
returns-in-Some-list_in-clause-few g c =
    list_within (g.N.Naming.class_name c.self.inside.names) (g.N.Naming.site_origin c.self.inside.names) c.in-Some.object.now _ (c.in-Some-list_in.ensures _ _) c.in-Some.ensures.within

pub returns-in-None-list_in-clause-list : goal.returns-in-None-list_in-clause-list
returns-in-None-list_in-clause-list g c =
    looked _ _ as_list _ _ _ _ _ _ _ (Some c.in-Some.object.now) _ (world_of c.self.view_is) c.in-Some.ensures.value (c.in-None-list_in.ensures _ _)

pub returns-in-None-clause-list : goal.returns-in-None-clause-list
returns-in-None-clause-list g c = looked _ _ as_list _ _ _ _ _ _ _ None _ (world_of c.self.view_is) c.in-None.ensures.value refl
