use Rattle.jvm_heap.specs.Heaps.{box_of_boolean}
use Rattle.jvm_heap.proofs.Renamed.{heaps_renamed}
use Rattle.native_model.proofs.Parts.{made_there, rest_there}
use Rattle.native_model.proofs.world.World.box_of_boolean.Goals as goal

pub returns-clause-makes : goal.returns-clause-makes
returns-clause-makes g c =
    made_there g.N.Naming.class_name g.N.Naming.site_origin _ _ _ _ _ (λ n h. box_of_boolean c.args.value h) _ _ _ _ _ c.self.view_is ((heaps_renamed _ _).box_of_boolean c.args.value _) c.box_of_boolean.ensures

pub returns-clause-rest : goal.returns-clause-rest
returns-clause-rest g c = rest_there g.N.Naming.class_name g.N.Naming.site_origin _ _ _ _ _ _ _ _ c.self.view_is
