use Rattle.jvm_heap.specs.Heaps.{allocated}
use Rattle.jvm_heap.specs.Renaming.{renamed_object}
use Rattle.jvm_heap.proofs.Renamed.{heaps_renamed}
use Rattle.native_model.proofs.Parts.{made_there, rest_there}
use Rattle.native_model.proofs.world.World.allocate.Goals as goal

pub returns-clause-makes : goal.returns-clause-makes
returns-clause-makes g c =
    made_there g.N.Naming.class_name g.N.Naming.site_origin _ _ _ _ _ (λ n h. allocated (renamed_object (g.N.Naming.class_name n) (g.N.Naming.site_origin n) c.args.object) h) _ _ _ _ _ c.self.view_is ((heaps_renamed _ _).allocated c.args.object _) c.allocate.ensures

pub returns-clause-rest : goal.returns-clause-rest
returns-clause-rest g c = rest_there g.N.Naming.class_name g.N.Naming.site_origin _ _ _ _ _ _ _ _ c.self.view_is
