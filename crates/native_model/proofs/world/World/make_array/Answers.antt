use Rattle.std.proofs.Common.{sym, ap, ◌∙◌}
use Rattle.jvm_heap.specs.Contents.{kind_of}
use Rattle.jvm_heap.specs.Heaps.{allocated, fresh_array}
use Rattle.jvm_heap.specs.Renaming.{renamed, renamed_kind}
use Rattle.jvm_heap.proofs.Renamed.{objects_renamed, heaps_renamed}
use Rattle.native_model.proofs.Parts.{made_there, rest_there}
use Rattle.native_model.proofs.world.World.make_array.Goals as goal

pub returns-clause-makes : goal.returns-clause-makes
returns-clause-makes g c =
    made_there g.N.Naming.class_name g.N.Naming.site_origin _ _ _ _ _ (λ n h. allocated (fresh_array (renamed_kind (g.N.Naming.class_name n) (kind_of c.args.kind)) c.args.length) h) _ _ _ _ _ c.self.view_is
    (ap (λ o. allocated o (renamed (g.N.Naming.class_name c.self.inside.names) (g.N.Naming.site_origin c.self.inside.names) c.self.inside.heap)) (sym ((objects_renamed (g.N.Naming.class_name c.self.inside.names) (g.N.Naming.site_origin c.self.inside.names)).fresh_array (kind_of c.args.kind) c.args.length))
    ∙ (heaps_renamed _ _).allocated (fresh_array (kind_of c.args.kind) c.args.length) c.self.inside.heap) c.alloc_array.ensures

pub returns-clause-rest : goal.returns-clause-rest
returns-clause-rest g c = rest_there g.N.Naming.class_name g.N.Naming.site_origin _ _ _ _ _ _ _ _ c.self.view_is
