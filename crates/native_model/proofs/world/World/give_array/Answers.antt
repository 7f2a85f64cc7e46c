use Rattle.jvm_heap.specs.Contents.{kind_of}
use Rattle.jvm_heap.specs.Objects.{array}
use Rattle.jvm_heap.specs.Heaps.{allocated}
use Rattle.jvm_heap.specs.Renaming.{renamed_kind}
use Rattle.jvm_heap.proofs.Renamed.{heaps_renamed}
use Rattle.native_model.proofs.Parts.{given_there}
use Rattle.native_model.proofs.world.World.give_array.Goals as goal

pub returns : goal.returns
returns g c =
    given_there g.N.Naming.class_name g.N.Naming.site_origin _ _ _ _ _ (λ n h. allocated (array (renamed_kind (g.N.Naming.class_name n) (kind_of c.args.kind)) c.args.elements) h) _ _ _ _ _ _ c.self.view_is ((heaps_renamed _ _).allocated (array (kind_of c.args.kind) c.args.elements) _) c.put_array-made.ensures c.end_of_making.ensures
