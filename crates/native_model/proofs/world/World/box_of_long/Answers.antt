use Rattle.std.proofs.Common.{rules, arith}
use Rattle.std.proofs.lemmas.Grind.{common_steps}
use Rattle.jvm_heap.specs.Heaps.{box_of_long}
use Rattle.jvm_heap.specs.Changes.{Makes}
use Rattle.jvm_heap.proofs.Renamed.{heaps_renamed}
use Rattle.native_model.proofs.Parts.{made_there, rest_there}
use Rattle.native_model.proofs.world.World.box_of_long.Goals as goal

pub returns-clause-makes : goal.returns-clause-makes
returns-clause-makes g c =
    let makes : Makes (box_of_long c.args.value c.self.inside.heap) c.box_of_long.result c.self.inside.heap c.box_of_long.new.self = first_of (search rules, grind (arith, common_steps)) in
    made_there g.N.Naming.class_name g.N.Naming.site_origin _ _ _ _ _ (λ n h. box_of_long c.args.value h) _ _ _ _ _ c.self.view_is ((heaps_renamed _ _).box_of_long c.args.value c.self.inside.heap) makes

pub returns-clause-rest : goal.returns-clause-rest
returns-clause-rest g c = rest_there g.N.Naming.class_name g.N.Naming.site_origin _ _ _ _ _ _ _ _ c.self.view_is
