use Rattle.std.proofs.Common.{refl, Some, None}
use Rattle.std.specs.Prelude.{option_map}
use Rattle.jvm_heap.specs.Contents.{kind_of}
use Rattle.jvm_heap.specs.Renaming.{renamed_kind}
use Rattle.native_model.specs.Worlds.{as_array}
use Rattle.native_model.proofs.Parts.{told_there}
use Rattle.native_model.proofs.world.World.array_parts.Goals as goal

pub returns-in-Some-clause-parts : goal.returns-in-Some-clause-parts
returns-in-Some-clause-parts g c =
    told_there g.N.Naming.class_name g.N.Naming.site_origin _ _ _ _ _ (λ names. option_map (λ a. (renamed_kind (g.N.Naming.class_name names) (kind_of a.0), a.1.now)) c.array_in.result) as_array _ _ _ (Some c.in-Some.object.now) c.self.view_is c.in-Some.ensures.value (c.array_in.ensures.parts (g.N.Naming.class_name c.self.inside.names) (g.N.Naming.site_origin c.self.inside.names))

pub returns-in-None-clause-parts : goal.returns-in-None-clause-parts
returns-in-None-clause-parts g c =
    told_there g.N.Naming.class_name g.N.Naming.site_origin _ _ _ _ _ (λ names. None) as_array _ _ _ None c.self.view_is c.in-None.ensures.value refl
