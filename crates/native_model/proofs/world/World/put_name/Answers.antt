use Rattle.std.proofs.Common.{◌≡◌, Some, rules, arith}
use Rattle.std.proofs.lemmas.Grind.{common_steps}
use Rattle.jvm_heap.specs.Changes.{with_name, changed}
use Rattle.native_model.proofs.Changed.{can_set_name, name_set}
use Rattle.native_model.proofs.Told.{named, names_of, world_of}
use Rattle.native_model.proofs.world.World.put_name.Goals as goal

pub set_name-requires : goal.set_name-requires
set_name-requires g c = can_set_name _ _ _ _ _ _ _ _ _ _ _ (world_of c.self.view_is) c.requires

pub returns : goal.returns
returns g c =
    let change : changed (with_name c.args.name c.args.ordinal) c.args.number c.self.inside.heap ≡ Some c.set_name.new.self = first_of (search rules, grind (arith, common_steps)) in
    named (name_set _ _ _ _ _ _ _ _ _ _ _ _ (world_of c.self.view_is) change) (names_of c.self.view_is)
