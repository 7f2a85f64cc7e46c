use Rattle.native_model.specs.Ends.{progress_of}
use Rattle.native_calls.proofs.Alike.{taken_alike}
use Rattle.native_calls.proofs.calling.on_slots.Goals as goal

pub returns : goal.returns
returns g c =
    taken_alike c.args.group c.args.at c.args.slots.now (progress_of c.args.progress.now) c.on_given.result c.args.world.now c.on_given.new.world c.requires.among c.on_given.ensures
