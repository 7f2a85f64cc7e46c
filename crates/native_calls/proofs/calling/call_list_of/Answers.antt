use Rattle.native_model.specs.Ends.{progress_of}
use Rattle.native_calls.proofs.Alike.{list_of_called}
use Rattle.native_calls.proofs.calling.call_list_of.Goals as goal

pub returns : goal.returns
returns g c =
    list_of_called c.args.at c.args.slots.now (progress_of c.args.progress.now) c.in_ok-elements.elements.items c.list_of.result c.args.world.now c.list_of.new.world c.requires c.in_ok-elements.ensures c.list_of.ensures
