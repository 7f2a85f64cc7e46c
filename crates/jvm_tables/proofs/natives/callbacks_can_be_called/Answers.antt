use Rattle.std.proofs.Common.{◌≡◌, true, refl}
use Rattle.jvm_tables.specs.declared.natives.Callback.{Callback}
use Rattle.jvm_tables.specs.declared.natives.Callback.TheVariants.{ToString, Equals, Accept, Apply, ApplyTwo, Test}
use Rattle.jvm_tables.specs.Callbacks.{called_back}
use Rattle.jvm_tables.specs.Externals.{externals}
use Rattle.jvm_tables.specs.Natives.{natives}
use Rattle.jvm_tables.specs.Once.{can_be_called}
use Rattle.jvm_tables.proofs.natives.callbacks_can_be_called.Goals as goal

callable : (callback : Callback) → can_be_called (called_back callback) ≡ true
unfolding externals natives
callable ToString = refl
callable Equals = refl
callable Accept = refl
callable Apply = refl
callable ApplyTwo = refl
callable Test = refl

pub returns : goal.returns
returns c = callable
