use Rattle.class_index.proofs.ExternalNames.{callback_resolves}
use Rattle.class_index.proofs.laws.callbacks_resolve.Goals as goal

pub returns : goal.returns
returns c = callback_resolves
