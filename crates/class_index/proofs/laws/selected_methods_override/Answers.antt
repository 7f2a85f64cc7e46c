use Rattle.class_index.proofs.Inherits.{selection_is}
use Rattle.class_index.proofs.laws.selected_methods_override.Goals as goal

pub returns : goal.returns
returns c = selection_is
