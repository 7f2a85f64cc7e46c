use Rattle.class_index.proofs.Inherits.{method_inherited}
use Rattle.class_index.proofs.laws.resolved_methods_are_inherited.Goals as goal

pub returns : goal.returns
returns c = method_inherited
