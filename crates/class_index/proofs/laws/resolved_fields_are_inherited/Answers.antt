use Rattle.class_index.proofs.Inherits.{field_inherited}
use Rattle.class_index.proofs.laws.resolved_fields_are_inherited.Goals as goal

pub returns : goal.returns
returns c = field_inherited
