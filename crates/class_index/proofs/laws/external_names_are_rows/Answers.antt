use Rattle.class_index.proofs.ExternalNames.{external_class}
use Rattle.class_index.proofs.laws.external_names_are_rows.Goals as goal

pub returns : goal.returns
returns c = external_class
