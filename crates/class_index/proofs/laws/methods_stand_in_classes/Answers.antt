use Rattle.class_index.proofs.DeclarationLemmas.{class_there}
use Rattle.class_index.proofs.laws.methods_stand_in_classes.Goals as goal

pub returns : goal.returns
returns c = class_there
