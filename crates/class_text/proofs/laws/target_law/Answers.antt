use Rattle.class_text.proofs.Targets.{first_wrong}
use Rattle.class_text.proofs.laws.target_law.Goals as goal

pub returns : goal.returns
returns c = first_wrong
