use Rattle.class_write.proofs.Complete.{class_none}
use Rattle.class_write.proofs.laws.misfit_law.Goals as goal

pub returns : goal.returns
returns c = class_none
