use Rattle.jvm_model.proofs.Further.{runs_go_no_further}
use Rattle.jvm_model.proofs.laws.runs_go_no_further.Goals as goal

pub returns : goal.returns
returns c = runs_go_no_further
