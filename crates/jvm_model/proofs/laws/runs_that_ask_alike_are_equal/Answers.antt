use Rattle.jvm_model.proofs.Alike.{alike_runs_are_equal}
use Rattle.jvm_model.proofs.laws.runs_that_ask_alike_are_equal.Goals as goal

pub returns : goal.returns
returns c = alike_runs_are_equal
