use Rattle.jvm_valid.proofs.Begins.{each_call_begins}
use Rattle.jvm_valid.proofs.Bodies.{each_body_begins}
use Rattle.jvm_valid.proofs.laws.calls_begin_validly.Goals as goal

pub returns-clause-calls : goal.returns-clause-calls
returns-clause-calls c = each_call_begins

pub returns-clause-bodies : goal.returns-clause-bodies
returns-clause-bodies c = each_body_begins
