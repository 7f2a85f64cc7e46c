use Rattle.std.proofs.Common.{rules}
use Rattle.class_write.proofs.Faults.{refuses_itself}
use Rattle.class_write.proofs.contents.put_plain.Goals as goal

pub returns-in-Code-clause-fault : goal.returns-in-Code-clause-fault
returns-in-Code-clause-fault c = search (rules, refuses_itself)
