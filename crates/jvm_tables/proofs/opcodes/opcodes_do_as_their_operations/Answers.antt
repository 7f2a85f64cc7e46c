use Rattle.jvm_tables.proofs.Told.{takes, gives, reads, writes, flows, throws, names, starts}
use Rattle.jvm_tables.proofs.opcodes.opcodes_do_as_their_operations.Goals as goal

pub returns-clause-takes : goal.returns-clause-takes
returns-clause-takes c = takes

pub returns-clause-gives : goal.returns-clause-gives
returns-clause-gives c = gives

pub returns-clause-reads : goal.returns-clause-reads
returns-clause-reads c = reads

pub returns-clause-writes : goal.returns-clause-writes
returns-clause-writes c = writes

pub returns-clause-flows : goal.returns-clause-flows
returns-clause-flows c = flows

pub returns-clause-throws : goal.returns-clause-throws
returns-clause-throws c = throws

pub returns-clause-names : goal.returns-clause-names
returns-clause-names c = names

pub returns-clause-initialises : goal.returns-clause-initialises
returns-clause-initialises c = starts
