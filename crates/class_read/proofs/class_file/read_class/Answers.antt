use Rattle.std.proofs.Common.{arith}
use Rattle.class_read.proofs.Files.{all_found, all_faults, all_said, read_only, one_class}
use Rattle.class_read.proofs.class_file.read_class.Goals as goal

pub returns-clause-found : goal.returns-clause-found
returns-clause-found c = all_found c.args.bytes.now c.whole_class_in.result (λ i. omega (arith, c.type_inv.bytes i)) c.whole_class_in.ensures

pub returns-clause-only : goal.returns-clause-only
returns-clause-only c = read_only c.args.bytes.now c.whole_class_in.result c.whole_class_in.ensures

pub returns-clause-fault : goal.returns-clause-fault
returns-clause-fault c = all_faults c.args.bytes.now c.whole_class_in.result c.whole_class_in.ensures

pub returns-clause-one : goal.returns-clause-one
returns-clause-one c = one_class c.args.bytes.now

pub returns-clause-says : goal.returns-clause-says
returns-clause-says c = all_said c.args.bytes.now c.whole_class_in.result (λ i. omega (arith, c.type_inv.bytes i)) c.whole_class_in.ensures
