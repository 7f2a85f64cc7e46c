use Rattle.class_read.proofs.loading.verified.Goals as goal

pub returns-in-Err-clause-fault : goal.returns-in-Err-clause-fault
returns-in-Err-clause-fault c = c.of_names.ensures c.args.classes.items c.in-Err.ensures.fault
