use Rattle.std.proofs.Common.{sym, ◌∙◌}
use Rattle.class_read.proofs.TwiceLemmas.{own_names, external_least, lesser_least}
use Rattle.class_read.proofs.names.program_of.Goals as goal

pub returns-in-Some-clause-fault : goal.returns-in-Some-clause-fault
returns-in-Some-clause-fault c =
    external_least c.args.classes.items c.in-Some.name c.in-Ok.ensures.distinct (sym (rw c.deref.ensures.value at c.in_ok-external.ensures) ∙ c.in-Some.is)

pub returns-in-None-clause-once : goal.returns-in-None-clause-once
returns-in-None-clause-once c = record {
  distinct = c.in-Ok.ensures.distinct;
  own = own_names c.args.classes.items (sym (rw c.deref.ensures.value at c.in_ok-external.ensures) ∙ c.in-None.is);
}

pub returns-in-Err-DuplicateClass-clause-fault : goal.returns-in-Err-DuplicateClass-clause-fault
returns-in-Err-DuplicateClass-clause-fault c =
    rw c.lesser_name.ensures (lesser_least c.args.classes.items c.in-Err-DuplicateClass.name c.in_ok-external.external (rw c.in-Err-DuplicateClass.field-0-is at c.in-Err-DuplicateClass.ensures.double) (rw c.deref.ensures.value at c.in_ok-external.ensures))
