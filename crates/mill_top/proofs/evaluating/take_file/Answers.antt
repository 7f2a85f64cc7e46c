use Rattle.std.proofs.Common.{subst, sym}
use Rattle.out_store.specs.Names.{IsTaskName}
use Rattle.mill_top.specs.Walks.{HasNext}
use Rattle.mill_top.proofs.PathLaws.{letter_task}
use Rattle.mill_top.proofs.evaluating.take_file.Goals as goal

pub take-requires-clause-named : goal.take-requires-clause-named
take-requires-clause-named g c = subst IsTaskName (sym c.in_ok-job.ensures.task) (letter_task c.args.file.task c.requires.low c.requires.high)

pub take-requires-clause-next : goal.take-requires-clause-next
take-requires-clause-next g c = subst (HasNext c.args.out.now.numbers (g.S.Store.content c.args.out.now.store)) (sym c.in_ok-job.ensures.task) c.requires.next
