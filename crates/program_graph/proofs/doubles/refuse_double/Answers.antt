use Rattle.std.proofs.Common.{sym, subst}
use Rattle.program_graph.specs.Tasks.{name_of}
use Rattle.program_graph.specs.Outcomes.{IsLeastDouble}
use Rattle.program_graph.specs.Reading.{tasks_read}
use Rattle.program_graph.proofs.Names.{task_name-IsUtf8}
use Rattle.program_graph.proofs.NameOrder.{rises, no_double, double}
use Rattle.program_graph.proofs.Refusals.{double-name}
use Rattle.program_graph.proofs.doubles.refuse_double.Goals as goal

pub text_of-requires : goal.text_of-requires
text_of-requires c =
    task_name-IsUtf8 c.in-Some.name.now (double-name (tasks_read c.args.tasks.now) c.in-Some.name.now c.requires.accepted (sym c.in-Some.ensures))

pub returns-in-None-clause-ok : goal.returns-in-None-clause-ok
returns-in-None-clause-ok c = no_double name_of (tasks_read c.args.tasks.now) (rises name_of (tasks_read c.args.tasks.now) c.requires.sorted) (sym c.in-None.ensures)

pub returns-in_ok-text_of-in-Some-clause-fault : goal.returns-in_ok-text_of-in-Some-clause-fault
returns-in_ok-text_of-in-Some-clause-fault c some =
    let l = double name_of (tasks_read c.args.tasks.now) c.in-Some.name.now (rises name_of (tasks_read c.args.tasks.now) c.requires.sorted) (sym c.in-Some.ensures) in
    subst (λ n. IsLeastDouble n (tasks_read c.args.tasks.now)) (sym c.in_ok-text_of-in-Some.ensures.text) (record { twice = l.twice; least = l.least })
