use Rattle.std.proofs.Common.{◌≡◌, drop}
use Rattle.program_graph.specs.Tasks.{name_of}
use Rattle.program_graph.specs.Doubles.{next_double}
use Rattle.program_graph.specs.Reading.{tasks_read}
use Rattle.program_graph.proofs.doubles.next_double.Given as goal

abbrev pub invariant-loop-place : goal.invariant-loop-place
invariant-loop-place l = next_double name_of (tasks_read l.tasks) ≡ next_double name_of (tasks_read (drop l.place l.tasks))
