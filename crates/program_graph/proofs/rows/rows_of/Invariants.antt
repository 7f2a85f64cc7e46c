use Rattle.std.proofs.Common.{◌≡◌, drop}
use Rattle.program_graph.specs.Rows.{rows_for}
use Rattle.program_graph.specs.Reading.{tasks_read}
use Rattle.program_graph.proofs.Chains.{prefixed}
use Rattle.program_graph.proofs.rows.rows_of.Given as goal

abbrev pub invariant-loop-place : goal.invariant-loop-place
invariant-loop-place l =
    rows_for (tasks_read l.tasks) (tasks_read l.tasks) ≡ prefixed l.rows.items (rows_for (tasks_read l.tasks) (tasks_read (drop l.place l.tasks)))
