use Rattle.std.proofs.Common.{◌≡◌, drop}
use Rattle.task_annotations.specs.Reading.{all_now}
use Rattle.program_graph.specs.Rows.{links, links_from}
use Rattle.program_graph.specs.Reading.{task_read, tasks_read}
use Rattle.program_graph.proofs.Chains.{prefixed}
use Rattle.program_graph.proofs.rows.links_of.Given as goal

abbrev pub invariant-loop-place : goal.invariant-loop-place
invariant-loop-place l =
    links (tasks_read l.tasks) (task_read l.task)
    ≡ prefixed l.ids.items (links_from (tasks_read l.tasks) (task_read l.task) l.place (all_now (drop l.place l.inputs)))
