use Rattle.std.proofs.Common.{◌≡◌, take, map, All}
use Rattle.task_annotations.specs.Reading.{sites_read}
use Rattle.program_graph.specs.Tasks.{IsAccepted}
use Rattle.program_graph.specs.Reading.{tasks_read}
use Rattle.program_graph.proofs.tasks.tasks_of.Given as goal

abbrev pub invariant-loop-at : goal.invariant-loop-at
invariant-loop-at l =
    All IsAccepted (tasks_read l.tasks.items) × (map (λ t. t.site) (tasks_read l.tasks.items) ≡ sites_read (take l.at l.sites))
