-- What the code holds of tasks, as the definitions say it.
use Rattle.std.specs.Prelude.{List, map}
use Rattle.program_graph.specs.declared.tasks.Task as held_task
use Rattle.task_annotations.specs.Reading.{site_read, declaration_read}
use Rattle.program_graph.specs.Tasks.{Task}

abbrev pub task_read : held_task.Task → Task
task_read t = record { site = site_read t.site; declaration = declaration_read t.declaration }

abbrev pub tasks_read : List held_task.Task → List Task
tasks_read tasks = map task_read tasks
