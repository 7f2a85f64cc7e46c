use Rattle.program_graph.specs.Reading.{task_read}
use Rattle.program_graph.proofs.Names.{task_name-IsUtf8}
use Rattle.program_graph.proofs.Refusals.{accepted-name}
use Rattle.program_graph.proofs.rows.row_of.Goals as goal

pub text_of-requires : goal.text_of-requires
text_of-requires c = task_name-IsUtf8 c.args.task.now.declaration.name.now (accepted-name (task_read c.args.task.now) c.requires.accepted)
