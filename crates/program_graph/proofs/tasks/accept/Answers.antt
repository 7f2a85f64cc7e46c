use Rattle.std.proofs.Common.{sym}
use Rattle.task_annotations.specs.Reading.{declaration_read}
use Rattle.program_graph.proofs.Declared.{declared-names}
use Rattle.program_graph.proofs.Names.{task_name-IsUtf8}
use Rattle.program_graph.proofs.Refusals.{word-IsUtf8}
use Rattle.program_graph.proofs.tasks.accept.Goals as goal

pub text_of-requires : goal.text_of-requires
text_of-requires c =
    task_name-IsUtf8 c.args.declaration.name.now
    (declared-names c.args.site.class.now.pool c.args.site.method.now (declaration_read c.args.declaration) c.requires.0).name

pub text_of-requires-in-Some : goal.text_of-requires-in-Some
text_of-requires-in-Some c = word-IsUtf8 c.args.declaration.kind c.in-Some.kind.now (sym c.in-Some.ensures)
