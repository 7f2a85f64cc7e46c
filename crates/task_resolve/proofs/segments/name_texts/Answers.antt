use Rattle.std.proofs.Common.{[]}
use Rattle.task_model.specs.TaskNames.{is_name_segment}
use Rattle.task_resolve.proofs.ListLaws.{each}
use Rattle.task_resolve.proofs.segments.name_texts.Goals as goal

pub name_text-requires : goal.name_text-requires
name_text-requires c =
    each is_name_segment (λ name. name.now) c.args.names.now c.loop-name.name-index (record { ref_ptr = (0, 0); now = [] }) c.loop-name-test.true c.requires
