use Rattle.std.proofs.Common.{Err, ap, ◌∙◌}
use Rattle.mill_top.proofs.ReadingLaws.{none_out_of_order}
use Rattle.mill_top.proofs.reading.tree_of.Goals as goal

pub unreachable-requires : goal.unreachable-requires
unreachable-requires c =
    none_out_of_order c.args.files.items c.in-Err-OutOfOrder.field-0-0 c.requires
    (c.of.ensures.out_of_order c.in-Err-OutOfOrder.field-0-0 (c.in-Err-OutOfOrder.is ∙ ap (λ fault. Err fault) c.in-Err-OutOfOrder.field-0-is))
