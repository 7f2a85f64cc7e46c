use Rattle.mill_top.proofs.TreeLaws.{no_tree_fault}
use Rattle.mill_top.proofs.taking.no_files.Goals as goal

pub unreachable-requires : goal.unreachable-requires
unreachable-requires c = no_tree_fault c.new.result.items c.in-Err.field-0 c.new.ensures.items c.in-Err.ensures.out_of_order c.in-Err.ensures.never_memory
