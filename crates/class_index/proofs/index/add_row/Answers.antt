use Rattle.class_index.proofs.Named.{found_has}
use Rattle.class_index.proofs.index.add_row.Goals as goal

pub outer_outline_of-requires : goal.outer_outline_of-requires
outer_outline_of-requires c = found_has c.in-Some.row c.args.row c.in-Some.ensures
