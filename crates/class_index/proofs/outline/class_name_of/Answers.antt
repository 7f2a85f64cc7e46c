use Rattle.std.proofs.Common.{sym}
use Rattle.class_model.proofs.NameOfClass.{class_at-IsName}
use Rattle.class_index.proofs.outline.class_name_of.Goals as goal

pub of_valid-requires : goal.of_valid-requires
of_valid-requires c = class_at-IsName c.args.pool.now c.args.number c.in-Some.text.now c.requires (sym c.in-Some.ensures)
